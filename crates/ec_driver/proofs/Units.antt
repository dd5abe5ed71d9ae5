-- The steps of each unit, where all choices are node 0's.
use Rattle.std.proofs.Common.{◌≡◌, ◌≤◌, ◌+◌, ◌*◌, ◌==◌, ℕ, zero, suc, Bool, true, false, not, cond, List, [], ◌∷◌, refl, ap, ◌∙◌, arith, count_by}
use Rattle.std.proofs.lemmas.List.Sums.{sum_by-cons}
use Rattle.std.proofs.lemmas.Bool.Decides.{nat_tests}
use Rattle.ec_core.specs.declared.choice.Stamped.{Stamped}
use Rattle.ec_driver.specs.Drive.{AreOwn, eu_steps, su_steps}
use Rattle.ec_driver.specs.Kept.{is_eu, steps_of, unit_of}

-- two tests that agree on each item count the same
same_count : (p q : Stamped → Bool) (list : List Stamped) → AreOwn list → ((x : Stamped) → x.choice.node ≡ 0 → p x ≡ q x) → count_by p list ≡ count_by q list
same_count p q [] own h = refl
same_count p q (x ∷ xs) own h =
    let here : cond {A = ℕ} (p x) 1 0 ≡ cond (q x) 1 0 = ap (λ b. cond {A = ℕ} b 1 0) (h x own.0) in
    let rest = same_count p q xs own.1 h in
    omega (arith, sum_by-cons (λ (z : Stamped). cond {A = ℕ} (p z) 1 0) x xs, sum_by-cons (λ (z : Stamped). cond {A = ℕ} (q z) 1 0) x xs, here, rest)

eu_unit : (b : Bool) (n : ℕ) → n ≡ 0 → (2 * n + cond b 0 1 == 0) ≡ b
eu_unit true n e = grind (arith, nat_tests)
eu_unit false n e = grind (arith, nat_tests)

su_unit : (b : Bool) (n : ℕ) → n ≡ 0 → (2 * n + cond b 0 1 == 1) ≡ not b
su_unit true n e = grind (arith, nat_tests)
su_unit false n e = grind (arith, nat_tests)

no_unit : (b : Bool) (n k : ℕ) → n ≡ 0 → (2 * n + cond b 0 1 == suc (suc k)) ≡ false
no_unit true n k e = grind (arith, nat_tests)
no_unit false n k e = grind (arith, nat_tests)

pub eu_is : (list : List Stamped) → AreOwn list → steps_of 0 list ≡ eu_steps list
eu_is list own = same_count (λ x. unit_of x.choice == 0) (λ x. is_eu x.choice.act) list own (λ x e. eu_unit (is_eu x.choice.act) x.choice.node e)

pub su_is : (list : List Stamped) → AreOwn list → steps_of 1 list ≡ su_steps list
su_is list own = same_count (λ x. unit_of x.choice == 1) (λ x. not (is_eu x.choice.act)) list own (λ x e. su_unit (is_eu x.choice.act) x.choice.node e)

none_counted : (list : List Stamped) → count_by (λ x. false) list ≡ 0
none_counted [] = refl
none_counted (x ∷ xs) = omega (arith, sum_by-cons (λ (z : Stamped). cond {A = ℕ} false 1 0) x xs, none_counted xs)

others_none : (k : ℕ) (list : List Stamped) → AreOwn list → steps_of (suc (suc k)) list ≡ 0
others_none k list own = same_count (λ x. unit_of x.choice == suc (suc k)) (λ x. false) list own (λ x e. no_unit (is_eu x.choice.act) x.choice.node k e) ∙ none_counted list

-- no unit makes more steps than each of node 0's may
pub each_within : (most : ℕ) (list : List Stamped) → AreOwn list → eu_steps list ≤ most → su_steps list ≤ most → (unit : ℕ) → steps_of unit list ≤ most
each_within most list own eu su zero = omega (arith, eu_is list own)
each_within most list own eu su (suc zero) = omega (arith, su_is list own)
each_within most list own eu su (suc (suc k)) = omega (arith, others_none k list own)
