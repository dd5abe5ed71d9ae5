-- The order of refusals, and the least of two lists.
use Rattle.std.proofs.Common.{◌≡◌, refl, sym, ap, ◌∙◌, ℕ, Bool, true, false, ◌||◌, ◌&&◌, List, [], ◌∷◌, ◌++◌, Option, Some, None, arith}
use Rattle.std.proofs.lemmas.Bool.{false≢true}
use Rattle.std.proofs.lemmas.Bool.Decides.{nat_tests}
use Rattle.std.specs.Prelude.{◌==◌, nat_lt}
use Rattle.ec_types.specs.declared.refusal.TypeRefusal.{TypeRefusal}
use Rattle.ec_types.specs.Refusals.{is_before, sooner, first, IsLeast}

-- number by number, the first being weightiest
abbrev less : ℕ → ℕ → Bool → Bool
less m n then = nat_lt m n || ((m == n) && then)

less_trans : (k m n : ℕ) (p q r : Bool) → (p ≡ false → q ≡ false → r ≡ false) → less k m p ≡ false → less m n q ≡ false → less k n r ≡ false
less_trans k m n p q r h e f = grind (arith, nat_tests)

-- and the other way round
less_asym : (m n : ℕ) (p q : Bool) → (p ≡ true → q ≡ false) → less m n p ≡ true → less n m q ≡ false
less_asym m n p q h e = grind (arith, nat_tests)

least_trans : (k m n : ℕ) → nat_lt k m ≡ false → nat_lt m n ≡ false → nat_lt k n ≡ false
least_trans k m n e f = grind (arith, nat_tests)

least_asym : (m n : ℕ) → nat_lt m n ≡ true → nat_lt n m ≡ false
least_asym m n e = grind (arith, nat_tests)

not_before_trans : (a b c : TypeRefusal) → is_before c b ≡ false → is_before b a ≡ false → is_before c a ≡ false
not_before_trans a b c e f =
    less_trans c.at.from b.at.from a.at.from _ _ _
    (less_trans c.what b.what a.what _ _ _ (least_trans c.at.to b.at.to a.at.to))
    e f

before_asym : (a b : TypeRefusal) → is_before b a ≡ true → is_before a b ≡ false
before_asym a b e =
    less_asym b.at.from a.at.from _ _ (less_asym b.what a.what _ _ (least_asym b.at.to a.at.to)) e

before_trans : (a b c : TypeRefusal) → is_before b a ≡ true → is_before c b ≡ true → is_before c a ≡ true
before_trans a b c e f = told (is_before c a) refl
  where
    told : (r : Bool) → is_before c a ≡ r → is_before c a ≡ true
    told true g = g
    told false g = absurd (false≢true (sym (not_before_trans b a c g (before_asym a b e)) ∙ f))

-- the first of three is found from either side
sooner_sooner :
    (a b c : TypeRefusal) → sooner a (Some (sooner b (Some c))) ≡ sooner (sooner a (Some b)) (Some c)
sooner_sooner a b c = told (is_before b a) refl (is_before c b) refl
  where
    told :
        (p : Bool) → is_before b a ≡ p → (q : Bool) → is_before c b ≡ q
        → sooner a (Some (sooner b (Some c))) ≡ sooner (sooner a (Some b)) (Some c)
    told true e true f = rw (f, before_trans a b c e f, e, f) refl
    told true e false f = rw (f, e, f) refl
    told false e true f = rw (f, e) refl
    told false e false f = rw (f, e, not_before_trans a b c f e) refl

abbrev earliest : Option TypeRefusal → Option TypeRefusal → Option TypeRefusal
earliest None b = b
earliest (Some a) b = Some (sooner a b)

sooner_earliest : (a : TypeRefusal) (f g : Option TypeRefusal) → Some (sooner a (earliest f g)) ≡ earliest (Some (sooner a f)) g
sooner_earliest a None g = refl
sooner_earliest a (Some b) None = refl
sooner_earliest a (Some b) (Some c) = ap Some (sooner_sooner a b c)

-- the first of two lists is the sooner of their firsts
first_append : (why more : List TypeRefusal) → first (why ++ more) ≡ earliest (first why) (first more)
first_append [] more = refl
first_append (r ∷ rs) more = ap (λ f. Some (sooner r f)) (first_append rs more) ∙ sooner_earliest r (first rs) (first more)

pub first_of_both :
    (a b : TypeRefusal) (why more : List TypeRefusal) → IsLeast a why → IsLeast b more → IsLeast (sooner a (Some b)) (why ++ more)
first_of_both a b why more p q = first_append why more ∙ rw (p, q) refl
