-- Births that are the same, and lists that hold no other births than another list.
use Rattle.std.proofs.Common.{◌≡◌, ◌≤◌, ◌+◌, ◌∙◌, ℕ, Bool, true, false, cond, List, [], ◌∷◌, get_or, refl, ap, Option, Some, None, subst, arith}
use Rattle.std.specs.List.{sum_by, All}
use Rattle.std.proofs.lemmas.Bool.{eqb-true, eq-eqb, and_parts, and_from}
use Rattle.std.proofs.lemmas.List.Elements.{All-head, All-tail}
use Rattle.std.proofs.lemmas.List.Sums.{sum_by-cons, get_or-le-sum_by}
use Rattle.ec_base.specs.declared.value.Birth.{Birth}
use Rattle.ec_world_laws.specs.Rooted.{is_birth}

abbrev pub weight : Bool → ℕ
weight b = cond b 1 0

-- whether two births are the same, or both none
abbrev pub is_same : Option Birth → Option Birth → Bool
is_same None None = true
is_same None (Some x) = false
is_same (Some b) o = is_birth b o

pub same_itself : (o : Option Birth) → is_same o o ≡ true
same_itself None = refl
same_itself (Some b) =
    and_from _ _ (and_from _ _ (eq-eqb b.node b.node refl) (eq-eqb b.frame b.frame refl)) (eq-eqb b.number b.number refl)

same_fields : (x b : Birth) → x.node ≡ b.node → x.frame ≡ b.frame → x.number ≡ b.number → x ≡ b
same_fields x b p q r =
    let at : ℕ → ℕ → ℕ → Birth = λ node frame number. record { node = node; frame = frame; number = number } in
    ap (λ k. at k x.frame x.number) p ∙ (ap (λ k. at b.node k x.number) q ∙ ap (λ k. at b.node b.frame k) r)

same_births : (o x : Option Birth) → is_same o x ≡ true → x ≡ o
same_births None None h = refl
same_births None (Some x) h = cc
same_births (Some b) None h = cc
same_births (Some b) (Some x) h =
    let p = and_parts _ _ h in
    let q = and_parts _ _ p.0 in
    ap Some (same_fields x b (eqb-true x.node b.node q.0) (eqb-true x.frame b.frame q.1) (eqb-true x.number b.number p.1))

found_first : (P : Option Birth → Type 0) (x y : Option Birth) (b : Bool) (rest : ℕ) → is_same x y ≡ b → P y → (1 ≤ rest → P x) → 1 ≤ weight b + rest → P x
found_first P x y true rest e here later h = subst P (same_births x y e) here
found_first P x y false rest e here later h = later (omega (arith, h))

-- what holds of each birth of a list holds of one that has a weight there
pub found : (P : Option Birth → Type 0) (x : Option Birth) (xs : List (Option Birth)) → All P xs → 1 ≤ sum_by (λ y. weight (is_same x y)) xs → P x
found P x [] all h = absurd (omega (arith, h))
found P x (y ∷ xs) all h =
    let a = sum_by-cons (λ z. weight (is_same x z)) y xs in
    found_first P x y (is_same x y) (sum_by (λ z. weight (is_same x z)) xs) refl (All-head P y xs all) (λ l. found P x xs (All-tail P y xs all) l) (omega (arith, a, h))

-- what holds of each birth of a list holds of those of a list that weighs no more
pub all_fewer : (P : Option Birth → Type 0) (xs ys : List (Option Birth)) → ((h : Option Birth → ℕ) → sum_by h ys ≤ sum_by h xs) → All P xs → All P ys
all_fewer P xs ys fewer all k d l =
    let x : Option Birth = get_or ys k d in
    let t : Option Birth → ℕ = λ y. weight (is_same x y) in
    let a = get_or-le-sum_by t ys k d l in
    let b = fewer t in
    let c = ap weight (same_itself x) in
    found P x xs all (omega (arith, a, b, c))
