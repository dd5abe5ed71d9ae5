-- A name that is new: one of the words AA to PP, since fewer than 256 names were declared.
use Rattle.std.proofs.Common.{◌≡◌, refl, sym, ◌∙◌, ap, subst, ℕ, zero, suc, ◌+◌, ◌-◌, ◌*◌, ◌/◌, ◌%◌, ◌<◌, ◌⊎◌, inl, inr, Bool, true, false, true≢false, ◌&&◌, not, List, [], ◌∷◌, length, map, nat_eq, arith}
use Rattle.std.specs.Prelude.{Some, None, option_map, is_none, if◌then◌else◌}
use Rattle.std.specs.List.{list_any}
use Rattle.std.proofs.lemmas.Bool.{and_from, or_parts, eq-eqb, ne_eqb, cases_eq}
use Rattle.std.proofs.lemmas.Bool.Decides.{nat_tests}
use Rattle.std.proofs.lemmas.List.{length-map}
use Rattle.std.proofs.lemmas.Map.Steps.{le-length_from_below}
use Rattle.ec_small.specs.Words.{same, is_among, reserved, place, is_name}
use Rattle.ec_base.specs.Lexical.{is_identifier}
use Rattle.ec_small.specs.Grammar.{Names}
use Rattle.ec_small.specs.Descent.{is_new}
use Rattle.ec_small.proofs.Fronts.{same_is}

-- ---- a number below n that is none of fewer than n

module _ (xs : List ℕ) where
  abbrev Missing : ℕ → Type 0
  Missing n = (k : ℕ) × (k < n) × (list_any (nat_eq k) xs ≡ false)

  abbrev Filled : ℕ → Type 0
  Filled n = (k : ℕ) → k < n → list_any (nat_eq k) xs ≡ true

  one_more : (n : ℕ) → Filled n → list_any (nat_eq n) xs ≡ true → Filled (suc n)
  one_more n filled here k h = by (cases_eq k n)
    where
      by : ((k ≡ n) ⊎ (k ≡ n → ⊥)) → list_any (nat_eq k) xs ≡ true
      by (inl e) = subst (λ z. list_any (nat_eq z) xs ≡ true) (sym e) here
      by (inr e) = filled k (omega arith)

  missing_or_filled : (n : ℕ) → Missing n ⊎ Filled n
  missing_or_filled zero = inr (λ k h. absurd (omega arith))
  missing_or_filled (suc n) = by (list_any (nat_eq n) xs) refl (missing_or_filled n)
    where
      by : (b : Bool) → list_any (nat_eq n) xs ≡ b → (Missing n ⊎ Filled n) → Missing (suc n) ⊎ Filled (suc n)
      by b e (inl m) = inl (m.0, omega arith, m.2)
      by true e (inr f) = inr (one_more n f e)
      by false e (inr f) = inl (n, omega arith, e)

  missing : (n : ℕ) → length xs < n → Missing n
  missing n short = by (missing_or_filled n)
    where
      by : (Missing n ⊎ Filled n) → Missing n
      by (inl m) = m
      by (inr f) = absurd (omega (arith, le-length_from_below xs n f))

-- ---- words of two letters

abbrev word_of : ℕ → List ℕ
word_of k = (65 + k / 16) ∷ (65 + k % 16) ∷ []

abbrev number_of : List ℕ → ℕ
number_of (a ∷ b ∷ w) = 16 * (a - 65) + (b - 65)
number_of _ = 0

number_of-word_of : (k : ℕ) → number_of (word_of k) ≡ k
number_of-word_of k = omega arith

other : (w : List ℕ) (k : ℕ) → nat_eq k (number_of w) ≡ false → same w (word_of k) ≡ false
other w k h = by (same w (word_of k)) refl
  where
    by : (b : Bool) → same w (word_of k) ≡ b → b ≡ false
    by true e = absurd (true≢false (sym (eq-eqb k (number_of w) (sym (ap number_of (same_is w (word_of k) e) ∙ number_of-word_of k))) ∙ h))
    by false e = refl

no_place : (names : Names) (k : ℕ) → list_any (nat_eq k) (map number_of names) ≡ false → place names (word_of k) ≡ None
no_place [] k h = refl
no_place (w ∷ names) k h =
    let p = or_parts (nat_eq k (number_of w)) (list_any (nat_eq k) (map number_of names)) h in
    ap (λ b. if b then Some 0 else option_map suc (place names (word_of k))) (other w k p.0) ∙ ap (option_map suc) (no_place names k p.1)

-- ---- none of them is reserved

behind : (b c : Bool) → (b && (c && false)) ≡ false
behind true true = refl
behind true false = refl
behind false c = refl

longer : (n l x y z : ℕ) (xs : List ℕ) → same (n ∷ l ∷ []) (x ∷ y ∷ z ∷ xs) ≡ false
longer n l x y z xs = behind (nat_eq n x) (nat_eq l y)

apart : (n l : ℕ) → n < 105 → same (n ∷ l ∷ []) (105 ∷ 102 ∷ []) ≡ false
apart n l h = ap (λ b. b && (nat_eq l 102 && true)) (ne_eqb n 105 (λ e. absurd (omega arith)))

not_reserved : (n l : ℕ) → n < 105 → is_among (n ∷ l ∷ []) reserved ≡ false
not_reserved n l h = simp (longer, apart n l h)

-- ---- a new name

identifier : (k : ℕ) → k < 256 → is_identifier (word_of k) ≡ true
identifier k h = grind (arith, nat_tests)

pub new_name : (names : Names) → length names < 256 → (w : List ℕ) × (is_new names w ≡ true) × (is_identifier w ≡ true)
new_name names room =
    let m = missing (map number_of names) 256 (omega (arith, length-map names number_of)) in
    let h : 65 + m.0 / 16 < 105 = omega arith in (
      word_of m.0,
      and_from (is_name (word_of m.0)) (is_none (place names (word_of m.0))) (ap (λ b. not b && true) (not_reserved (65 + m.0 / 16) (65 + m.0 % 16) h)) (ap is_none (no_place names m.0 m.2)),
      identifier m.0 m.1,
    )
