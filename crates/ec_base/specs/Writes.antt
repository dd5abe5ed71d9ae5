-- What a string writes, as a relation: no state, one rule for each kind of text.
use Rattle.std.specs.Prelude.{◌≡◌, ◌≢◌, ℕ, ℤ, List, [], ◌∷◌, ◌++◌, length, Some, codes}
use Rattle.std.specs.Fmt.{signed_decimal}
use Rattle.ec_base.specs.Format.{formatted, conversions}

-- what a string with these values writes: `%d` and `%ld` the next value, `%%` a `%`, and each byte but `%`, which is
-- 37, itself
pub data Writes : List ℕ → List ℤ → List ℕ → Type 0 where
  done : Writes [] [] []
  byte : {c : ℕ} {s t : List ℕ} {vs : List ℤ} → c ≢ 37 → Writes s vs t → Writes (c ∷ s) vs (c ∷ t)
  percent : {s t : List ℕ} {vs : List ℤ} → Writes s vs t → Writes (codes "%%" ++ s) vs (codes "%" ++ t)
  number : {s t : List ℕ} {v : ℤ} {vs : List ℤ}
      → Writes s vs t → Writes (codes "%d" ++ s) (v ∷ vs) (signed_decimal v ++ t)
  long : {s t : List ℕ} {v : ℤ} {vs : List ℤ}
      → Writes s vs t → Writes (codes "%ld" ++ s) (v ∷ vs) (signed_decimal v ++ t)

-- a string that asks for so many values writes them
abbrev pub StringsWrite : Type 0
StringsWrite = (s : List ℕ) (vs : List ℤ) → conversions s ≡ Some (length vs) → Writes s vs (formatted s vs)

-- a string that writes some values asks for just so many
abbrev pub OnlyStringsWrite : Type 0
OnlyStringsWrite = (s : List ℕ) (vs : List ℤ) (t : List ℕ) → Writes s vs t → conversions s ≡ Some (length vs)

-- and it writes one text
abbrev pub StringsWriteOneText : Type 0
StringsWriteOneText = (s : List ℕ) (vs : List ℤ) (t : List ℕ) → Writes s vs t → t ≡ formatted s vs
