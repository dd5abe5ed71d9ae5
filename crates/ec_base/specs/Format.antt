-- What `printf` writes: its string with each `%d` and `%ld` replaced by the next value and each `%%` by `%`.
use Rattle.std.specs.Prelude.{◌≡◌, ℕ, suc, ◌==◌, if◌then◌else◌, List, [], ◌∷◌, ◌++◌, Option, Some, None, ℤ}
use Rattle.std.specs.Fmt.{signed_decimal}
use Rattle.ec_base.specs.declared.format.Place.{Place}
use Rattle.ec_base.specs.declared.format.Place.TheVariants as place
use Rattle.ec_base.specs.declared.format.Effect.{Effect}
use Rattle.ec_base.specs.declared.format.Effect.TheVariants as effect

-- what a byte does after a `%`: it ends a conversion, or is the `l` of `%ld`
abbrev pub after_percent : ℕ → Place × Effect
after_percent c =
    if c == 37 then (place.Plain, effect.Byte 37)
    else (if c == 100 then (place.Plain, effect.Convert)
    else (if c == 108 then (place.Long, effect.Silent)
    else (place.Plain, effect.Bad)))

-- where the byte after this one stands, and what this one does
abbrev pub step : Place → ℕ → Place × Effect
step place.Plain c = if c == 37 then (place.Percent, effect.Silent) else (place.Plain, effect.Byte c)
step place.Percent c = after_percent c
step place.Long c = if c == 100 then (place.Plain, effect.Convert) else (place.Plain, effect.Bad)

-- ---- what is written

-- an effect in front of what the rest writes of the values that are left
abbrev pub written : Effect → List ℤ → (List ℤ → List ℕ) → List ℕ
written effect.Silent vs rest = rest vs
written (effect.Byte b) vs rest = b ∷ rest vs
written effect.Convert [] rest = rest []
written effect.Convert (v ∷ vs) rest = signed_decimal v ++ rest vs
written effect.Bad vs rest = rest vs

-- Writing an effect takes a text and values to these: with any rest still to write, both come to the same.
abbrev pub IsWritten : Effect → (before : List ℕ) → (vs : List ℤ) → (after : List ℕ) → (left : List ℤ) → Type 0
IsWritten effect before vs after left = (rest : List ℤ → List ℕ) → before ++ written effect vs rest ≡ after ++ rest left

abbrev pub formatted_from : Place → List ℕ → List ℤ → List ℕ
formatted_from at [] vs = []
formatted_from at (c ∷ cs) vs = written (step at c).1 vs (λ left. formatted_from (step at c).0 cs left)

-- the bytes that a string and values give
abbrev pub formatted : List ℕ → List ℤ → List ℕ
formatted = formatted_from place.Plain

-- ---- how many values a string asks for

abbrev pub one_more : Option ℕ → Option ℕ
one_more None = None
one_more (Some n) = Some (suc n)

abbrev pub counted : Effect → Option ℕ → Option ℕ
counted effect.Silent n = n
counted (effect.Byte b) n = n
counted effect.Convert n = one_more n
counted effect.Bad n = None

abbrev pub counted_end : Place → Option ℕ
counted_end place.Plain = Some 0
counted_end place.Percent = None
counted_end place.Long = None

abbrev pub conversions_from : Place → List ℕ → Option ℕ
conversions_from at [] = counted_end at
conversions_from at (c ∷ cs) = counted (step at c).1 (conversions_from (step at c).0 cs)

-- how many conversions a string has, none where a `%` begins no conversion
abbrev pub conversions : List ℕ → Option ℕ
conversions = conversions_from place.Plain
