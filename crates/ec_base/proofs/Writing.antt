-- The automaton of `Format` and the rules of `Writes` say the same.
use Rattle.std.proofs.Common.{◌≡◌, ◌≢◌, ℕ, suc, ℤ, List, [], ◌∷◌, ◌++◌, length, Option, Some, None, inl, inr, refl, sym, ap, subst, arith}
use Rattle.std.specs.Prelude.{codes}
use Rattle.std.specs.Fmt.{signed_decimal}
use Rattle.std.proofs.lemmas.Bool.Decides.{eqb_tells}
use Rattle.std.proofs.lemmas.Bool.{ne_eqb}
use Rattle.ec_base.specs.declared.format.Place.{Place}
use Rattle.ec_base.specs.declared.format.Place.TheVariants as place
use Rattle.ec_base.specs.declared.format.Effect.TheVariants as effect
use Rattle.ec_base.specs.Format.{formatted_from, conversions_from, one_more, written}
use Rattle.ec_base.specs.Writes.{Writes, StringsWrite, OnlyStringsWrite, StringsWriteOneText}

-- ---- what writes asks for its values, and writes one text

pub only_strings_write : OnlyStringsWrite
only_strings_write _ _ _ Writes.done = refl
only_strings_write _ _ _ (Writes.byte {c} ne w) = rw (ne_eqb c 37 ne) (only_strings_write _ _ _ w)
only_strings_write _ _ _ (Writes.percent w) = only_strings_write _ _ _ w
only_strings_write _ _ _ (Writes.number w) = ap one_more (only_strings_write _ _ _ w)
only_strings_write _ _ _ (Writes.long w) = ap one_more (only_strings_write _ _ _ w)

pub strings_write_one_text : StringsWriteOneText
strings_write_one_text _ _ _ Writes.done = refl
strings_write_one_text _ _ _ (Writes.byte {c} ne w) = rw (ne_eqb c 37 ne) (ap (λ t. c ∷ t) (strings_write_one_text _ _ _ w))
strings_write_one_text _ _ _ (Writes.percent w) = ap (λ t. 37 ∷ t) (strings_write_one_text _ _ _ w)
strings_write_one_text _ _ _ (Writes.number {v} w) = ap (λ t. signed_decimal v ++ t) (strings_write_one_text _ _ _ w)
strings_write_one_text _ _ _ (Writes.long {v} w) = ap (λ t. signed_decimal v ++ t) (strings_write_one_text _ _ _ w)

-- ---- what asks for so many values writes them

-- what stands before a place of the conversion that it is in
abbrev begun : Place → List ℕ
begun place.Plain = []
begun place.Percent = codes "%"
begun place.Long = codes "%l"

abbrev WritesAt : Place → List ℕ → List ℤ → Type 0
WritesAt at s vs = conversions_from at s ≡ Some (length vs) → Writes (begun at ++ s) vs (formatted_from at s vs)

one_fewer : (o : Option ℕ) (n : ℕ) → one_more o ≡ Some (suc n) → o ≡ Some n
one_fewer None n h = absurd (cc)
one_fewer (Some k) n h = ap Some (let e : suc k ≡ suc n = cc in omega arith)

never_none : (o : Option ℕ) → one_more o ≢ Some 0
never_none None h = cc
never_none (Some k) h = let e : suc k ≡ 0 = cc in omega arith

-- a conversion takes the first of the values
converts : (s before : List ℕ) → ((vs : List ℤ) → WritesAt place.Plain s vs) →
    ((v : ℤ) (vs : List ℤ) (t : List ℕ) → Writes s vs t → Writes before (v ∷ vs) (signed_decimal v ++ t)) →
    (vs : List ℤ) → one_more (conversions_from place.Plain s) ≡ Some (length vs) →
    Writes before vs (written effect.Convert vs (λ left. formatted_from place.Plain s left))
converts s before rest rule [] h = absurd (never_none (conversions_from place.Plain s) h)
converts s before rest rule (v ∷ vs) h = rule v vs _ (rest vs (one_fewer _ _ h))

at_end : (at : Place) (vs : List ℤ) → WritesAt at [] vs
at_end place.Plain [] h = Writes.done
at_end place.Plain (v ∷ vs) h = absurd (let e : 0 ≡ suc (length vs) = cc in omega arith)
at_end place.Percent vs h = absurd (cc)
at_end place.Long vs h = absurd (cc)

module _ (c : ℕ) (s : List ℕ) (vs : List ℤ) (plain : (vs : List ℤ) → WritesAt place.Plain s vs) where
  from_plain : WritesAt place.Percent s vs → WritesAt place.Plain (c ∷ s) vs
  from_plain percent = elim (eqb_tells c 37) [
    | inl h ↦ subst (λ c. WritesAt place.Plain (c ∷ s) vs) (sym h.1) percent
    | inr h ↦ rw h.0 (λ e. Writes.byte h.1 (plain vs e))
  ]

  from_percent : WritesAt place.Long s vs → WritesAt place.Percent (c ∷ s) vs
  from_percent long = elim (eqb_tells c 37) [
    | inl h ↦ subst (λ c. WritesAt place.Percent (c ∷ s) vs) (sym h.1) (λ e. Writes.percent (plain vs e))
    | inr h ↦ elim (eqb_tells c 100) [
      | inl d ↦ subst (λ c. WritesAt place.Percent (c ∷ s) vs) (sym d.1) (converts s (codes "%d" ++ s) plain (λ v vs t w. Writes.number w) vs)
      | inr d ↦ elim (eqb_tells c 108) [
        | inl l ↦ subst (λ c. WritesAt place.Percent (c ∷ s) vs) (sym l.1) long
        | inr l ↦ rw (h.0, d.0, l.0) (λ e. absurd (cc))
      ]
    ]
  ]

  from_long : WritesAt place.Long (c ∷ s) vs
  from_long = elim (eqb_tells c 100) [
    | inl d ↦ subst (λ c. WritesAt place.Long (c ∷ s) vs) (sym d.1) (converts s (codes "%ld" ++ s) plain (λ v vs t w. Writes.long w) vs)
    | inr d ↦ rw d.0 (λ e. absurd (cc))
  ]

strings_write_at : (at : Place) (s : List ℕ) (vs : List ℤ) → WritesAt at s vs
strings_write_at at [] vs = at_end at vs
strings_write_at place.Plain (c ∷ s) vs = from_plain c s vs (strings_write_at place.Plain s) (strings_write_at place.Percent s vs)
strings_write_at place.Percent (c ∷ s) vs = from_percent c s vs (strings_write_at place.Plain s) (strings_write_at place.Long s vs)
strings_write_at place.Long (c ∷ s) vs = from_long c s vs (strings_write_at place.Plain s)

pub strings_write : StringsWrite
strings_write = strings_write_at place.Plain
