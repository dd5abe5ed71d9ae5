-- Where a row has the slot of a number.
use Rattle.std.proofs.Common.{◌≡◌, ◌<◌, ◌≤◌, ◌+◌, ◌==◌, ℕ, Bool, true, false, if◌then◌else◌, [], ◌∷◌, ◌++◌, length, drop, get_or, refl, ap, sym, ◌∙◌, Some, None, is_some, option_map, slice_get, slice_set, arith, drop-cons, add-one}
use Rattle.std.proofs.lemmas.Bool.{ne_eqb}
use Rattle.ec_slots.specs.declared.slot.Numbered.{Numbered}
use Rattle.ec_slots.specs.declared.slot.Slot.{Slot}
use Rattle.ec_slots.specs.Slots.{Row, slot_in, with_slot, place_in}

-- ---- the walk along a row

place_past : (k : ℕ) (x : Numbered) (xs : Row) → (x.number ≡ k → ⊥) → place_in k (x ∷ xs) ≡ place_in k xs + 1
place_past k x xs n = rw (ne_eqb x.number k n) refl

-- no slot of this number, so far
pub place_more : (k i : ℕ) (xs : Row) (x : Numbered) → i < length xs → x ≡ get_or xs i x → place_in k xs ≡ i + place_in k (drop i xs) → (x.number ≡ k → ⊥) → place_in k xs ≡ (i + 1) + place_in k (drop (i + 1) xs)
place_more k i xs x h e p n =
    let d : drop i xs ≡ x ∷ drop (i + 1) xs = rw (add-one i, drop-cons xs i x h, sym e) refl in
    let q : place_in k (drop i xs) ≡ place_in k (drop (i + 1) xs) + 1 = ap (place_in k) d ∙ place_past k x (drop (i + 1) xs) n in
    omega (arith, p, q)

pub ruleset steps = (place_more)

-- ---- reads and writes at a place

pub slot_at_place : (k : ℕ) (xs : Row) → slot_in k xs ≡ option_map (λ x. x.slot) (slice_get xs (place_in k xs))
slot_at_place k [] = refl
slot_at_place k (x ∷ xs) = by (x.number == k) (slot_at_place k xs)
  where
    by : (b : Bool) → slot_in k xs ≡ option_map (λ y. y.slot) (slice_get xs (place_in k xs)) →
        (if b then Some x.slot else slot_in k xs) ≡ option_map (λ y. y.slot) (slice_get (x ∷ xs) (if b then 0 else place_in k xs + 1))
    by true p = refl
    by false p = rw (add-one (place_in k xs)) p

pub put_within : (k : ℕ) (s : Slot) (xs : Row) → place_in k xs < length xs → with_slot k s xs ≡ slice_set xs (place_in k xs) (record { number = k; slot = s })
put_within k s [] h = absurd (omega arith)
put_within k s (x ∷ xs) h = by (x.number == k) (put_within k s xs) h
  where
    y : Numbered
    y = record { number = k; slot = s }

    by : (b : Bool) → (place_in k xs < length xs → with_slot k s xs ≡ slice_set xs (place_in k xs) y) → (if b then 0 else place_in k xs + 1) < length (x ∷ xs) →
        (if b then y ∷ xs else x ∷ with_slot k s xs) ≡ slice_set (x ∷ xs) (if b then 0 else place_in k xs + 1) y
    by true p h = refl
    by false p h = rw (add-one (place_in k xs)) (ap (λ ys. x ∷ ys) (p (omega (arith, h))))

pub put_behind : (k : ℕ) (s : Slot) (xs : Row) → length xs ≤ place_in k xs → with_slot k s xs ≡ xs ++ record { number = k; slot = s } ∷ []
put_behind k s [] h = refl
put_behind k s (x ∷ xs) h = by (x.number == k) (put_behind k s xs) h
  where
    y : Numbered
    y = record { number = k; slot = s }

    by : (b : Bool) → (length xs ≤ place_in k xs → with_slot k s xs ≡ xs ++ y ∷ []) → length (x ∷ xs) ≤ (if b then 0 else place_in k xs + 1) →
        (if b then y ∷ xs else x ∷ with_slot k s xs) ≡ x ∷ (xs ++ y ∷ [])
    by true p h = absurd (omega (arith, h))
    by false p h = ap (λ ys. x ∷ ys) (p (omega (arith, h)))

pub place_known : (k : ℕ) (xs : Row) → is_some (slot_in k xs) ≡ true → place_in k xs < length xs
place_known k [] h = absurd (cc)
place_known k (x ∷ xs) h = by (x.number == k) (place_known k xs) h
  where
    by : (b : Bool) → (is_some (slot_in k xs) ≡ true → place_in k xs < length xs) → is_some (if b then Some x.slot else slot_in k xs) ≡ true →
        (if b then 0 else place_in k xs + 1) < length (x ∷ xs)
    by true p h = omega arith
    by false p h = let q = p h in omega (arith, q)

-- ---- a read that told what was there

pub slot_missing : (k : ℕ) (xs : Row) → None ≡ slice_get xs (place_in k xs) → None ≡ slot_in k xs
slot_missing k xs e = ap (option_map (λ x. x.slot)) e ∙ sym (slot_at_place k xs)

pub slot_read : (k : ℕ) (xs : Row) (x : Numbered) → Some x ≡ slice_get xs (place_in k xs) → Some x.slot ≡ slot_in k xs
slot_read k xs x e = ap (option_map (λ y. y.slot)) e ∙ sym (slot_at_place k xs)

pub ruleset reads = (slot_missing, slot_read, slot_at_place)

pub ruleset writes = (put_within, put_behind)
