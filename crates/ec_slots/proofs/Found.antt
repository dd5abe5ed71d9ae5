-- What is found after a slot was put or a frame's slots were forgotten.
use Rattle.std.proofs.Common.{◌≡◌, ◌<◌, ◌≢◌, ◌+◌, ◌-◌, ◌==◌, ◌⊎◌, inl, inr, ℕ, zero, suc, Bool, true, false, if◌then◌else◌, eqb, List, [], ◌∷◌, ◌++◌, length, replicate, refl, ap, sym, ◌∙◌, Some, None, slice_get, slice_set, arith, length-append}
use Rattle.std.proofs.lemmas.List.{length-replicate}
use Rattle.std.proofs.lemmas.Bool.{eq-eqb, eqb-true, ne_eqb}
use Rattle.std.proofs.lemmas.Bool.Decides.{eqb_tells}
use Rattle.ec_slots.specs.declared.slot.Slot.{Slot}
use Rattle.ec_slots.specs.Slots.{Row, grown, put_slot, row_in, slot_in, slot_of, with_slot, without}

-- ---- in one row

slot_in_with : (k : ℕ) (s : Slot) (xs : Row) → slot_in k (with_slot k s xs) ≡ Some s
slot_in_with k s [] = rw (eq-eqb k k refl) refl
slot_in_with k s (x ∷ xs) = by (x.number == k) refl (slot_in_with k s xs)
  where
    by : (b : Bool) → (x.number == k) ≡ b → slot_in k (with_slot k s xs) ≡ Some s →
        slot_in k (if b then record { number = k; slot = s } ∷ xs else x ∷ with_slot k s xs) ≡ Some s
    by true e p = rw (eq-eqb k k refl) refl
    by false e p = rw e p

slot_in_with_other : (k j : ℕ) (s : Slot) (xs : Row) → j ≢ k → slot_in j (with_slot k s xs) ≡ slot_in j xs
slot_in_with_other k j s [] n = rw (ne_eqb k j (λ e. n (sym e))) refl
slot_in_with_other k j s (x ∷ xs) n = by (x.number == k) refl (slot_in_with_other k j s xs n)
  where
    by : (b : Bool) → (x.number == k) ≡ b → slot_in j (with_slot k s xs) ≡ slot_in j xs →
        slot_in j (if b then record { number = k; slot = s } ∷ xs else x ∷ with_slot k s xs) ≡ slot_in j (x ∷ xs)
    by true e p = rw (ne_eqb k j (λ f. n (sym f)), ne_eqb x.number j (λ f. n (sym f ∙ eqb-true x.number k e))) refl
    by false e p = ap (λ r. if x.number == j then Some x.slot else r) p

-- ---- the row of a frame

get_set : {A : Type 0} (xs : List A) (i : ℕ) (x : A) → i < length xs → slice_get (slice_set xs i x) i ≡ Some x
get_set [] i x h = absurd (omega arith)
get_set (y ∷ xs) zero x h = refl
get_set (y ∷ xs) (suc i) x h = get_set xs i x (omega arith)

get_set_other : {A : Type 0} (xs : List A) (i j : ℕ) (x : A) → j ≢ i → slice_get (slice_set xs i x) j ≡ slice_get xs j
get_set_other [] i j x n = refl
get_set_other (y ∷ xs) zero zero x n = absurd (n refl)
get_set_other (y ∷ xs) zero (suc j) x n = refl
get_set_other (y ∷ xs) (suc i) zero x n = refl
get_set_other (y ∷ xs) (suc i) (suc j) x n = get_set_other xs i j x (λ e. n (ap suc e))

row_filled : (count frame : ℕ) (rows : List Row) → row_in (slice_get (rows ++ replicate count []) frame) ≡ row_in (slice_get rows frame)
row_filled zero frame [] = refl
row_filled (suc count) zero [] = refl
row_filled (suc count) (suc frame) [] = row_filled count frame []
row_filled count zero (row ∷ rows) = refl
row_filled count (suc frame) (row ∷ rows) = row_filled count frame rows

within_grown : (frame : ℕ) (rows : List Row) → frame < length (rows ++ replicate (frame + 1 - length rows) [])
within_grown frame rows = rw (length-append rows (replicate (frame + 1 - length rows) []), length-replicate {A = Row} (frame + 1 - length rows) []) (omega arith)

row_put : (frame k : ℕ) (s : Slot) (rows : List Row) → row_in (slice_get (put_slot frame k s rows) frame) ≡ with_slot k s (row_in (slice_get rows frame))
row_put frame k s rows = ap row_in (get_set (grown (frame + 1) rows) frame (with_slot k s (row_in (slice_get rows frame))) (within_grown frame rows))

row_put_other : (frame k other : ℕ) (s : Slot) (rows : List Row) → other ≢ frame → row_in (slice_get (put_slot frame k s rows) other) ≡ row_in (slice_get rows other)
row_put_other frame k other s rows n =
    ap row_in (get_set_other (grown (frame + 1) rows) frame other (with_slot k s (row_in (slice_get rows frame))) n)
    ∙ row_filled (frame + 1 - length rows) other rows

row_without : (frame : ℕ) (rows : List Row) → row_in (slice_get (without frame rows) frame) ≡ []
row_without frame [] = refl
row_without zero (row ∷ rows) = refl
row_without (suc frame) (row ∷ rows) = row_without frame rows

-- ---- after a slot was put

-- it is found
pub slot_of_put : (frame k : ℕ) (s : Slot) (rows : List Row) → slot_of frame k (put_slot frame k s rows) ≡ Some s
slot_of_put frame k s rows = ap (slot_in k) (row_put frame k s rows) ∙ slot_in_with k s (row_in (slice_get rows frame))

-- other slots of its frame are as before
pub slot_of_put_other_slot : (frame k j : ℕ) (s : Slot) (rows : List Row) → j ≢ k → slot_of frame j (put_slot frame k s rows) ≡ slot_of frame j rows
slot_of_put_other_slot frame k j s rows n = ap (slot_in j) (row_put frame k s rows) ∙ slot_in_with_other k j s (row_in (slice_get rows frame)) n

-- and so are those of other frames
pub slot_of_put_other_frame : (frame k other j : ℕ) (s : Slot) (rows : List Row) → other ≢ frame → slot_of other j (put_slot frame k s rows) ≡ slot_of other j rows
slot_of_put_other_frame frame k other j s rows n = ap (slot_in j) (row_put_other frame k other s rows n)

-- where the frame or the number is another
pub slot_of_put_other : (frame k other j : ℕ) (s : Slot) (rows : List Row) → (other ≡ frame → j ≢ k) → slot_of other j (put_slot frame k s rows) ≡ slot_of other j rows
slot_of_put_other frame k other j s rows n = by (eqb_tells other frame)
  where
    by : ((eqb other frame ≡ true) × (other ≡ frame)) ⊎ ((eqb other frame ≡ false) × (other ≢ frame)) → slot_of other j (put_slot frame k s rows) ≡ slot_of other j rows
    by (inl (_, e)) = rw e (slot_of_put_other_slot frame k j s rows (n e))
    by (inr (_, e)) = slot_of_put_other_frame frame k other j s rows e

-- ---- after a frame's slots were forgotten

-- none of them is found
pub slot_of_without : (frame k : ℕ) (rows : List Row) → slot_of frame k (without frame rows) ≡ None
slot_of_without frame k rows = ap (slot_in k) (row_without frame rows)

-- those of other frames are as before
pub slot_of_without_other : (frame other k : ℕ) (rows : List Row) → other ≢ frame → slot_of other k (without frame rows) ≡ slot_of other k rows
slot_of_without_other frame other k rows n = ap (λ row. slot_in k (row_in row)) (get_set_other rows frame other [] n)
