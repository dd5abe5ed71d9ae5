-- The row of a frame.
use Rattle.std.proofs.Common.{◌≡◌, ◌<◌, ◌≤◌, ◌+◌, ◌-◌, ℕ, suc, true, List, [], ◌∷◌, ◌++◌, length, replicate, take, get_or, arith, append_assoc, append-nil, refl, ap, sym, ◌∙◌, Option, Some, None, is_some, slice_get, slice_set}
use Rattle.std.proofs.lemmas.List.{take-append-le}
use Rattle.std.proofs.lemmas.Option.{slice_get_past, slice_get_read, slice_get_within}
use Rattle.ec_slots.specs.declared.slot.Slot.{Slot}
use Rattle.ec_slots.specs.Slots.{Row, grown, put_slot, row_in, slot_in, slot_of, with_slot}

-- ---- rows that grow

-- one row more of those that are to come
pub grow_more : {A : Type 0} (xs : List A) (z : A) (i n : ℕ) → i < n → (xs ++ z ∷ []) ++ replicate (n - (i + 1)) z ≡ xs ++ replicate (n - i) z
grow_more xs z i n h =
    let e : n - i ≡ suc (n - (i + 1)) = omega arith in rw e (append_assoc xs (z ∷ []) (replicate (n - (i + 1)) z))

pub grow_done : {A : Type 0} (xs : List A) (z : A) (i n : ℕ) → n ≤ i → xs ++ replicate (n - i) z ≡ xs
grow_done xs z i n h = let e : n - i ≡ 0 = omega arith in rw e (append-nil xs)

-- and leaves the first ones
pub take_more : {A : Type 0} (n : ℕ) (xs ys : List A) (z : A) → n ≤ length xs → take n xs ≡ ys → take n (xs ++ z ∷ []) ≡ ys
take_more n xs ys z h e = take-append-le n xs (z ∷ []) h ∙ e

pub ruleset grows = (grow_more, grow_done, take_more, append-nil)

-- ---- a frame that has a row

-- a slot that is known is in a row
pub frame_known : (frame k : ℕ) (rows : List Row) → is_some (slot_of frame k rows) ≡ true → frame < length rows
frame_known frame k rows h = by (slice_get rows frame) h (slice_get_within rows frame)
  where
    by : (found : Option Row) → is_some (slot_in k (row_in found)) ≡ true → ((row : Row) → found ≡ Some row → frame < length rows) → frame < length rows
    by None h p = absurd (cc)
    by (Some row) h p = p row refl

pub row_read : (frame : ℕ) (rows : List Row) (row : Row) → frame < length rows → row ≡ get_or rows frame row → row_in (slice_get rows frame) ≡ row
row_read frame rows row h e = ap row_in (slice_get_read rows (length rows) frame row refl h e)

grown_whole : (count : ℕ) (rows : List Row) → count ≤ length rows → grown count rows ≡ rows
grown_whole count rows h = let e : count - length rows ≡ 0 = omega arith in rw e (append-nil rows)

-- its row alone changes
pub put_in_row : (frame k : ℕ) (s : Slot) (rows : List Row) (row : Row) → frame < length rows → row ≡ get_or rows frame row →
    slice_set rows frame (with_slot k s row) ≡ put_slot frame k s rows
put_in_row frame k s rows row h e =
    sym (ap (λ r. slice_set r frame (with_slot k s (row_in (slice_get rows frame)))) (grown_whole (frame + 1) rows (omega arith))
    ∙ ap (λ r. slice_set rows frame (with_slot k s r)) (row_read frame rows row h e))

pub ruleset puts = (put_in_row, slice_get_past, frame_known, row_read)
