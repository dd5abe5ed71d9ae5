-- A slot that is known has its place already.
use Rattle.std.proofs.Common.{◌≡◌, ◌<◌, ◌≤◌, ◌+◌, ◌-◌, ℕ, true, false, List, [], ◌∷◌, ◌++◌, length, refl, ap, sym, subst, ◌∙◌, take, Option, Some, None, IsSome, slice_get, slice_set, get_or, arith, append-nil}
use Rattle.std.proofs.lemmas.List.{take-append-le}
use Rattle.std.proofs.lemmas.Option.{slice_get_read, slice_get_within}
use Rattle.ec_core.specs.declared.slots.Slot.{Slot}
use Rattle.ec_core.specs.Queues.{grown}
use Rattle.ec_core.specs.Slots.{Row, flat, row_in, row_with, slot_of, with_slot}

-- one row more leaves the first ones
pub take_more : {A : Type 0} (n : ℕ) (xs ys : List A) (z : A) → n ≤ length xs → take n xs ≡ ys → take n (xs ++ z ∷ []) ≡ ys
take_more n xs ys z h e = take-append-le n xs (z ∷ []) h ∙ e

grown_whole : {A : Type 0} (count : ℕ) (z : A) (xs : List A) → count ≤ length xs → grown count z xs ≡ xs
grown_whole count z xs h = let e : count - length xs ≡ 0 = omega arith in rw e (append-nil xs)

known_row : (row : Option Row) (slot : ℕ) → IsSome (flat (slice_get (row_in row) slot)) → (xs : Row) × (row ≡ Some xs)
known_row None slot h = let e : false ≡ true = h in absurd (cc)
known_row (Some xs) slot h = (xs, refl)

known_place : (place : Option (Option Slot)) → IsSome (flat place) → (x : Option Slot) × (place ≡ Some x)
known_place None h = let e : false ≡ true = h in absurd (cc)
known_place (Some x) h = (x, refl)

-- its frame has a row
pub frame_within : (frame slot : ℕ) (rows : List Row) → IsSome (slot_of frame slot rows) → frame < length rows
frame_within frame slot rows h =
    let row = known_row (slice_get rows frame) slot h in slice_get_within rows frame row.0 row.1

slot_within : (frame slot : ℕ) (rows : List Row) → IsSome (slot_of frame slot rows) → slot < length (row_in (slice_get rows frame))
slot_within frame slot rows h =
    let place = known_place (slice_get (row_in (slice_get rows frame)) slot) h
    in slice_get_within (row_in (slice_get rows frame)) slot place.0 place.1

row_read : (frame : ℕ) (rows : List Row) (row : Row) → frame < length rows → row ≡ get_or rows frame row → row_in (slice_get rows frame) ≡ row
row_read frame rows row h e = ap row_in (slice_get_read rows (length rows) frame row refl h e)

-- and in that row it has its place
pub slot_within_read : (frame slot : ℕ) (rows : List Row) (row : Row) → IsSome (slot_of frame slot rows) → row ≡ get_or rows frame row → slot < length row
slot_within_read frame slot rows row h e =
    let P : Row → Type 0 = λ xs. slot < length xs in
    subst P (row_read frame rows row (frame_within frame slot rows h) e) (slot_within frame slot rows h)

-- so that it is only replaced
pub with_known_slot : (frame slot : ℕ) (x : Slot) (rows : List Row) (row : Row) → IsSome (slot_of frame slot rows) → row ≡ get_or rows frame row →
    slice_set rows frame (slice_set row slot (Some x)) ≡ with_slot frame slot x rows
with_known_slot frame slot x rows row h e =
    let here : frame < length rows = frame_within frame slot rows h in
    let read : row_in (slice_get rows frame) ≡ row = row_read frame rows row here e in
    let there : slot < length row = slot_within_read frame slot rows row h e in
    sym (ap (λ r. slice_set r frame (row_with slot x (row_in (slice_get rows frame)))) (grown_whole (frame + 1) [] rows (omega arith))
    ∙ ap (λ r. slice_set rows frame (row_with slot x r)) read
    ∙ ap (λ r. slice_set rows frame (slice_set r slot (Some x))) (grown_whole (slot + 1) None row (omega arith)))
