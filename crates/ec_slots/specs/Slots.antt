-- Synchronisation slots, found by the frame's number and their own.
use Rattle.std.specs.Prelude.{ℕ, ◌+◌, ◌-◌, ◌^◌, ◌==◌, ◌&&◌, Bool, false, if◌then◌else◌, nat_lt, nat_le, List, [], ◌∷◌, ◌++◌, length, replicate, Option, Some, None, slice_get, slice_set}
use Rattle.ec_slots.specs.declared.slot.Filled.{Filled}
use Rattle.ec_slots.specs.declared.slot.Numbered.{Numbered}
use Rattle.ec_slots.specs.declared.slot.Slot.{Slot}

-- ---- the slots of one frame

-- the slots that were set up, in the order of their first set-up
abbrev pub Row : Type 0
Row = List Numbered

-- the slot of this number
abbrev pub slot_in : ℕ → Row → Option Slot
slot_in k [] = None
slot_in k (x ∷ xs) = if x.number == k then Some x.slot else slot_in k xs

-- the row with this slot, in the place of the one of its number, or behind all others
abbrev pub with_slot : ℕ → Slot → Row → Row
with_slot k s [] = record { number = k; slot = s } ∷ []
with_slot k s (x ∷ xs) = if x.number == k then record { number = k; slot = s } ∷ xs else x ∷ with_slot k s xs

-- the place of the slot of this number, past the end where there is none
abbrev pub place_in : ℕ → Row → ℕ
place_in k [] = 0
place_in k (x ∷ xs) = if x.number == k then 0 else place_in k xs + 1

-- ---- the slots of all frames, a row a frame

abbrev pub row_in : Option Row → Row
row_in None = []
row_in (Some row) = row

-- the slot of a frame, where it is known
abbrev pub slot_of : ℕ → ℕ → List Row → Option Slot
slot_of frame k rows = slot_in k (row_in (slice_get rows frame))

-- rows for this many frames at least
abbrev pub grown : ℕ → List Row → List Row
grown count rows = rows ++ replicate (count - length rows) []

-- the rows with this slot of a frame
abbrev pub put_slot : ℕ → ℕ → Slot → List Row → List Row
put_slot frame k s rows = slice_set (grown (frame + 1) rows) frame (with_slot k s (row_in (slice_get rows frame)))

-- the rows where a known slot became what is made of it
abbrev pub replaced : (Slot → Slot) → ℕ → ℕ → Option Slot → List Row → List Row
replaced f frame k None rows = rows
replaced f frame k (Some s) rows = put_slot frame k (f s) rows

-- the rows without a frame's slots
abbrev pub without : ℕ → List Row → List Row
without frame rows = slice_set rows frame []

-- ---- set-ups

abbrev pub fillings_of : Option Slot → ℕ
fillings_of None = 0
fillings_of (Some s) = s.fillings

-- a slot that waits for so many syncs, in the place of what was there: the fillings stay
abbrev pub waiting : ℕ → ℕ → ℕ → Option Slot → Slot
waiting count reset fiber before =
    record { count = count; reset = reset; fiber = fiber; fillings = fillings_of before }

abbrev pub set_up : ℕ → ℕ → ℕ → ℕ → ℕ → List Row → List Row
set_up frame k count reset fiber rows = put_slot frame k (waiting count reset fiber (slot_of frame k rows)) rows

-- ---- counts

-- the highest number of 64 bits
abbrev pub MOST : ℕ
MOST = 2 ^ 64 - 1

-- the slot is known, and its count and fillings can rise
abbrev pub has_room : Option Slot → Bool
has_room None = false
has_room (Some s) = nat_lt s.count MOST && nat_lt s.fillings MOST

abbrev pub one_more : Slot → Slot
one_more s = record s { count = s.count + 1 }

-- one sync more is to come
abbrev pub incremented : ℕ → ℕ → List Row → List Row
incremented frame k rows = replaced one_more frame k (slot_of frame k rows) rows

-- the next sync fills it
abbrev pub is_last : Slot → Bool
is_last s = nat_le s.count 1

-- with one sync less to come; where none is left it has its reset count, and one filling more
abbrev pub one_less : Slot → Slot
one_less s =
    if is_last s then record s { count = s.reset; fillings = s.fillings + 1 } else record s { count = s.count - 1 }

abbrev pub synced : ℕ → ℕ → List Row → List Row
synced frame k rows = replaced one_less frame k (slot_of frame k rows) rows

-- what the next sync of a slot starts, where that fills it
abbrev pub filled_by : Option Slot → Option Filled
filled_by None = None
filled_by (Some s) = if is_last s then Some (record { fiber = s.fiber; filling = s.fillings + 1 }) else None
