-- Synchronisation slots, a row for each frame.
use Rattle.std.specs.Prelude.{ℕ, ◌+◌, ◌-◌, ◌^◌, List, [], Option, Some, None, slice_get, slice_set, min}
use Rattle.ec_core.specs.Queues.{grown}
use Rattle.ec_core.specs.declared.slots.Slot.{Slot}

abbrev pub Row : Type 0
Row = List (Option Slot)

abbrev pub row_in : Option Row → Row
row_in None = []
row_in (Some row) = row

abbrev pub flat : Option (Option Slot) → Option Slot
flat None = None
flat (Some x) = x

-- the slot of a frame, where it is known
abbrev pub slot_of : ℕ → ℕ → List Row → Option Slot
slot_of frame slot rows = flat (slice_get (row_in (slice_get rows frame)) slot)

-- the row with this slot
abbrev pub row_with : ℕ → Slot → Row → Row
row_with slot x row = slice_set (grown (slot + 1) None row) slot (Some x)

-- the rows with this slot of a frame
abbrev pub with_slot : ℕ → ℕ → Slot → List Row → List Row
with_slot frame slot x rows =
    slice_set (grown (frame + 1) [] rows) frame (row_with slot x (row_in (slice_get rows frame)))

-- the rows without a frame's slots
abbrev pub without : ℕ → List Row → List Row
without frame rows = slice_set rows frame []

-- one more, as far as a count of 64 bits goes
abbrev pub risen : ℕ → ℕ
risen n = min (n + 1) (2 ^ 64 - 1)

abbrev pub fillings_of : Option Slot → ℕ
fillings_of None = 0
fillings_of (Some x) = x.fillings

-- a slot that waits for so many syncs, in the place of what was there: its fillings stay
abbrev pub waiting : ℕ → ℕ → ℕ → Option Slot → Slot
waiting count reset fiber before =
    record { count = count; reset = reset; fiber = Some fiber; fillings = fillings_of before }

-- a slot set up
abbrev pub set_up : ℕ → ℕ → ℕ → ℕ → ℕ → List Row → List Row
set_up frame slot count reset fiber rows =
    with_slot frame slot (waiting count reset fiber (slot_of frame slot rows)) rows

-- a slot that was filled: it has its reset count, and one filling more
abbrev pub refilled : Slot → Slot
refilled x = record x { count = x.reset; fillings = risen x.fillings }

-- a slot with one sync less to come
abbrev pub one_less : Slot → Slot
one_less x = record x { count = x.count - 1 }

-- the root's slot: it starts no fiber
abbrev pub root_slot : Slot
root_slot = record { count = 1; reset = 1; fiber = None; fillings = 0 }
