-- What a unit that has handled so many messages keeps to, so that no count and no number of fillings is at its end.
use Rattle.std.specs.Prelude.{◌≡◌, ◌+◌, ◌^◌, ◌<◌, ◌≤◌, ℕ, true, List, Option, Some, is_some}
use Rattle.ec_slots.specs.declared.slot.Slot.{Slot}
use Rattle.ec_slots.specs.Slots.{Row, has_room, slot_of}

-- a count begins below 2^32, and each message adds one at most to it and to the fillings
pub record IsRoomy (handled : ℕ) (s : Slot) : Type 0 where
  pub count : s.count ≤ 2 ^ 32 + handled
  pub reset : s.reset < 2 ^ 32
  pub fillings : s.fillings ≤ handled

abbrev pub AllRoomy : ℕ → List Row → Type 0
AllRoomy handled rows = (frame k : ℕ) (s : Slot) → slot_of frame k rows ≡ Some s → IsRoomy handled s

-- a slot that is known has room
abbrev pub HasRoom : Option Slot → Type 0
HasRoom o = is_some o ≡ true → has_room o ≡ true
