-- What a message does to the synchronisation unit that takes it.
use Rattle.std.specs.Prelude.{ℕ, ◌==◌, if◌then◌else◌, List, [], ◌∷◌, ◌++◌, Option, Some, None, nat_lt}
use Rattle.ec_core.specs.declared.message.Entry.{Entry}
use Rattle.ec_core.specs.declared.message.Entry.TheVariants as e
use Rattle.ec_core.specs.declared.message.Message.{Message}
use Rattle.ec_core.specs.declared.message.Message.TheVariants as m
use Rattle.ec_core.specs.declared.slots.Slot.{Slot}
use Rattle.ec_core.specs.declared.su.Su.{Su}
use Rattle.ec_core.specs.Queues.{put_at}
use Rattle.ec_core.specs.Slots.{Row, slot_of, with_slot, without, set_up, refilled, one_less, risen}

-- a message more for a peer
abbrev pub to_peer : ℕ → Message → Su → Su
to_peer node message s = record s { peers = put_at node message s.peers }

-- an entry more for the own execution unit
abbrev pub readies : Entry → Su → Su
readies entry s = record s { ready = s.ready ++ entry ∷ [] }

abbrev pub with_slots : List Row → Su → Su
with_slots rows s = record s { slots = rows }

-- the fiber of a filled slot is made ready; the root's slot has none
abbrev pub starts : ℕ → ℕ → Slot → Option ℕ → Su → Su
starts frame slot x None s = s
starts frame slot x (Some fiber) s = readies (e.Start frame fiber slot x.fillings) s

-- a filling of a slot
abbrev pub fills : ℕ → ℕ → Slot → Su → Su
fills frame slot x s =
    starts frame slot (refilled x) x.fiber (with_slots (with_slot frame slot (refilled x) s.slots) s)

-- a sync of a slot, which does nothing to an unknown one
abbrev pub syncs : ℕ → ℕ → Option Slot → Su → Su
syncs frame slot None s = s
syncs frame slot (Some x) s =
    if nat_lt 1 x.count then with_slots (with_slot frame slot (one_less x) s.slots) s else fills frame slot x s

-- where a message goes on to
pub data Way : Type 0 where
  Stays : Way
  Syncs : (node frame slot : ℕ) → Way
  Carries : (node : ℕ) → (entry : Entry) → Way

abbrev pub way : Message → Way
way (m.Init frame slot count reset fiber) = Stays
way (m.Sync node frame slot) = Syncs node frame slot
way (m.Work node entry) = Carries node entry
way (m.EndFrame frame) = Stays

-- the slots after a message's own effect on them
abbrev pub settled_by : Message → List Row → List Row
settled_by (m.Init frame slot count reset fiber) rows = set_up frame slot count reset fiber rows
settled_by (m.Sync node frame slot) rows = rows
settled_by (m.Work node entry) rows = rows
settled_by (m.EndFrame frame) rows = without frame rows

-- a message goes its way: to the own node's slots or execution unit, or to a peer
abbrev pub goes : ℕ → Way → Message → Su → Su
goes me Stays message s = s
goes me (Syncs node frame slot) message s =
    if node == me then syncs frame slot (slot_of frame slot s.slots) s else to_peer node message s
goes me (Carries node entry) message s = if node == me then readies entry s else to_peer node message s

-- a message's own effect on the slots, then its way
abbrev pub routes : ℕ → Message → Su → Su
routes me message s = goes me (way message) message (with_slots (settled_by message s.slots) s)

-- one message more was handled
abbrev pub counted : Su → Su
counted s = record s { handled = risen s.handled }

-- the effect of one message on the unit of node me
abbrev pub handle : ℕ → Message → Su → Su
handle me message s = counted (routes me message s)
