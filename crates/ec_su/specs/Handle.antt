-- What a message does to the synchronisation unit that takes it.
use Rattle.std.specs.Prelude.{ℕ, ◌+◌, Bool, ◌==◌, ◌&&◌, if◌then◌else◌, List, [], ◌∷◌, ◌++◌, replicate, Option, Some, None, is_some}
use Rattle.ec_code.specs.declared.message.Entry.{Entry}
use Rattle.ec_code.specs.declared.message.Entry.TheVariants as e
use Rattle.ec_code.specs.declared.message.Message.{Message}
use Rattle.ec_code.specs.declared.message.Message.TheVariants as m
use Rattle.ec_queue.specs.Queues.{put_at}
use Rattle.ec_slots.specs.declared.slot.Filled.{Filled}
use Rattle.ec_slots.specs.Slots.{Row, filled_by, incremented, set_up, slot_of, synced, without}

-- The number of the node; its slots; entries for its execution unit; messages for each peer; and how many messages it has
-- handled.
pub record SyncUnit : Type 0 where
  pub node : ℕ
  pub slots : List Row
  pub ready : List Entry
  pub peers : List (List Message)
  pub handled : ℕ

-- the slots at the start: slot 0 of frame 0 of node 0, the root's, waits for the result of main
abbrev pub first_slots : ℕ → List Row
first_slots node = if node == 0 then set_up 0 0 1 1 0 [] else []

-- the unit of a node of so many
abbrev pub new_unit : ℕ → ℕ → SyncUnit
new_unit node nodes =
    record { node = node; slots = first_slots node; ready = []; peers = replicate nodes []; handled = 0 }

-- ---- what may become of it

-- a message more for a peer
abbrev pub to_peer : ℕ → Message → SyncUnit → SyncUnit
to_peer node message s = record s { peers = put_at node message s.peers }

-- an entry more for the own execution unit
abbrev pub readies : Entry → SyncUnit → SyncUnit
readies entry s = record s { ready = s.ready ++ entry ∷ [] }

abbrev pub with_slots : List Row → SyncUnit → SyncUnit
with_slots rows s = record s { slots = rows }

abbrev pub is_root : ℕ → ℕ → ℕ → Bool
is_root node frame slot = (node == 0) && (frame == 0) && (slot == 0)

-- the fiber of a filled slot is made ready; the root's has none
abbrev pub starts : ℕ → ℕ → Option Filled → SyncUnit → SyncUnit
starts frame slot None s = s
starts frame slot (Some f) s =
    if is_root s.node frame slot then s else readies (e.Start frame f.fiber slot f.filling) s

-- a sync of an own slot, which does nothing to an unknown one
abbrev pub syncs : ℕ → ℕ → SyncUnit → SyncUnit
syncs frame slot s =
    starts frame slot (filled_by (slot_of frame slot s.slots)) (with_slots (synced frame slot s.slots) s)

-- ---- messages

-- where a message goes on to
pub data Way : Type 0 where
  Stays : Way
  Syncs : (node frame slot : ℕ) → Way
  Carries : (node : ℕ) → (entry : Entry) → Way

abbrev pub way : Message → Way
way (m.Init frame slot count reset fiber) = Stays
way (m.Incr frame slot) = Stays
way (m.Sync node frame slot) = Syncs node frame slot
way (m.Work node entry) = Carries node entry
way (m.EndFrame frame) = Stays

-- the slots after a message's own effect on them
abbrev pub settled_by : Message → List Row → List Row
settled_by (m.Init frame slot count reset fiber) rows = set_up frame slot count reset fiber rows
settled_by (m.Incr frame slot) rows = incremented frame slot rows
settled_by (m.Sync node frame slot) rows = rows
settled_by (m.Work node entry) rows = rows
settled_by (m.EndFrame frame) rows = without frame rows

-- a message goes its way: to the own node's slots or execution unit, or to a peer
abbrev pub goes : Way → Message → SyncUnit → SyncUnit
goes Stays message s = s
goes (Syncs node frame slot) message s = if node == s.node then syncs frame slot s else to_peer node message s
goes (Carries node entry) message s = if node == s.node then readies entry s else to_peer node message s

-- a message's own effect on the slots, then its way
abbrev pub routes : Message → SyncUnit → SyncUnit
routes message s = goes (way message) message (with_slots (settled_by message s.slots) s)

abbrev pub counted : SyncUnit → SyncUnit
counted s = record s { handled = s.handled + 1 }

-- the effect of one message
abbrev pub handle : Message → SyncUnit → SyncUnit
handle message s = counted (routes message s)

-- ---- what is filled

abbrev pub filled_on : Way → SyncUnit → Option (ℕ × ℕ)
filled_on Stays s = None
filled_on (Syncs node frame slot) s =
    if (node == s.node) && is_some (filled_by (slot_of frame slot s.slots)) then Some (frame, slot) else None
filled_on (Carries node entry) s = None

-- the frame and slot that a message fills
abbrev pub filled : Message → SyncUnit → Option (ℕ × ℕ)
filled message s = filled_on (way message) s

-- how many picks a message leaves open
abbrev pub candidates : Message → SyncUnit → ℕ
candidates message s = 1
