-- One step of the machine.
use Rattle.std.specs.Prelude.{◌≡◌, ℕ, ◌==◌, Bool, true, false, not, ◌&&◌, if◌then◌else◌, List, [], ◌∷◌, ◌++◌, Option, Some, None, Result, Ok, Err, slice_get, slice_set, is_some}
use Rattle.ec_base.specs.declared.fail.Fail.{Fail}
use Rattle.ec_base.specs.declared.fail.Fail.TheVariants.{Memory, Refused}
use Rattle.ec_core.specs.declared.code.Code.{Code}
use Rattle.ec_core.specs.declared.message.Entry.{Entry}
use Rattle.ec_core.specs.declared.message.Message.{Message}
use Rattle.ec_core.specs.declared.choice.Act.{Act}
use Rattle.ec_core.specs.declared.choice.Act.TheVariants.{EuReady, EuSpawn, EuEvent, EuHungry, SuEvent, SuNet, SuReady, SuSend}
use Rattle.ec_core.specs.declared.choice.Choice.{Choice}
use Rattle.ec_core.specs.declared.node.Node.{Node}
use Rattle.ec_core.specs.Queues.{taken, taken_at, put_at, has_some, has_some_in}
use Rattle.ec_core.specs.State.{Exec}
use Rattle.ec_core.specs.Entry.{entry, spawned_step}
use Rattle.ec_core.specs.Handle.{handle}

-- ---- acts of one node

abbrev pub eu_ready : Code → ℕ → Option (Entry × List Entry) → Node → Option Node
eu_ready code me None s = None
eu_ready code me (Some (x, rest)) s = Some (record s { ready = rest; eu = entry code me x s.eu })

abbrev pub eu_spawn : Option Exec → Node → Option Node
eu_spawn None s = None
eu_spawn (Some u) s = Some (record s { eu = u })

abbrev pub with_outbox : List Message → Exec → Exec
with_outbox rest u = record u { outbox = rest }

abbrev pub eu_event : Option (Message × List Message) → Node → Option Node
eu_event None s = None
eu_event (Some (x, rest)) s = Some (record s { events = s.events ++ x ∷ []; eu = with_outbox rest s.eu })

abbrev pub su_event : ℕ → Option (Message × List Message) → Node → Option Node
su_event me None s = None
su_event me (Some (x, rest)) s = Some (record s { events = rest; su = handle me x s.su })

abbrev pub su_net : ℕ → Option (Message × List (List Message)) → Node → Option Node
su_net me None s = None
su_net me (Some (x, rest)) s = Some (record s { net = rest; su = handle me x s.su })

abbrev pub su_ready : Option (Entry × List Entry) → Node → Option Node
su_ready None s = None
su_ready (Some (x, rest)) s = Some (record s { ready = s.ready ++ x ∷ []; su = record s.su { ready = rest } })

-- what an act does to its node, where it takes or moves the oldest entry there; nothing asks for a token yet
abbrev pub acts : Code → ℕ → Act → ℕ → Node → Option Node
acts code me EuReady peer s = eu_ready code me (taken s.ready) s
acts code me EuSpawn peer s = eu_spawn (spawned_step code me s.eu) s
acts code me EuEvent peer s = eu_event (taken s.eu.outbox) s
acts code me EuHungry peer s = None
acts code me SuEvent peer s = su_event me (taken s.events) s
acts code me SuNet peer s = su_net me (taken_at peer s.net) s
acts code me SuReady peer s = su_ready (taken s.su.ready) s
acts code me SuSend peer s = None

-- ---- the world

abbrev pub at_node : ℕ → Option Node → List Node → Option (List Node)
at_node me None w = None
at_node me (Some s) w = Some (slice_set w me s)

abbrev pub acts_at : Code → Choice → Option Node → List Node → Option (List Node)
acts_at code c None w = None
acts_at code c (Some s) w = at_node c.node (acts code c.node c.act c.peer s) w

abbrev pub arrives_in : ℕ → Message → ℕ → Option Node → List Node → Option (List Node)
arrives_in me x peer None w = None
arrives_in me x peer (Some s) w = Some (slice_set w peer (record s { net = put_at me x s.net }))

abbrev pub sends_of : ℕ → ℕ → Option (Message × List (List Message)) → Node → List Node → Option (List Node)
sends_of me peer None s w = None
sends_of me peer (Some (x, rest)) s w =
    let sent = slice_set w me (record s { su = record s.su { peers = rest } })
    in arrives_in me x peer (slice_get sent peer) sent

-- the oldest message for a peer goes onto the ring to it
abbrev pub sends : ℕ → ℕ → Option Node → List Node → Option (List Node)
sends me peer None w = None
sends me peer (Some s) w = sends_of me peer (taken_at peer s.su.peers) s w

abbrev pub uses_peer : Act → Bool
uses_peer EuReady = false
uses_peer EuSpawn = false
uses_peer EuEvent = false
uses_peer EuHungry = false
uses_peer SuEvent = false
uses_peer SuNet = true
uses_peer SuReady = false
uses_peer SuSend = true

abbrev pub is_send : Act → Bool
is_send EuReady = false
is_send EuSpawn = false
is_send EuEvent = false
is_send EuHungry = false
is_send SuEvent = false
is_send SuNet = false
is_send SuReady = false
is_send SuSend = true

-- a peer that is used is another node, one that isn't is 0, and no message has more than one candidate yet
abbrev pub well_named : Choice → Bool
well_named c = (if uses_peer c.act then not (c.peer == c.node) else c.peer == 0) && (c.pick == 0)

-- the names are right, and the peer is there
abbrev pub named : Choice → List Node → Bool
named c w = well_named c && is_some (slice_get w c.peer)

-- the world after a choice, where it is enabled
abbrev pub step : Code → Choice → List Node → Option (List Node)
step code c w =
    if named c w
    then (if is_send c.act then sends c.node c.peer (slice_get w c.node) w else acts_at code c (slice_get w c.node) w)
    else None

-- ---- which choices are enabled

-- whether there is what an act of a node takes or moves
abbrev pub offers : Act → ℕ → Node → Bool
offers EuReady peer s = has_some s.ready
offers EuSpawn peer s = has_some s.eu.spawned
offers EuEvent peer s = has_some s.eu.outbox
offers EuHungry peer s = false
offers SuEvent peer s = has_some s.events
offers SuNet peer s = has_some_in (slice_get s.net peer)
offers SuReady peer s = has_some s.su.ready
offers SuSend peer s = has_some_in (slice_get s.su.peers peer)

abbrev pub offers_in : Act → ℕ → Option Node → Bool
offers_in act peer None = false
offers_in act peer (Some s) = offers act peer s

-- a choice is enabled where its node and peer are there and its unit has what it takes or moves
abbrev pub enabled : Choice → List Node → Bool
enabled c w = named c w && offers_in c.act c.peer (slice_get w c.node)

-- an enabled choice is exactly one that has a step
abbrev pub IsEnabledExactly : Type 0
IsEnabledExactly = (code : Code) (c : Choice) (w : List Node) → is_some (step code c w) ≡ enabled c w

-- ---- what the code of a step answers

-- a step was made, or was none and changed nothing; after want of memory nothing is said
abbrev pub Stepped : {A R : Type 0} → Option A → A → Result (Unit {0}) (Fail R) → A → Type 0
Stepped told old (Ok v) new = told ≡ Some new
Stepped told old (Err (Refused r)) new = (told ≡ None) × (new ≡ old)
Stepped told old (Err Memory) new = Unit {0}

-- what contracts see of a world: its nodes, and whether a step of it has wanted memory
pub record Machine : Type 0 where
  pub nodes : List Node
  pub failed : Bool

-- a step of a world that hasn't failed; one that wants memory fails it, and a failed world only wants memory
abbrev pub SteppedIn : {R : Type 0} → Code → Choice → Machine → Result (Unit {0}) (Fail R) → Machine → Type 0
SteppedIn code c old (Ok v) new = (old.failed ≡ false) × (step code c old.nodes ≡ Some new.nodes) × (new.failed ≡ false)
SteppedIn code c old (Err (Refused r)) new = (old.failed ≡ false) × (step code c old.nodes ≡ None) × (new ≡ old)
SteppedIn code c old (Err Memory) new = new.failed ≡ true
