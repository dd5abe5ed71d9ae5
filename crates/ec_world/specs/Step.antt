-- One step of the machine.
use Rattle.std.specs.Prelude.{◌≡◌, ℕ, ◌==◌, Bool, true, false, not, ◌&&◌, if◌then◌else◌, nat_lt, List, [], ◌∷◌, ◌++◌, length, Option, Some, None, slice_get, slice_set, is_some, is_none}
use Rattle.ec_base.specs.declared.trap.Trap.{Trap}
use Rattle.ec_code.specs.declared.code.Code.{Code}
use Rattle.ec_code.specs.declared.message.Entry.{Entry}
use Rattle.ec_code.specs.declared.message.Message.{Message}
use Rattle.ec_eu.specs.Entries.{entry, spawned_step}
use Rattle.ec_eu.specs.State.{Exec}
use Rattle.ec_queue.specs.Queues.{taken, taken_at, put_at, has_some, has_some_in}
use Rattle.ec_su.specs.Handle.{SyncUnit, candidates, handle}
use Rattle.ec_world.specs.declared.choice.Act.{Act}
use Rattle.ec_world.specs.declared.choice.Act.TheVariants.{EuReady, EuSpawn, EuEvent, EuHungry, SuEvent, SuNet, SuReady, SuSend}
use Rattle.ec_world.specs.declared.choice.Choice.{Choice}
use Rattle.ec_world.specs.declared.node.Node.{Node}

-- the nodes by number, and the trap of the first step that has trapped
pub record Machine : Type 0 where
  pub nodes : List Node
  pub trap : Option Trap

-- ---- acts of one node

-- a unit that has trapped runs nothing more
abbrev pub unless_trapped : Exec → Option Node → Option Node
unless_trapped u o = if is_none u.trap then o else None

abbrev pub eu_ready : Code → Option (Entry × List Entry) → Node → Option Node
eu_ready code None s = None
eu_ready code (Some (x, rest)) s = Some (record s { ready = rest; eu = entry code x s.eu })

abbrev pub eu_spawn : Option Exec → Node → Option Node
eu_spawn None s = None
eu_spawn (Some u) s = Some (record s { eu = u })

abbrev pub with_outbox : List Message → Exec → Exec
with_outbox rest u = record u { outbox = rest }

abbrev pub eu_event : Option (Message × List Message) → Node → Option Node
eu_event None s = None
eu_event (Some (x, rest)) s = Some (record s { events = s.events ++ x ∷ []; eu = with_outbox rest s.eu })

-- a message is handled by one of its candidates
abbrev pub su_event : ℕ → Option (Message × List Message) → Node → Option Node
su_event pick None s = None
su_event pick (Some (x, rest)) s =
    if nat_lt pick (candidates x s.su) then Some (record s { events = rest; su = handle x s.su }) else None

abbrev pub su_net : ℕ → Option (Message × List (List Message)) → Node → Option Node
su_net pick None s = None
su_net pick (Some (x, rest)) s =
    if nat_lt pick (candidates x s.su) then Some (record s { net = rest; su = handle x s.su }) else None

abbrev pub with_ready : List Entry → SyncUnit → SyncUnit
with_ready rest u = record u { ready = rest }

abbrev pub su_ready : Option (Entry × List Entry) → Node → Option Node
su_ready None s = None
su_ready (Some (x, rest)) s = Some (record s { ready = s.ready ++ x ∷ []; su = with_ready rest s.su })

-- what an act does to its node, where it takes or moves the oldest entry there; nothing asks for a token
abbrev pub acts : Code → Act → (peer pick : ℕ) → Node → Option Node
acts code EuReady peer pick s = unless_trapped s.eu (eu_ready code (taken s.ready) s)
acts code EuSpawn peer pick s = unless_trapped s.eu (eu_spawn (spawned_step code s.eu) s)
acts code EuEvent peer pick s = eu_event (taken s.eu.outbox) s
acts code EuHungry peer pick s = None
acts code SuEvent peer pick s = su_event pick (taken s.events) s
acts code SuNet peer pick s = su_net pick (taken_at peer s.net) s
acts code SuReady peer pick s = su_ready (taken s.su.ready) s
acts code SuSend peer pick s = None

-- ---- the world

-- the trap that came first
abbrev pub first_trap : Option Trap → Option Trap → Option Trap
first_trap None later = later
first_trap (Some t) later = Some t

abbrev pub at_node : ℕ → Option Node → Machine → Option Machine
at_node me None w = None
at_node me (Some s) w = Some (record { nodes = slice_set w.nodes me s; trap = first_trap w.trap s.eu.trap })

abbrev pub acts_at : Code → Choice → Option Node → Machine → Option Machine
acts_at code c None w = None
acts_at code c (Some s) w = at_node c.node (acts code c.act c.peer c.pick s) w

abbrev pub with_nodes : Option (List Node) → Machine → Option Machine
with_nodes None w = None
with_nodes (Some nodes) w = Some (record w { nodes = nodes })

abbrev pub arrives_in : ℕ → Message → ℕ → Option Node → List Node → Option (List Node)
arrives_in me x peer None nodes = None
arrives_in me x peer (Some s) nodes = Some (slice_set nodes peer (record s { net = put_at me x s.net }))

abbrev pub with_peers : List (List Message) → SyncUnit → SyncUnit
with_peers rest u = record u { peers = rest }

abbrev pub sends_of : ℕ → ℕ → Option (Message × List (List Message)) → Node → List Node → Option (List Node)
sends_of me peer None s nodes = None
sends_of me peer (Some (x, rest)) s nodes =
    let sent = slice_set nodes me (record s { su = with_peers rest s.su })
    in arrives_in me x peer (slice_get sent peer) sent

-- the oldest message for a peer goes onto the ring to it
abbrev pub sends : ℕ → ℕ → Option Node → List Node → Option (List Node)
sends me peer None nodes = None
sends me peer (Some s) nodes = sends_of me peer (taken_at peer s.su.peers) s nodes

abbrev pub sends_on : ℕ → ℕ → Machine → Option Machine
sends_on me peer w = with_nodes (sends me peer (slice_get w.nodes me) w.nodes) w

abbrev pub uses_peer : Act → Bool
uses_peer SuNet = true
uses_peer SuSend = true
uses_peer _ = false

abbrev pub uses_pick : Act → Bool
uses_pick SuEvent = true
uses_pick SuNet = true
uses_pick _ = false

abbrev pub is_send : Act → Bool
is_send SuSend = true
is_send _ = false

-- a peer that is used is another node, and what isn't used is 0
abbrev pub well_named : Choice → Bool
well_named c =
    (if uses_peer c.act then not (c.peer == c.node) else c.peer == 0) && (if uses_pick c.act then true else c.pick == 0)

-- the names are right, and the peer is there
abbrev pub named : Choice → List Node → Bool
named c nodes = well_named c && nat_lt c.peer (length nodes)

-- the world after a choice, where it is enabled
abbrev pub step : Code → Choice → Machine → Option Machine
step code c w =
    if named c w.nodes
    then (if is_send c.act then sends_on c.node c.peer w else acts_at code c (slice_get w.nodes c.node) w)
    else None

-- ---- which choices are enabled

abbrev pub candidates_of : List Message → SyncUnit → ℕ
candidates_of [] u = 1
candidates_of (x ∷ rest) u = candidates x u

abbrev pub candidates_in : Option (List Message) → SyncUnit → ℕ
candidates_in None u = 1
candidates_in (Some q) u = candidates_of q u

-- how many picks an act leaves open: those of the oldest message, where it handles one
abbrev pub picks : Act → ℕ → Node → ℕ
picks SuEvent peer s = candidates_of s.events s.su
picks SuNet peer s = candidates_in (slice_get s.net peer) s.su
picks _ peer s = 1

-- whether there is what an act of a node takes or moves
abbrev pub offers : Act → ℕ → Node → Bool
offers EuReady peer s = is_none s.eu.trap && has_some s.ready
offers EuSpawn peer s = is_none s.eu.trap && has_some s.eu.spawned
offers EuEvent peer s = has_some s.eu.outbox
offers EuHungry peer s = false
offers SuEvent peer s = has_some s.events
offers SuNet peer s = has_some_in (slice_get s.net peer)
offers SuReady peer s = has_some s.su.ready
offers SuSend peer s = has_some_in (slice_get s.su.peers peer)

abbrev pub offers_in : Choice → Option Node → Bool
offers_in c None = false
offers_in c (Some s) = offers c.act c.peer s && nat_lt c.pick (picks c.act c.peer s)

-- a choice is enabled where its node and peer are there, its unit has what it takes or moves, and its pick is a candidate
abbrev pub enabled : Choice → List Node → Bool
enabled c nodes = named c nodes && offers_in c (slice_get nodes c.node)

-- an enabled choice is exactly one that has a step
abbrev pub IsEnabledExactly : Type 0
IsEnabledExactly = (code : Code) (c : Choice) (w : Machine) → is_some (step code c w) ≡ enabled c w.nodes
