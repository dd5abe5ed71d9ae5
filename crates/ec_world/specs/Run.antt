-- What a list of steps gives, from the start on, and what is seen of a world.
use Rattle.std.specs.Prelude.{ℕ, zero, suc, ◌-◌, if◌then◌else◌, List, [], ◌∷◌, ◌++◌, map, length, replicate, take, Option, Some, None, ℤ, pos, slice_get, max, Bool, nat_lt}
use Rattle.ec_base.specs.declared.value.Value.{Value}
use Rattle.ec_base.specs.declared.value.Value.TheVariants as v
use Rattle.ec_code.specs.declared.code.Code.{Code}
use Rattle.ec_code.specs.declared.code.Function.{Function}
use Rattle.ec_code.specs.declared.message.Call.{Call}
use Rattle.ec_code.specs.declared.message.Entry.{Entry}
use Rattle.ec_code.specs.declared.message.Entry.TheVariants as e
use Rattle.ec_code.specs.declared.message.Message.{Message}
use Rattle.ec_eu.specs.Cells.{int_at}
use Rattle.ec_eu.specs.State.{new_exec}
use Rattle.ec_slots.specs.Slots.{fillings_of, slot_of}
use Rattle.ec_su.specs.Handle.{new_unit}
use Rattle.ec_world.specs.declared.choice.Act.{Act}
use Rattle.ec_world.specs.declared.choice.Act.TheVariants.{EuReady, EuSpawn, EuEvent, EuHungry, SuEvent, SuNet, SuReady, SuSend}
use Rattle.ec_world.specs.declared.choice.Choice.{Choice}
use Rattle.ec_world.specs.declared.node.Node.{Node}
use Rattle.ec_world.specs.Step.{Machine, step}

-- ---- lists of choices

abbrev pub and_then : {A B : Type 0} → Option A → (A → Option B) → Option B
and_then None go = None
and_then (Some x) go = go x

-- the world after all choices, where each is enabled in its turn
abbrev pub run : Code → List Choice → Machine → Option Machine
run code [] w = Some w
run code (c ∷ cs) w = and_then (step code c w) (run code cs)

-- ---- the start

abbrev pub param_count : Option Function → ℕ
param_count None = 0
param_count (Some f) = f.params

-- as many arguments as are taken: the numbers in order, zeros for those that are missing
abbrev pub main_args : ℕ → List ℤ → List Value
main_args count args = take count (map v.Int args ++ replicate count (v.Int (pos 0)))

-- the call of main, whose result goes to cell 0 and slot 0 of frame 0 of node 0
abbrev pub main_call : Code → List ℤ → Call
main_call code args = record {
  function = code.main;
  args = main_args (param_count (slice_get code.functions code.main)) args;
  birth = None;
  node = 0;
  frame = 0;
  cells = 0 ∷ [];
  slot = 0;
}

-- a node of n nodes that holds these ready entries, and nothing else
abbrev pub fresh_node : ℕ → ℕ → List Entry → Node
fresh_node n node ready = record {
  eu = new_exec node n;
  su = new_unit node n;
  ready = ready;
  events = [];
  net = replicate n [];
}

-- so many nodes from this number on
abbrev pub fresh_nodes : ℕ → ℕ → ℕ → List Node
fresh_nodes n node zero = []
fresh_nodes n node (suc count) = fresh_node n node [] ∷ fresh_nodes n (suc node) count

-- n nodes, one at least, of which node 0 enters main
abbrev pub start : Code → ℕ → List ℤ → Machine
start code n args = record {
  nodes = fresh_node n 0 (e.Enter (main_call code args) ∷ []) ∷ fresh_nodes n 1 (n - 1);
  trap = None;
}

-- ---- what is seen of a world

abbrev pub output_in : Option Node → List ℕ
output_in None = []
output_in (Some s) = s.eu.output

-- what the world has printed
abbrev pub output : Machine → List ℕ
output w = output_in (slice_get w.nodes 0)

abbrev pub filled_in : Option Node → ℕ
filled_in None = 0
filled_in (Some s) = fillings_of (slot_of 0 0 s.su.slots)

-- the root's slot has been filled
abbrev pub has_ended : Machine → Bool
has_ended w = nat_lt 0 (filled_in (slice_get w.nodes 0))

abbrev pub answer_in : Option Node → ℤ
answer_in None = pos 0
answer_in (Some s) = int_at 0 0 s.eu

-- cell 0 of frame 0 of node 0, as a number, where the world has ended
abbrev pub result : Machine → Option ℤ
result w = if has_ended w then Some (answer_in (slice_get w.nodes 0)) else None

-- the greatest number of messages that a unit of the nodes has handled
abbrev pub handled : List Node → ℕ
handled [] = 0
handled (s ∷ nodes) = max s.su.handled (handled nodes)

-- ---- rings

abbrev pub ready_held : Option Node → ℕ
ready_held None = 0
ready_held (Some s) = length s.ready

abbrev pub events_held : Option Node → ℕ
events_held None = 0
events_held (Some s) = length s.events

abbrev pub queue_held : Option (List Message) → ℕ
queue_held None = 0
queue_held (Some q) = length q

abbrev pub net_held : ℕ → Option Node → ℕ
net_held from None = 0
net_held from (Some s) = queue_held (slice_get s.net from)

abbrev pub held_by : Act → (node peer : ℕ) → List Node → ℕ
held_by EuReady node peer nodes = 0
held_by EuSpawn node peer nodes = 0
held_by EuEvent node peer nodes = events_held (slice_get nodes node)
held_by EuHungry node peer nodes = 0
held_by SuEvent node peer nodes = 0
held_by SuNet node peer nodes = 0
held_by SuReady node peer nodes = ready_held (slice_get nodes node)
held_by SuSend node peer nodes = net_held node (slice_get nodes peer)

-- how many entries the ring holds onto which a choice puts, and 0 where it puts onto none
abbrev pub held : Choice → List Node → ℕ
held c nodes = held_by c.act c.node c.peer nodes
