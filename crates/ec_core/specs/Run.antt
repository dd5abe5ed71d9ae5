-- What a list of steps gives, from the start on.
use Rattle.std.specs.Prelude.{◌≡◌, ℕ, ◌-◌, ◌<◌, List, [], ◌∷◌, ◌++◌, map, replicate, take, Option, Some, None, ℤ, pos, slice_get, max}
use Rattle.ec_base.specs.declared.value.Value.{Value}
use Rattle.ec_base.specs.declared.value.Value.TheVariants as v
use Rattle.ec_core.specs.declared.code.Function.{Function}
use Rattle.ec_core.specs.declared.code.Code.{Code}
use Rattle.ec_core.specs.declared.choice.Choice.{Choice}
use Rattle.ec_core.specs.declared.message.Call.{Call}
use Rattle.ec_core.specs.declared.message.Entry.{Entry}
use Rattle.ec_core.specs.declared.message.Entry.TheVariants as e
use Rattle.ec_core.specs.declared.node.Node.{Node}
use Rattle.ec_core.specs.Entry.{new_exec}
use Rattle.ec_core.specs.Fiber.{int_at}
use Rattle.ec_core.specs.Slots.{Row, slot_of, fillings_of, root_slot}
use Rattle.ec_core.specs.Step.{step}

-- ---- lists of choices

abbrev pub and_then : {A B : Type 0} → Option A → (A → Option B) → Option B
and_then None go = None
and_then (Some x) go = go x

-- the world after all choices, where each is enabled in its turn
abbrev pub run : Code → List Choice → List Node → Option (List Node)
run code [] w = Some w
run code (c ∷ cs) w = and_then (step code c w) (run code cs)

-- ---- the start

abbrev pub param_count : Option Function → ℕ
param_count None = 0
param_count (Some f) = f.params

-- as many arguments as are taken: the words' numbers in order, zeros for those that are missing
abbrev pub main_args : ℕ → List ℤ → List Value
main_args count args = take count (map v.Int args ++ replicate count (v.Int (pos 0)))

-- the call of main, whose result goes to cell 0 and slot 0 of frame 0 of node 0
abbrev pub main_call : Code → List ℤ → Call
main_call code args = record {
  function = code.main;
  args = main_args (param_count (slice_get code.functions code.main)) args;
  birth = None;
  node = 0;
  frame = 0;
  cells = 0 ∷ [];
  slot = 0;
}

-- a node of n nodes that holds these slots and ready entries, and nothing else
abbrev pub fresh_node : ℕ → List Row → List Entry → Node
fresh_node n rows ready = record {
  eu = new_exec;
  su = record { slots = rows; ready = []; peers = replicate n []; handled = 0 };
  ready = ready;
  events = [];
  net = replicate n [];
}

-- n nodes; node 0 has the root's slot and enters main
abbrev pub start : Code → ℕ → List ℤ → List Node
start code n args =
    fresh_node n ((Some root_slot ∷ []) ∷ []) (e.Enter (main_call code args) ∷ [])
    ∷ replicate (n - 1) (fresh_node n [] [])

-- ---- what is seen of a world

abbrev pub output_in : Option Node → List ℕ
output_in None = []
output_in (Some s) = s.eu.output

-- what the world has printed
abbrev pub output : List Node → List ℕ
output w = output_in (slice_get w 0)

abbrev pub filled_in : Option Node → ℕ
filled_in None = 0
filled_in (Some s) = fillings_of (slot_of 0 0 s.su.slots)

-- the root's slot has been filled
abbrev pub HasEnded : List Node → Type 0
HasEnded w = 0 < filled_in (slice_get w 0)

-- a step has trapped; none does yet
abbrev pub HasTrapped : List Node → Type 0
HasTrapped w = ⊥

abbrev pub result_in : Option Node → ℤ
result_in None = pos 0
result_in (Some s) = int_at 0 0 s.eu

-- cell 0 of frame 0 of node 0, as a number
abbrev pub result : List Node → ℤ
result w = result_in (slice_get w 0)

-- there is a result exactly where the world has ended
abbrev pub IsResult : Option ℤ → List Node → Type 0
IsResult None w = ¬ (HasEnded w)
IsResult (Some n) w = HasEnded w × (n ≡ result w)

-- the greatest number of messages that a unit of the world has handled
abbrev pub handled : List Node → ℕ
handled [] = 0
handled (s ∷ w) = max s.su.handled (handled w)
