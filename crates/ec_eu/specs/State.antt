-- What contracts see of an execution unit.
use Rattle.std.specs.Prelude.{ℕ, Bool, false, List, [], ◌∷◌, ◌++◌, Option, Some, None}
use Rattle.ec_base.specs.declared.trap.Trap.{Trap}
use Rattle.ec_cells.specs.Frames.{with_frame}
use Rattle.ec_cells.specs.Memory.{Memory, new_node}
use Rattle.ec_code.specs.declared.message.Message.{Message}
use Rattle.ec_eu.specs.declared.state.Activation.{Activation}
use Rattle.ec_eu.specs.declared.state.EuEnd.{EuEnd}
use Rattle.ec_eu.specs.declared.state.EuEnd.TheVariants.{Went, Trapped}
use Rattle.ec_eu.specs.declared.state.Spawned.{Spawned}

-- The number of nodes; the memory of its own; what each frame was made for, none where it has ended, and none for frame 0;
-- fibers that were spawned; messages on their way to the synchronisation unit; the output; the trap, where it has trapped; and
-- whether a step of it has wanted memory.
pub record Exec : Type 0 where
  pub nodes : ℕ
  pub memory : Memory
  pub activations : List (Option Activation)
  pub spawned : List Spawned
  pub outbox : List Message
  pub output : List ℕ
  pub trap : Option Trap
  pub failed : Bool

-- the unit of a node of so many, which has made frame 0, of one cell
abbrev pub new_exec : ℕ → ℕ → Exec
new_exec node nodes = record {
  nodes = nodes;
  memory = with_frame 1 None (new_node node);
  activations = None ∷ [];
  spawned = [];
  outbox = [];
  output = [];
  trap = None;
  failed = false;
}

abbrev pub with_memory : Memory → Exec → Exec
with_memory m s = record s { memory = m }

-- a message more in the outbox
abbrev pub says : Message → Exec → Exec
says message s = record s { outbox = s.outbox ++ message ∷ [] }

abbrev pub traps : Trap → Exec → Exec
traps t s = record s { trap = Some t }

-- how its last step ended, where none before it has trapped
abbrev pub ending : Option Trap → EuEnd
ending None = Went
ending (Some t) = Trapped t
