-- What units hold and send is in place: every node that it names is one of the n.
use Rattle.std.specs.Prelude.{◌≡◌, ◌<◌, ℕ, true, List, Option, Some, None}
use Rattle.std.specs.List.{All}
use Rattle.ec_base.specs.declared.value.Value.{Value}
use Rattle.ec_cells.specs.declared.node.Frame.{Frame}
use Rattle.ec_code.specs.declared.code.Code.{Code}
use Rattle.ec_code.specs.declared.message.Entry.{Entry}
use Rattle.ec_code.specs.InPlace.{IsEntry, IsMessage, IsValue}
use Rattle.ec_code.specs.Valid.{valid}
use Rattle.ec_eu.specs.declared.state.Activation.{Activation}
use Rattle.ec_eu.specs.Entries.{entry, spawned_step}
use Rattle.ec_eu.specs.Fibers.{runs_fiber}
use Rattle.ec_eu.specs.State.{Exec, new_exec}

-- the cells of a frame or of a block hold values that are in place
abbrev pub AreValues : ℕ → List Value → Type 0
AreValues n cells = All (IsValue n) cells

abbrev pub IsFrame : ℕ → Frame → Type 0
IsFrame n f = AreValues n f.cells

-- a frame's results go to a node that is there
abbrev pub IsAnswering : ℕ → Option Activation → Type 0
IsAnswering n None = Unit {0}
IsAnswering n (Some a) = a.caller.node < n

-- a unit of one of n nodes that holds and sends only what is in place
pub record IsPlaced (n : ℕ) (s : Exec) : Type 0 where
  pub node : s.memory.node < n
  pub nodes : s.nodes ≡ n
  pub cells : All (IsFrame n) s.memory.frames
  pub blocks : All (AreValues n) s.memory.blocks
  pub callers : All (IsAnswering n) s.activations
  pub outbox : All (IsMessage n) s.outbox

-- A unit that was just made for one of the nodes is such.
abbrev pub NewIsPlaced : Type 0
NewIsPlaced = (n node : ℕ) → node < n → IsPlaced n (new_exec node n)

-- Fibers of valid code leave it so,
abbrev pub FibersStayPlaced : Type 0
FibersStayPlaced = (n : ℕ) (code : Code) (frame fiber : ℕ) (s : Exec) → valid code ≡ true → IsPlaced n s →
    IsPlaced n (runs_fiber code frame fiber s)

-- and so do entries that are in place,
abbrev pub EntriesStayPlaced : Type 0
EntriesStayPlaced = (n : ℕ) (code : Code) (x : Entry) (s : Exec) → valid code ≡ true → IsEntry n x → IsPlaced n s →
    IsPlaced n (entry code x s)

-- and the oldest spawned fiber.
abbrev pub SpawnedStayPlaced : Type 0
SpawnedStayPlaced = (n : ℕ) (code : Code) (s t : Exec) → valid code ≡ true → IsPlaced n s → spawned_step code s ≡ Some t →
    IsPlaced n t
