-- When a world agrees with a meaning, and what every run of a small program's code gives.
use Rattle.std.specs.Prelude.{◌≡◌, true, List, Some, ℤ}
use Rattle.ec_core.specs.declared.choice.Act.{Act}
use Rattle.ec_core.specs.declared.choice.Choice.{Choice}
use Rattle.ec_core.specs.declared.code.Code.{Code}
use Rattle.ec_core.specs.declared.node.Node.{Node}
use Rattle.ec_core.specs.Step.{enabled}
use Rattle.ec_core.specs.Observed.{observed}
use Rattle.ec_core.specs.Run.{run, start, HasEnded}
use Rattle.ec_small.specs.declared.tree.Program.{Program}
use Rattle.ec_small.specs.Meaning.{Meaning, Ended, meaning}
use Rattle.ec_small.specs.Sound.{Sound}
use Rattle.ec_split.specs.Cut.{code_of}

-- what is seen of the world is the meaning's output, result and store, and the meaning comes to its end
pub record Agrees (w : List Node) (m : Meaning) : Type 0 where
  pub ending : m.ending ≡ Ended
  pub output : (observed w).output ≡ m.output
  pub result : (observed w).result ≡ m.result
  pub store : (observed w).store ≡ m.store

-- a step of node 0 that no peer takes part in
abbrev pub own : Act → Choice
own act = record { node = 0; act = act; peer = 0; pick = 0 }

-- on one node every list of steps of this code that ends gives what the program means
abbrev pub EveryRunAgrees : Program → Code → Type 0
EveryRunAgrees p code = (args : List ℤ) (list : List Choice) (w : List Node) →
    run code list (start code 1 args) ≡ Some w → HasEnded w → Agrees w (meaning p)

-- on one node every list of steps of this code that hasn't ended can go on
abbrev pub EveryRunGoesOn : Code → Type 0
EveryRunGoesOn code = (args : List ℤ) (list : List Choice) (w : List Node) →
    run code list (start code 1 args) ≡ Some w → (HasEnded w → ⊥) → (act : Act) × (enabled (own act) w ≡ true)

-- the same of the code that a program is cut into
abbrev pub EndedRunsAgree : Type 0
EndedRunsAgree = (p : Program) → Sound p → EveryRunAgrees p (code_of p)

abbrev pub UnendedRunsGoOn : Type 0
UnendedRunsGoOn = (p : Program) → Sound p → EveryRunGoesOn (code_of p)
