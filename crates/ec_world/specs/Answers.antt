-- What the code of a step answers.
use Rattle.std.specs.Prelude.{◌≡◌, Bool, true, false, Option, Some, None, Result, Ok, Err}
use Rattle.ec_base.specs.declared.fail.Fail.{Fail}
use Rattle.ec_base.specs.declared.fail.Fail.TheVariants.{Memory, Refused}
use Rattle.ec_base.specs.declared.trap.Trap.{Trap}
use Rattle.ec_code.specs.declared.code.Code.{Code}
use Rattle.ec_world.specs.declared.choice.Choice.{Choice}
use Rattle.ec_world.specs.declared.node.Node.{Node}
use Rattle.ec_world.specs.Step.{Machine, step}

-- a step was made, or was none and changed nothing; after want of memory nothing is said
abbrev pub Stepped : {A R : Type 0} → Option A → A → Result (Unit {0}) (Fail R) → A → Type 0
Stepped told old (Ok v) new = told ≡ Some new
Stepped told old (Err (Refused r)) new = (told ≡ None) × (new ≡ old)
Stepped told old (Err Memory) new = Unit {0}

-- the same of one node, with the trap of its execution unit afterwards
abbrev pub ActedAt : {R : Type 0} → Option Node → Node → Result (Option Trap) (Fail R) → Node → Type 0
ActedAt told old (Ok trap) new = (told ≡ Some new) × (trap ≡ new.eu.trap)
ActedAt told old (Err (Refused r)) new = (told ≡ None) × (new ≡ old)
ActedAt told old (Err Memory) new = Unit {0}

-- what contracts see of a world: the machine, and whether a step of it has wanted memory
pub record Seen : Type 0 where
  pub machine : Machine
  pub failed : Bool

-- a step of a world that hasn't failed; one that wants memory fails it, and a failed world only wants memory
abbrev pub SteppedIn : {R : Type 0} → Code → Choice → Seen → Result (Unit {0}) (Fail R) → Seen → Type 0
SteppedIn code c old (Ok v) new =
    (old.failed ≡ false) × (step code c old.machine ≡ Some new.machine) × (new.failed ≡ false)
SteppedIn code c old (Err (Refused r)) new = (old.failed ≡ false) × (step code c old.machine ≡ None) × (new ≡ old)
SteppedIn code c old (Err Memory) new = new.failed ≡ true
