-- What a step of an execution unit answers.
use Rattle.std.specs.Prelude.{◌≡◌, true, false, Option, Some, None, Result, Ok, Err}
use Rattle.ec_base.specs.declared.fail.NoMemory.{NoMemory}
use Rattle.ec_eu.specs.declared.state.EuEnd.{EuEnd}
use Rattle.ec_eu.specs.State.{Exec, ending}

-- A unit that hasn't failed does what is told, and says how that ended; one that wants memory has failed from then on.
abbrev pub Ran : Result EuEnd NoMemory → Exec → Exec → Exec → Type 0
Ran (Ok end) told old new = (old.failed ≡ false) × (new ≡ told) × (end ≡ ending new.trap)
Ran (Err e) told old new = new.failed ≡ true

-- The same of the oldest spawned fiber, where one waits.
abbrev pub RanOldest : Result EuEnd NoMemory → Option Exec → Exec → Exec → Type 0
RanOldest result None old new = ⊥
RanOldest result (Some told) old new = Ran result told old new
