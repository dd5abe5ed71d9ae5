-- What a status says of how a command ended.
use Rattle.std.specs.Prelude.{◌≡◌, ◌⊎◌, ℕ}
use Rattle.ec_edge.specs.Fault.{Rose}
use Rattle.ec_driver.specs.declared.status.Status.{Status}
use Rattle.ec_driver.specs.declared.status.Status.TheVariants.{Done, WordsRefused, SourceRefused, Trapped, StepsSpent, ReadFault, WriteFault, NoMemory, TooDeep}

-- the exit code of a status
abbrev pub number_of : Status → ℕ
number_of Done = 0
number_of WordsRefused = 1
number_of (SourceRefused r) = 2
number_of (Trapped t) = 3
number_of StepsSpent = 4
number_of ReadFault = 5
number_of WriteFault = 6
number_of NoMemory = 7
number_of TooDeep = 9

-- the command came to a stop before it did anything, or it was done, or writing failed or memory was wanted anywhere
pub data Kind : Type 0 where
  stopped : Kind
  done : Kind
  failed : Kind

abbrev pub kind_of : Status → Kind
kind_of Done = done
kind_of WordsRefused = stopped
kind_of (SourceRefused r) = stopped
kind_of (Trapped t) = done
kind_of StepsSpent = done
kind_of ReadFault = stopped
kind_of WriteFault = failed
kind_of NoMemory = failed
kind_of TooDeep = done

-- the status is of this kind, or the file could not be read, or the call failed
abbrev pub IsOfOrFails : Kind → Status → Type 0
IsOfOrFails kind s = (kind_of s ≡ kind) ⊎ ((s ≡ ReadFault) ⊎ (kind_of s ≡ failed))

-- the status is this one, or the file could not be read, or the call failed
abbrev pub IsOrFails : Status → Status → Type 0
IsOrFails told s = (s ≡ told) ⊎ ((s ≡ ReadFault) ⊎ (kind_of s ≡ failed))

-- how the count of read faults went: it rose where the file could not be read, and stayed elsewhere, unless the call
-- failed
abbrev pub ReadsAs : Status → ℕ → ℕ → Type 0
ReadsAs Done old new = new ≡ old
ReadsAs WordsRefused old new = new ≡ old
ReadsAs (SourceRefused r) old new = new ≡ old
ReadsAs (Trapped t) old new = new ≡ old
ReadsAs StepsSpent old new = new ≡ old
ReadsAs ReadFault old new = Rose old new
ReadsAs WriteFault old new = Unit {0}
ReadsAs NoMemory old new = Unit {0}
ReadsAs TooDeep old new = new ≡ old
