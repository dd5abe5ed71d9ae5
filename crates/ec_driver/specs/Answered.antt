-- How an answer of the evaluator is told.
use Rattle.ec_meaning.specs.declared.meant.Meant.{Meant}
use Rattle.ec_meaning.specs.declared.meant.MeantEnd.{MeantEnd}
use Rattle.ec_meaning.specs.declared.meant.MeantEnd.TheVariants as end
use Rattle.ec_driver.specs.declared.status.Status.{Status}
use Rattle.ec_driver.specs.declared.status.Status.TheVariants as status
use Rattle.ec_driver.specs.Ending.{Ending, bare, ending}
use Rattle.ec_driver.specs.Lines.{line_of}

abbrev pub status_of : MeantEnd → Status
status_of end.Ended = status.Done
status_of (end.Trapped t) = status.Trapped t
status_of end.OutOfTicks = status.StepsSpent
status_of end.TooDeep = status.TooDeep

abbrev pub told_of : Meant → Ending
told_of m = ending (bare (status_of m.ending)) m.output (line_of (status_of m.ending) m.result)
