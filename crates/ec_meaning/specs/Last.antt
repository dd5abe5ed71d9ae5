-- How the meaning ends, by the evaluator's last step.
use Rattle.std.specs.Prelude.{Bool, ℤ, pos}
use Rattle.ec_types.specs.Meaning.Values.{number}
use Rattle.ec_meaning.specs.declared.machine.Step.{Step}
use Rattle.ec_meaning.specs.declared.machine.Step.TheVariants as step
use Rattle.ec_meaning.specs.declared.meant.MeantEnd.{MeantEnd}
use Rattle.ec_meaning.specs.declared.meant.MeantEnd.TheVariants as end
use Rattle.ec_meaning.specs.Seen.{Untold}
use Rattle.ec_meaning.specs.Steps.{ended}

-- a last step never goes on
abbrev pub ending : Step → MeantEnd
ending step.On = end.OutOfTicks
ending step.OutOfTicks = end.OutOfTicks
ending step.TooDeep = end.TooDeep
ending (step.Trapped t) = end.Trapped t
ending (step.Ended v) = end.Ended

abbrev pub result : Step → Bool → Untold → ℤ
result (step.Ended v) pointer u = number (ended pointer v u)
result last pointer u = pos 0
