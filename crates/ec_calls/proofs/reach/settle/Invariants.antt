use Rattle.ec_calls.specs.Numbers.{Lowers, total}
use Rattle.ec_calls.proofs.reach.settle.Given as goal

abbrev pub invariant-loop-places : goal.invariant-loop-places
invariant-loop-places l = Lowers l.calls l.initial.places l.places

abbrev pub decreases-loop-places : goal.decreases-loop-places
decreases-loop-places l = total l.places
