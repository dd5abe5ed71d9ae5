use Rattle.std.proofs.Common.{◌≤◌, length}
use Rattle.ec_calls.specs.Numbers.{Lowers, total}
use Rattle.ec_calls.proofs.reach.sweep_back.Given as goal

abbrev pub invariant-loop-left : goal.invariant-loop-left
invariant-loop-left l = record {
  lowers : Lowers l.calls l.initial.places l.places;
  falls : total l.places ≤ total l.initial.places;
  within : l.left ≤ length l.calls;
}

abbrev pub decreases-loop-left : goal.decreases-loop-left
decreases-loop-left l = l.left
