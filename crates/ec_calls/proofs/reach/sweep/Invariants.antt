use Rattle.std.proofs.Common.{◌≡◌, ◌≤◌, ◌+◌, false}
use Rattle.ec_calls.specs.Numbers.{Lowers, one_if, total}
use Rattle.ec_calls.proofs.Lowering.{AreKept}
use Rattle.ec_calls.proofs.reach.sweep.Given as goal

abbrev pub invariant-loop-call : goal.invariant-loop-call
invariant-loop-call l = record {
  lowers : Lowers l.calls l.initial.places l.places;
  falls : total l.places + one_if l.changed ≤ total l.initial.places;
  kept : l.changed ≡ false → AreKept l.places l.calls l.call-index;
}
