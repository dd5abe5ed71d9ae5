use Rattle.std.proofs.Common.{◌≡◌, drop}
use Rattle.ec_small.specs.Meaning.{declared_from}
use Rattle.ec_small.specs.Counting.{Alike, state}
use Rattle.ec_small.proofs.meaning.Progress.declare.Given as goal

abbrev pub invariant-loop-init : goal.invariant-loop-init
invariant-loop-init l = record {
  variable : l.variable ≡ l.init-index;
  goes_on : Alike (declared_from l.variable (drop l.init-index l.inits) (state l.self)) (declared_from 0 l.inits (state l.fn.self));
}
