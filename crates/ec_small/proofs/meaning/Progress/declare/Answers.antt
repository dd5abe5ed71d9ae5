use Rattle.ec_small.proofs.Counted.{initialiser_next}
use Rattle.std.proofs.Common.{arith}
use Rattle.ec_small.proofs.meaning.Progress.declare.Goals as goal

pub loop-init-preserved : goal.loop-init-preserved
loop-init-preserved c = record {
  variable = omega arith;
  goes_on =
      initialiser_next c.args.inits.now c.loop-init.init-index c.loop-init.variable c.init-item.result _ _ _ c.loop-init-test.true c.init-item.is c.initialise.ensures
      c.loop-init.invariant.goes_on;
}
