use Rattle.std.proofs.Common.{◌+◌, sym, arith}
use Rattle.ec_types.specs.Declarations as declarations
use Rattle.ec_types.specs.Seen.{context}
use Rattle.ec_types.proofs.Bodies.Lists.{goes_on_with, every_goes}
use Rattle.ec_types.proofs.judge.Judge.parameters.Goals as goal

pub loop-d-preserved : goal.loop-d-preserved
loop-d-preserved c =
    goes_on_with (every_goes (declarations.parameter (context c.args.self.now))) c.args.all.now c.loop-d.d-index (c.loop-d.d-index + 1) c.d-item.result
    c.also-so_far.result (omega arith) c.loop-d-test.true (sym c.d-item.is) (c.also-so_far.ensures _ _ c.loop-d.invariant c.parameter.ensures)
