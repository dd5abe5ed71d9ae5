use Rattle.ec_small.proofs.Counted.{statement_next}
use Rattle.ec_small.proofs.meaning.Progress.run.Goals as goal

pub loop-stmt-preserved : goal.loop-stmt-preserved
loop-stmt-preserved c =
    statement_next c.args.stmts.now c.loop-stmt.stmt-index c.stmt-item.result _ _ _ c.loop-stmt-test.true c.stmt-item.is c.in_ok-execute.ensures c.loop-stmt.invariant
