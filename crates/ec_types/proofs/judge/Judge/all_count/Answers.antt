use Rattle.std.proofs.Common.{sym, ◌+◌, map, take, arith}
use Rattle.ec_types.specs.Judged.{every}
use Rattle.ec_types.specs.Seen.{context}
use Rattle.ec_types.specs.Statements.{counts}
use Rattle.ec_types.proofs.Bodies.Lists.{every_goes, goes_on_with}
use Rattle.ec_types.proofs.judge.Judge.all_count.Goals as goal

pub loop-e-preserved : goal.loop-e-preserved
loop-e-preserved c =
    let one = counts (context c.args.self.now) c.args.at in
    goes_on_with (every_goes one) c.args.all.now c.loop-e.e-index (c.loop-e.e-index + 1) c.e-item.result c.also-so_far.result
    (omega arith) c.loop-e-test.true (sym c.e-item.is)
    (c.also-so_far.ensures (every (map one (take c.loop-e.e-index c.args.all.now))) (one c.e-item.result) c.loop-e.invariant c.counts.ensures)
