use Rattle.ec_types.proofs.Cells.{counted}
use Rattle.ec_types.proofs.size.cells.Goals as goal

pub returns : goal.returns
returns c = counted c.args.s.now.fields c.as_slice-f-items.result.now c.loop-f.f-index c.loop-f.sum _ c.as_slice-f-items.ensures c.loop-f-test.false c.loop-f.invariant.fits c.loop-f.invariant.counts
