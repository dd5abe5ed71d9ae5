use Rattle.std.proofs.Common.{refl, arith}
use Rattle.ec_edge.proofs.Writes.{told_other}
use Rattle.ec_edge.proofs.memory_shelf.MemShelf.keep.Goals as goal

pub returns-clause-only : goal.returns-clause-only
returns-clause-only c = record {
  told = λ n other. told_other n c.args.name.now _ _ c.args.bytes _ _ c.in_ok-name.ensures c.in_ok-push.ensures.ok other;
  reads = refl;
  writes = omega arith;
}
