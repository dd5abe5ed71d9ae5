use Rattle.std.proofs.Common.{◌≤◌, length, subst}
use Rattle.ec_edge.proofs.Writes.{found}
use Rattle.ec_edge.proofs.memory_shelf.MemShelf.told.Goals as goal

pub returns : goal.returns
returns c =
    let last = c.loop-write.write-index in
    let all = subst (λ z. length z ≤ last) c.as_slice-write-items.ensures c.loop-write-test.false in
    found _ _ _ last _ c.loop-write.invariant all
