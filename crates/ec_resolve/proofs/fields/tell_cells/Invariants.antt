use Rattle.std.proofs.Common.{◌≡◌, ◌++◌}
use Rattle.std.proofs.Math.ListN.{replicate}
use Rattle.ec_resolve.proofs.fields.tell_cells.Given as goal

abbrev pub invariant-loop : goal.invariant-loop
invariant-loop l = l.told ≡ l.fn.told ++ replicate l.counter l.pointer
