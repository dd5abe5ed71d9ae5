use Rattle.std.proofs.Common.{◌≡◌, ◌++◌, ◌-◌}
use Rattle.ec_cells.specs.Blocks.{fresh_cells}
use Rattle.ec_cells.proofs.blocks.fresh_cells.Given as goal

abbrev pub invariant-loop : goal.invariant-loop
invariant-loop l = l.cells.items ++ fresh_cells (l.count - l.counter) l.size l.nils ≡ fresh_cells l.count l.size l.nils
