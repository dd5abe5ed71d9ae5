use Rattle.std.proofs.Common.{◌≡◌, ◌++◌, ◌-◌}
use Rattle.ec_cells.specs.Blocks.{fresh_element}
use Rattle.ec_cells.proofs.blocks.push_element.Given as goal

abbrev pub invariant-loop : goal.invariant-loop
invariant-loop l = l.cells.items ++ fresh_element (l.size - l.counter) l.nils ≡ l.fn.cells.items ++ fresh_element l.size l.fn.nils
