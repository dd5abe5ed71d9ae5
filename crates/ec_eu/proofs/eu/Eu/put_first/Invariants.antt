use Rattle.std.proofs.Common.{◌≡◌, drop}
use Rattle.ec_eu.specs.Cells as cells
use Rattle.ec_eu.proofs.eu.Eu.put_first.Given as goal

abbrev pub invariant-loop-cell : goal.invariant-loop-cell
invariant-loop-cell l = cells.put_from l.n 0 l.values l.fn.self ≡ cells.put_from l.n l.cell (drop l.cell l.values) l.self
