use Rattle.std.proofs.Common.{◌≡◌, drop}
use Rattle.ec_eu.specs.Cells as cells
use Rattle.ec_eu.proofs.eu.Eu.put_all.Given as goal

abbrev pub invariant-loop-at : goal.invariant-loop-at
invariant-loop-at l =
    cells.put_all l.n l.places l.values l.fn.self ≡ cells.put_all l.n (drop l.at l.places) (drop l.at l.values) l.self
