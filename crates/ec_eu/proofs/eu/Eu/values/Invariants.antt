use Rattle.std.proofs.Common.{◌≡◌, ◌++◌, drop}
use Rattle.ec_eu.specs.Cells as cells
use Rattle.ec_eu.proofs.eu.Eu.values.Given as goal

abbrev pub invariant-loop-c : goal.invariant-loop-c
invariant-loop-c l =
    l.values ++ cells.values_at l.n (drop l.c-index l.places) l.self ≡ cells.values_at l.n l.places l.self
