use Rattle.std.proofs.Common.{◌≡◌, ◌++◌, drop}
use Rattle.ec_eu.specs.Cells as cells
use Rattle.ec_eu.proofs.eu.Eu.ints.Given as goal

abbrev pub invariant-loop-c : goal.invariant-loop-c
invariant-loop-c l =
    l.numbers ++ cells.ints_at l.n (drop l.c-index l.places) l.self ≡ cells.ints_at l.n l.places l.self
