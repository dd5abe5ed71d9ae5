use Rattle.std.proofs.Common.{◌≡◌, ◌++◌, drop}
use Rattle.ec_core.specs.Fiber.{cells_at}
use Rattle.ec_core.proofs.eu.Eu.cells.Given as goal

abbrev pub invariant-loop-c : goal.invariant-loop-c
invariant-loop-c l = l.values ++ cells_at l.frame (drop l.c-index l.cells) l.self ≡ cells_at l.frame l.cells l.self
