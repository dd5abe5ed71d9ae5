use Rattle.std.proofs.Common.{◌≡◌, ◌++◌, drop}
use Rattle.ec_core.specs.Fiber.{ints_at}
use Rattle.ec_core.proofs.eu.Eu.ints.Given as goal

abbrev pub invariant-loop-c : goal.invariant-loop-c
invariant-loop-c l = l.numbers ++ ints_at l.frame (drop l.c-index l.cells) l.self ≡ ints_at l.frame l.cells l.self
