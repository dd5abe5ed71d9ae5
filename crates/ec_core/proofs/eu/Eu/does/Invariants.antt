use Rattle.std.proofs.Common.{◌≡◌, drop}
use Rattle.ec_core.specs.Fiber.{does}
use Rattle.ec_core.proofs.eu.Eu.does.Given as goal

abbrev pub invariant-loop-x : goal.invariant-loop-x
invariant-loop-x l = does l.me l.frame (drop l.x-index l.instrs) l.self ≡ does l.fn.me l.fn.frame l.fn.instrs l.fn.self
