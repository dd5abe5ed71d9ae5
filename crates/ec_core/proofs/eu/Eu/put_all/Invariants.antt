use Rattle.std.proofs.Common.{◌≡◌, drop}
use Rattle.ec_core.specs.Fiber.{put_all}
use Rattle.ec_core.proofs.eu.Eu.put_all.Given as goal

abbrev pub invariant-loop-at : goal.invariant-loop-at
invariant-loop-at l = put_all l.frame (drop l.at l.cells) (drop l.at l.values) l.self ≡ put_all l.fn.frame l.fn.cells l.fn.values l.fn.self
