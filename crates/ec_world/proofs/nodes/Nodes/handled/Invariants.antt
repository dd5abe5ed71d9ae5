use Rattle.std.proofs.Common.{◌≡◌, drop, max}
use Rattle.ec_world.specs.Run.{handled}
use Rattle.ec_world.proofs.nodes.Nodes.handled.Given as goal

abbrev pub invariant-loop-s : goal.invariant-loop-s
invariant-loop-s l = max l.most (handled (drop l.s-index l.self.nodes)) ≡ handled l.fn.self.nodes
