use Rattle.std.proofs.Common.{◌≡◌, ◌++◌, ◌-◌}
use Rattle.ec_world.specs.Run.{start, fresh_nodes}
use Rattle.ec_world.proofs.nodes.Nodes.start.Given as goal

abbrev pub invariant-loop-number : goal.invariant-loop-number
invariant-loop-number l =
    l.all.items ++ fresh_nodes l.nodes l.number (l.nodes - l.number) ≡ (start l.code l.nodes l.words).nodes
