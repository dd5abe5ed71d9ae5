use Rattle.std.proofs.Common.{◌≡◌, ◌++◌, ◌-◌, replicate, []}
use Rattle.ec_core.specs.Run.{start, fresh_node}
use Rattle.ec_core.proofs.nodes.Nodes.start.Given as goal

abbrev pub invariant-loop : goal.invariant-loop
invariant-loop l = l.all.items ++ replicate (l.nodes - l.counter) (fresh_node l.nodes [] []) ≡ start l.code l.nodes l.words
