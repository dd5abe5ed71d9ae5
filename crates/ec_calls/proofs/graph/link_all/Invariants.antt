use Rattle.std.proofs.Common.{◌≡◌, ◌++◌, map, drop}
use Rattle.ec_calls.specs.Graphs.{edges_to}
use Rattle.ec_calls.proofs.graph.link_all.Given as goal

abbrev pub invariant-loop-name : goal.invariant-loop-name
invariant-loop-name l = l.calls.items ++ edges_to l.names l.caller (map (λ t. t.now) (drop l.name-index l.called))
    ≡ l.initial.calls.items ++ edges_to l.names l.caller (map (λ t. t.now) l.called)
