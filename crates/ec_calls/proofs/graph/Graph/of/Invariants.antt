use Rattle.std.proofs.Common.{◌≡◌, ◌++◌, map, drop}
use Rattle.ec_calls.specs.Graphs.{all_edges, own_places}
use Rattle.ec_calls.proofs.graph.Graph.of.Given as goal

abbrev pub invariant-loop-caller : goal.invariant-loop-caller
invariant-loop-caller l = record {
  calls : l.calls.items ++ all_edges l.names l.caller (map (λ f. f.now) (drop l.caller l.functions))
      ≡ all_edges l.names 0 (map (λ f. f.now) l.functions);
  places : l.places.items ++ own_places (map (λ f. f.now) (drop l.caller l.functions))
      ≡ own_places (map (λ f. f.now) l.functions);
}
