use Rattle.std.proofs.Common.{◌≡◌, ◌++◌, map, drop}
use Rattle.ec_calls.specs.Effects.{all_of, of_declaration}
use Rattle.ec_calls.specs.Seen.{callees}
use Rattle.ec_calls.proofs.called.Called.declarations.Given as goal

abbrev pub invariant-loop-d : goal.invariant-loop-d
invariant-loop-d l = l.self ++ callees (all_of (map of_declaration (drop l.d-index l.declarations))).effects
    ≡ l.initial.self ++ callees (all_of (map of_declaration l.declarations)).effects
