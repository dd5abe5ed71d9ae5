use Rattle.std.proofs.Common.{◌≡◌, ◌++◌, map, drop}
use Rattle.ec_types.specs.Meaning.Resolution.{resolved, value}
use Rattle.ec_resolve.specs.Erased.{expression}
use Rattle.ec_resolve.specs.Seen.{scope}
use Rattle.ec_resolve.proofs.scope.Scope.+expression.Given as goal

abbrev pub invariant-values-loop-e : goal.invariant-values-loop-e
invariant-values-loop-e l =
    map expression l.values ++ map value (map (resolved (scope l.self)) (drop l.e-index l.all))
    ≡ map value (map (resolved (scope l.self)) l.all)
