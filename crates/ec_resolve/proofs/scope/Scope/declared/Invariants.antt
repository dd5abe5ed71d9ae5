use Rattle.std.proofs.Common.{◌≡◌, ◌++◌, map, drop}
use Rattle.ec_types.specs.Meaning.Resolution as resolution
use Rattle.ec_resolve.specs.Erased.{variable}
use Rattle.ec_resolve.specs.Seen.{scope}
use Rattle.ec_resolve.proofs.scope.Scope.declared.Given as goal

abbrev pub invariant-loop-d : goal.invariant-loop-d
invariant-loop-d l =
    map variable l.declared ++ map (resolution.variable (scope l.self).structs) (map (λ d. d.now) (drop l.d-index l.d-items))
    ≡ map (resolution.variable (scope l.self).structs) (map (λ d. d.now) l.d-items)
