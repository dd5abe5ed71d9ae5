use Rattle.std.proofs.Common.{◌≡◌, ◌++◌, map, drop}
use Rattle.ec_types.specs.Meaning.Resolution as resolution
use Rattle.ec_resolve.specs.Erased.{declaration}
use Rattle.ec_resolve.specs.Seen.{scope}
use Rattle.ec_resolve.proofs.scope.Scope.declarations.Given as goal

abbrev pub invariant-loop-d : goal.invariant-loop-d
invariant-loop-d l =
    map declaration l.declarations ++ map (resolution.declaration (scope l.self)) (drop l.d-index l.all)
    ≡ map (resolution.declaration (scope l.self)) l.all
