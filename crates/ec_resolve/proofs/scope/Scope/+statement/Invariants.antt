use Rattle.std.proofs.Common.{◌≡◌, ◌++◌, map, drop}
use Rattle.ec_types.specs.Meaning.Resolution as resolution
use Rattle.ec_resolve.specs.Erased.{statement}
use Rattle.ec_resolve.specs.Seen.{scope}
use Rattle.ec_resolve.proofs.scope.Scope.+statement.Given as goal

abbrev pub invariant-statements-loop-s : goal.invariant-statements-loop-s
invariant-statements-loop-s l =
    map statement l.actions ++ map (resolution.statement (scope l.self)) (drop l.s-index l.all)
    ≡ map (resolution.statement (scope l.self)) l.all
