use Rattle.std.proofs.Common.{◌≡◌, ◌++◌, map, drop}
use Rattle.ec_simple.specs.Expressions.{of_variable, variable_at}
use Rattle.ec_simple.specs.Seen.{scope}
use Rattle.ec_simple.proofs.scope.Scope.own_variables.Given as goal

abbrev pub invariant-loop-x : goal.invariant-loop-x
invariant-loop-x l =
    l.all ++ map (λ y. of_variable (variable_at (scope l.self) y)) (drop l.x-index l.own)
    ≡ map (λ y. of_variable (variable_at (scope l.self) y)) l.own
