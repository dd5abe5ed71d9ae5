use Rattle.std.proofs.Common.{◌≡◌, ◌++◌, map, drop}
use Rattle.ec_types.specs.Meaning.Resolution.{variable_number}
use Rattle.ec_resolve.specs.Seen.{scope}
use Rattle.ec_resolve.proofs.scope.Scope.numbers.Given as goal

abbrev pub invariant-loop-d : goal.invariant-loop-d
invariant-loop-d l =
    l.numbers ++ map (λ d. variable_number (scope l.self) d.name.text) (drop l.d-index l.all)
    ≡ map (λ d. variable_number (scope l.self) d.name.text) l.all
