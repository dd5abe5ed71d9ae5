use Rattle.std.proofs.Common.{◌≡◌, ◌++◌, map, drop}
use Rattle.ec_simple.specs.Seen.{scope}
use Rattle.ec_simple.proofs.scope.Scope.places.Given as goal

abbrev pub invariant-loop-x : goal.invariant-loop-x
invariant-loop-x l = l.places ++ map (scope l.self).place (drop l.x-index l.all) ≡ map (scope l.self).place l.all
