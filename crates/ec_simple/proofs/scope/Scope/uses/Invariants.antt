use Rattle.std.proofs.Common.{◌≡◌, ◌++◌, drop}
use Rattle.ec_simple.specs.Seen.{scope}
use Rattle.ec_simple.specs.Statements.{uses}
use Rattle.ec_simple.specs.Used.{used}
use Rattle.ec_simple.proofs.scope.Scope.uses.Given as goal

abbrev pub invariant-loop-u : goal.invariant-loop-u
invariant-loop-u l =
    l.kept ++ uses (scope l.self) (used (drop l.u-index l.all)) ≡ uses (scope l.self) (used l.all)
