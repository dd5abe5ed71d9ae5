use Rattle.std.proofs.Common.{◌≡◌, ◌++◌, map, drop}
use Rattle.ec_simple.specs.Used.{used}
use Rattle.ec_simple.proofs.around.variables.Given as goal

abbrev pub invariant-loop-u : goal.invariant-loop-u
invariant-loop-u l =
    l.variables ++ map (λ u. u.var) (used (drop l.u-index l.all)) ≡ map (λ u. u.var) (used l.all)
