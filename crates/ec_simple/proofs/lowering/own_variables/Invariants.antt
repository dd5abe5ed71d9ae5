use Rattle.std.proofs.Common.{◌≡◌, ◌++◌, map, drop}
use Rattle.ec_resolve.specs.Erased.{variable}
use Rattle.ec_simple.specs.Expressions.{of_variable}
use Rattle.ec_simple.proofs.lowering.own_variables.Given as goal

abbrev pub invariant-loop-v : goal.invariant-loop-v
invariant-loop-v l =
    l.vars ++ map of_variable (map variable (drop l.v-index l.v-items)) ≡ map of_variable (map variable l.v-items)
