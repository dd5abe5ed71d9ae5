use Rattle.std.proofs.Common.{◌≡◌, ◌++◌, map, drop}
use Rattle.ec_calls.specs.Effects.{joined}
use Rattle.ec_resolve.specs.Declares.{declared_by}
use Rattle.ec_resolve.proofs.variables.Variables.+statement.Given as goal

abbrev pub invariant-statements-loop-s : goal.invariant-statements-loop-s
invariant-statements-loop-s l = l.self ++ joined (map declared_by (drop l.s-index l.fn.all)) ≡ l.fn.self ++ joined (map declared_by l.fn.all)
