use Rattle.std.proofs.Common.{◌≡◌, ◌++◌, drop}
use Rattle.ec_resolve.proofs.variables.Variables.declarations.Given as goal

abbrev pub invariant-loop-d : goal.invariant-loop-d
invariant-loop-d l = l.self ++ drop l.d-index l.fn.all ≡ l.fn.self ++ l.fn.all
