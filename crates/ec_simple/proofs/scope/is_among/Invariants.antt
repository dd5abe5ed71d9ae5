use Rattle.std.proofs.Common.{◌≡◌, drop}
use Rattle.ec_simple.specs.Uses.{member}
use Rattle.ec_simple.proofs.scope.is_among.Given as goal

abbrev pub invariant-loop-y : goal.invariant-loop-y
invariant-loop-y l = member l.x l.all ≡ member l.x (drop l.y-index l.all)
