use Rattle.std.proofs.Common.{◌≡◌, drop}
use Rattle.ec_resolve.specs.Erased as erased
use Rattle.ec_types.specs.Meaning.Branches as branches
use Rattle.ec_resolve.proofs.plain.are_plain.Given as goal

abbrev pub invariant-loop-e : goal.invariant-loop-e
invariant-loop-e l =
    branches.are_plain (erased.expressions l.fn.es) ≡ branches.are_plain (erased.expressions (drop l.e-index l.fn.es))
