use Rattle.std.proofs.Common.{◌≡◌, ◌++◌, drop}
use Rattle.ec_resolve.specs.Erased.{expressions}
use Rattle.ec_simple.specs.Used.{used}
use Rattle.ec_simple.specs.Uses as uses
use Rattle.ec_simple.proofs.uses.+reads.Given as goal

abbrev pub invariant-list_reads-loop-e : goal.invariant-list_reads-loop-e
invariant-list_reads-loop-e l =
    used l.found ++ uses.list_reads (expressions (drop l.e-index l.fn.all))
    ≡ used l.fn.found ++ uses.list_reads (expressions l.fn.all)
