use Rattle.std.proofs.Common.{◌≡◌, ◌++◌, drop}
use Rattle.ec_simple.specs.Used.{used}
use Rattle.ec_simple.specs.Uses.{outside}
use Rattle.ec_simple.proofs.around.outside.Given as goal

abbrev pub invariant-loop-u : goal.invariant-loop-u
invariant-loop-u l = used l.kept ++ outside l.own (used (drop l.u-index l.all)) ≡ outside l.own (used l.all)
