use Rattle.std.proofs.Common.{◌≡◌, ◌++◌, drop}
use Rattle.ec_simple.proofs.numbered.narrow_all.Given as goal

abbrev pub invariant-loop-n : goal.invariant-loop-n
invariant-loop-n l = l.numbers ++ drop l.n-index l.fn.all ≡ l.fn.all
