use Rattle.std.proofs.Common.{drop}
use Rattle.ec_small.specs.Meaning.{all_done}
use Rattle.ec_small.specs.Counting.{Alike, state}
use Rattle.ec_small.proofs.meaning.Progress.run.Given as goal

abbrev pub invariant-loop-stmt : goal.invariant-loop-stmt
invariant-loop-stmt l =
    Alike (all_done (drop l.stmt-index l.stmts) (state l.self)) (all_done l.stmts (state l.fn.self))
