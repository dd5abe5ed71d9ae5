use Rattle.std.proofs.Common.{rules}
use Rattle.ec_simple.proofs.puts.Surroundings.{among_more, apart_more}
use Rattle.ec_simple.proofs.around.below.Goals as goal
use Rattle.ec_simple.proofs.around.below.Goals.{then-branch+in_ok-push, else-branch}

pub loop-n-preserved : goal.loop-n-preserved
loop-n-preserved c = elim c.if-branch.branch [
  | then-branch+in_ok-push w ↦ search (rules, among_more c.args.among.now c.loop-n.n)
  | else-branch w ↦ search (rules, apart_more c.args.among.now c.loop-n.n)
]
