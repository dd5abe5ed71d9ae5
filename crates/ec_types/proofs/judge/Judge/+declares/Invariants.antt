use Rattle.std.proofs.Common.{length}
use Rattle.ec_types.proofs.judge.Judge.+declares.Given as goal

abbrev pub decreases-declares : goal.decreases-declares
decreases-declares l = length l.decls.now
