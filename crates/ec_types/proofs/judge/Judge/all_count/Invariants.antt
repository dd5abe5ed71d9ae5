use Rattle.std.proofs.Common.{map, take}
use Rattle.ec_types.specs.Judged.{Gives, every}
use Rattle.ec_types.specs.Seen.{context}
use Rattle.ec_types.specs.Statements.{counts}
use Rattle.ec_types.proofs.judge.Judge.all_count.Given as goal

abbrev pub invariant-loop-e : goal.invariant-loop-e
invariant-loop-e l = Gives l.so_far (every (map (counts (context l.self) l.at) (take l.e-index l.all)))
