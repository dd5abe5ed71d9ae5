use Rattle.std.proofs.Common.{map, take}
use Rattle.ec_types.specs.Judged.{Gives, every}
use Rattle.ec_types.specs.Seen.{context}
use Rattle.ec_types.specs.Statements.{each_in, statement}
use Rattle.ec_types.proofs.judge.Judge.+statement.Given as goal

abbrev pub invariant-statements-loop-s : goal.invariant-statements-loop-s
invariant-statements-loop-s l = Gives l.so_far (every (each_in (context l.self) (map statement (take l.s-index l.all))))
