use Rattle.std.proofs.Common.{◌≤◌, length, map, drop}
use Rattle.ec_types.specs.Arguments as parameters
use Rattle.ec_types.specs.Expressions as expressions
use Rattle.ec_types.specs.Judged.{Gives}
use Rattle.ec_types.specs.Seen.{context}
use Rattle.ec_types.proofs.judge.Judge.+expression.Given as goal

abbrev pub invariant-arguments-loop-at : goal.invariant-arguments-loop-at
invariant-arguments-loop-at l = record {
  within : l.at ≤ length l.all;
  so_far : Gives l.so_far (parameters.arguments (expressions.placed (context l.self) l.place).lets (drop l.at l.params) (map (expressions.judged (context l.self)) (drop l.at l.all)));
}

abbrev pub decreases-arguments-loop-at : goal.decreases-arguments-loop-at
decreases-arguments-loop-at l = l.at
