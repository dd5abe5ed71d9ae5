use Rattle.std.proofs.Common.{map, take}
use Rattle.ec_types.specs.Declarations as declarations
use Rattle.ec_types.specs.Judged.{Gives, every}
use Rattle.ec_types.specs.Seen.{context}
use Rattle.ec_types.proofs.judge.Judge.parameters.Given as goal

abbrev pub invariant-loop-d : goal.invariant-loop-d
invariant-loop-d l = Gives l.so_far (every (map (declarations.parameter (context l.self)) (take l.d-index l.all)))
