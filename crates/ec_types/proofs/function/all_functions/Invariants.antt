use Rattle.std.proofs.Common.{map, take}
use Rattle.ec_types.specs.Judged.{Gives, every}
use Rattle.ec_types.specs.Seen.{function_by}
use Rattle.ec_types.proofs.function.all_functions.Given as goal

abbrev pub invariant-loop-f : goal.invariant-loop-f
invariant-loop-f l = Gives l.so_far (every (map (function_by l.tables) (map (λ f. f.now) (take l.f-index l.f-items))))
