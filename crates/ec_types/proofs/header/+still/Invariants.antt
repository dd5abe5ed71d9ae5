use Rattle.std.proofs.Common.{map, take}
use Rattle.ec_calls.specs.Effects.{effects, joined}
use Rattle.ec_types.specs.Headers.{no_effects}
use Rattle.ec_types.specs.Judged.{Gives}
use Rattle.ec_types.proofs.header.+still.Given as goal

abbrev pub invariant-are_still-loop-e : goal.invariant-are_still-loop-e
invariant-are_still-loop-e l = Gives l.so_far (no_effects (joined (map effects (take l.e-index l.all))))
