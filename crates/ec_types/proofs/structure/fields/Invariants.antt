use Rattle.std.proofs.Common.{map, take}
use Rattle.ec_types.specs.Judged.{Gives, every}
use Rattle.ec_types.specs.Programs as programs
use Rattle.ec_types.proofs.structure.fields.Given as goal

abbrev pub invariant-loop-f : goal.invariant-loop-f
invariant-loop-f l = Gives l.so_far (every (map (programs.field l.structs) (take l.f-index l.all)))
