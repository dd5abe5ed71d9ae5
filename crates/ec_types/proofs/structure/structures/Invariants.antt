use Rattle.std.proofs.Common.{map, take}
use Rattle.ec_types.specs.Judged.{Gives, every}
use Rattle.ec_types.specs.Programs as programs
use Rattle.ec_types.proofs.structure.structures.Given as goal

abbrev pub invariant-loop-s : goal.invariant-loop-s
invariant-loop-s l = Gives l.so_far (every (map (programs.structure l.structs) (take l.s-index l.s-items)))
