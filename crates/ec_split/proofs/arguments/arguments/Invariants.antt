use Rattle.std.proofs.Common.{◌≡◌, ◌+◌, ◌++◌, true, drop}
use Rattle.std.specs.List.{list_all}
use Rattle.ec_small.specs.Sound.{is_sound}
use Rattle.ec_split.specs.Cut.{args_instrs}
use Rattle.ec_split.proofs.arguments.arguments.Given as goal

abbrev pub invariant-loop-e : goal.invariant-loop-e
invariant-loop-e l = record {
  cell : l.cell ≡ l.base + l.e-index;
  sound : list_all (is_sound l.base) (drop l.e-index l.es) ≡ true;
  value : l.out ++ args_instrs l.cell (drop l.e-index l.es) ≡ l.initial.out ++ args_instrs l.base l.es;
}
