use Rattle.std.proofs.Common.{◌≡◌, ◌++◌, true, drop}
use Rattle.std.specs.List.{list_all}
use Rattle.ec_small.specs.Sound.{is_sound_init}
use Rattle.ec_split.specs.Cut.{init_instrs}
use Rattle.ec_split.proofs.builder.Builder.initialisers.Given as goal

abbrev pub invariant-loop-init : goal.invariant-loop-init
invariant-loop-init l = record {
  x : l.x ≡ l.init-index;
  base : l.self.base ≡ l.fn.self.base;
  alloc : l.self.alloc ≡ l.fn.self.alloc;
  done : l.self.done ≡ l.fn.self.done;
  sound : list_all (is_sound_init l.self.base) (drop l.init-index l.inits) ≡ true;
  value : l.self.instrs ++ init_instrs l.self.base l.x (drop l.init-index l.inits) ≡ l.fn.self.instrs ++ init_instrs l.self.base 0 l.inits;
}
