use Rattle.std.proofs.Common.{◌≡◌, ◌≤◌, ◌+◌, true, drop, max}
use Rattle.std.specs.List.{list_all}
use Rattle.ec_base.specs.declared.limits.TheConstants.{MAX_MARKS, MAX_PRINT_ARGUMENTS}
use Rattle.ec_split.specs.Building.{is_small_init}
use Rattle.ec_split.specs.Cut.{widest, init_width}
use Rattle.ec_split.proofs.width.initialisers_width.Given as goal

abbrev pub invariant-loop-init : goal.invariant-loop-init
invariant-loop-init l = record {
  small : list_all is_small_init (drop l.init-index l.inits) ≡ true;
  few : l.most ≤ MAX_MARKS + MAX_PRINT_ARGUMENTS;
  value : max l.most (widest init_width (drop l.init-index l.inits)) ≡ widest init_width l.inits;
}
