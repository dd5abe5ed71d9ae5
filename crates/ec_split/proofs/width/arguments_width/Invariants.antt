use Rattle.std.proofs.Common.{◌≡◌, ◌≤◌, ◌+◌, true, drop, max}
use Rattle.std.specs.List.{list_all}
use Rattle.ec_base.specs.declared.limits.TheConstants.{MAX_MARKS}
use Rattle.ec_split.specs.Building.{is_small}
use Rattle.ec_split.specs.Cut.{args_width}
use Rattle.ec_split.proofs.width.arguments_width.Given as goal

abbrev pub invariant-loop-e : goal.invariant-loop-e
invariant-loop-e l = record {
  before : l.before ≡ l.e-index;
  small : list_all is_small (drop l.e-index l.es) ≡ true;
  few : l.most ≤ MAX_MARKS + l.before;
  value : max l.most (args_width (drop l.e-index l.es) + l.before) ≡ args_width l.es;
}
