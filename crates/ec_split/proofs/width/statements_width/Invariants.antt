use Rattle.std.proofs.Common.{◌≡◌, ◌≤◌, ◌+◌, true, drop, max}
use Rattle.std.specs.List.{list_all}
use Rattle.ec_base.specs.declared.limits.TheConstants.{MAX_MARKS, MAX_PRINT_ARGUMENTS}
use Rattle.ec_split.specs.Building.{is_small_stmt}
use Rattle.ec_split.specs.Cut.{widest, stmt_width}
use Rattle.ec_split.proofs.width.statements_width.Given as goal

abbrev pub invariant-loop-stmt : goal.invariant-loop-stmt
invariant-loop-stmt l = record {
  small : list_all is_small_stmt (drop l.stmt-index l.stmts) ≡ true;
  few : l.most ≤ MAX_MARKS + MAX_PRINT_ARGUMENTS;
  value : max l.most (widest stmt_width (drop l.stmt-index l.stmts)) ≡ widest stmt_width l.stmts;
}
