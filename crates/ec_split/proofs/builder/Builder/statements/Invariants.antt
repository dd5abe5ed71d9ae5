use Rattle.std.proofs.Common.{◌≡◌, true, drop}
use Rattle.std.specs.List.{list_all}
use Rattle.ec_small.specs.declared.tree.Expr.{Expr}
use Rattle.ec_small.specs.Sound.{is_sound_stmt}
use Rattle.ec_split.specs.Building.{to_come}
use Rattle.ec_split.proofs.builder.Builder.statements.Given as goal

abbrev pub invariant-loop-stmt : goal.invariant-loop-stmt
invariant-loop-stmt l = record {
  base : l.self.base ≡ l.fn.self.base;
  sound : list_all (is_sound_stmt l.self.base) (drop l.stmt-index l.stmts) ≡ true;
  value : (r : Expr) → to_come l.self (drop l.stmt-index l.stmts) r ≡ to_come l.fn.self l.stmts r;
}
