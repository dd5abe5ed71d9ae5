-- Where a loop stands that reads the count of a `malloc`.
use Rattle.std.specs.Prelude.{◌≡◌, ◌<◌, ℕ, length}
use Rattle.ec_syntax.specs.declared.expression.Expr.{Expr}
use Rattle.ec_syntax.specs.Grammar.State.{State}
use Rattle.ec_syntax.specs.Descent.Reader.{Reader, Outcome}
use Rattle.ec_syntax.specs.Descent.Expressions.{count_by}

-- the count is told what it would be from these factors and this state on, with turns enough
pub record Counting (operand : Reader Expr) (told : Outcome Expr) (a : Expr) (s : State) : Type 0 where
  pub fuel : ℕ
  pub enough : length s.left < fuel
  pub goes : told ≡ count_by fuel operand a s
