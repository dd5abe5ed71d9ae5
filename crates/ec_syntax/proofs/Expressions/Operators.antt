-- Operands joined by operators are decided, level by level.
use Rattle.std.proofs.Common.{◌≡◌, refl, ◌≤◌, ◌<◌, ℕ, zero, suc, Bool, Some, arith}
use Rattle.ec_base.specs.declared.limits.TheConstants.{MAX_NESTING}
use Rattle.ec_base.specs.declared.token.Mark.{Mark}
use Rattle.ec_base.specs.declared.token.Mark.TheVariants as m
use Rattle.ec_base.specs.declared.token.Token.{Token}
use Rattle.ec_base.specs.declared.token.TokenKind.TheVariants as t
use Rattle.ec_syntax.specs.declared.expression.Expr.{Expr}
use Rattle.ec_syntax.specs.declared.expression.ExprKind.{ExprKind}
use Rattle.ec_syntax.specs.Grammar.Language as L
use Rattle.ec_syntax.specs.Grammar.Language.{Language}
use Rattle.ec_syntax.specs.Descent.Reader as R
use Rattle.ec_syntax.specs.Descent.Reader.{Reader}
use Rattle.ec_syntax.specs.Grammar.Tokens as T
use Rattle.ec_syntax.specs.Grammar.Expressions as LE
use Rattle.ec_syntax.specs.Grammar.Expressions.{of_mark, at_level, joined}
use Rattle.ec_syntax.specs.Descent.Tokens as RT
use Rattle.ec_syntax.specs.Descent.Expressions as RE
use Rattle.ec_syntax.specs.Descent.Expressions.{is_at_level}
use Rattle.ec_syntax.proofs.Lookahead.FirstSets.{none}
use Rattle.ec_syntax.proofs.Lookahead.FollowSets.{goes_operand, goes_expr, goes_level, level_apart, level_goes, level_grows, level_expr, operand_level}
use Rattle.ec_syntax.proofs.Decision.Limited.{Told, followed, made, turning, everywhere, further}
use Rattle.ec_syntax.proofs.Terminals.Tokens.{operator_told}
use Rattle.ec_syntax.proofs.Tokens.Classes.{token_of}
use Rattle.ec_syntax.proofs.Tokens.Samples.{nowhere}

-- an operator of a level, of which there are ten
record Example (level : ℕ) : Type 0 where
  mark : Mark
  make : Expr → Expr → ExprKind
  is : at_level level mark ≡ Some make

example : (level : ℕ) → level < 10 → Example level
example zero h = record { mark = m.Star; make = _; is = refl }
example (suc zero) h = record { mark = m.Plus; make = _; is = refl }
example (suc (suc zero)) h = record { mark = m.ShiftLeft; make = _; is = refl }
example (suc (suc (suc zero))) h = record { mark = m.Less; make = _; is = refl }
example (suc (suc (suc (suc zero)))) h = record { mark = m.Equal; make = _; is = refl }
example (suc (suc (suc (suc (suc zero))))) h = record { mark = m.And; make = _; is = refl }
example (suc (suc (suc (suc (suc (suc zero)))))) h = record { mark = m.Caret; make = _; is = refl }
example (suc (suc (suc (suc (suc (suc (suc zero))))))) h = record { mark = m.Or; make = _; is = refl }
example (suc (suc (suc (suc (suc (suc (suc (suc zero)))))))) h = record { mark = m.AndAnd; make = _; is = refl }
example (suc (suc (suc (suc (suc (suc (suc (suc (suc zero))))))))) h = record { mark = m.OrOr; make = _; is = refl }
example (suc (suc (suc (suc (suc (suc (suc (suc (suc (suc n)))))))))) h = absurd (omega arith)

module _ (fits able : Type 0) (d : ℕ) (small : fits → d ≤ MAX_NESTING) (first : Token → Bool) (p : Reader Expr)
    (l : Language Expr) where
  -- an operator of this level
  level_operator_told : (Y : Type 0) (level : ℕ) → level < 10 →
      Told {X = Y} fits able d (λ y. RT.operator (of_mark (at_level level)))
      (λ y. T.operator d (of_mark (at_level level))) ⊥ (is_at_level level) none
  level_operator_told Y level h = let e = example level h in
      operator_told Y fits able d small none (of_mark (at_level level)) (is_at_level level) (token_of (t.Mark e.mark) nowhere) e.make e.is refl refl (λ x. refl)

  -- a turn of this level
  turn_told : (level : ℕ) → level < 10 → Told {X = Unit {0}} fits able d (λ y. RE.levels level p)
      (λ y. LE.levels d level l) ⊥ first (goes_level level) →
      Told {X = Unit {0} × Expr} fits able d (λ ya. RE.operation level (RE.levels level p) ya.1)
      (λ ya. L.◌>>=◌ (T.operator d (of_mark (at_level level))) (λ make. L.◌>>=◌ (LE.levels d level l) (λ b. L.give (joined make ya.1 b)))) ⊥ (is_at_level level) (goes_level level)
  turn_told level h operand =
      followed (λ ya make. R.◌>>=◌ (RE.levels level p) (λ b. R.give (joined make ya.1 b))) (level_operator_told (Unit {0} × Expr) level h)
      (made (λ (yam : (Unit {0} × Expr) × (Expr → Expr → ExprKind)) b. joined yam.1 yam.0.1 b) (everywhere _ operand)) (λ x e. refl) (λ e. absurd e) (λ e. e)

  pub levels_told : (level : ℕ) → level ≤ 10 → Told {X = Unit {0}} fits able d (λ y. p) (λ y. l) ⊥ first goes_operand →
      Told {X = Unit {0}} fits able d (λ y. RE.levels level p) (λ y. LE.levels d level l) ⊥ first (goes_level level)
  levels_told zero h operand = further (operand_level 0) operand
  levels_told (suc level) h operand =
      let lower = levels_told level (omega arith) operand in
      followed (λ y. R.turns (is_at_level level) (RE.operation level (RE.levels level p))) lower
      (turning (λ (y : Unit {0}) a. RE.operation level (RE.levels level p) a) (λ y a. L.◌>>=◌ (T.operator d (of_mark (at_level level))) (λ make. L.◌>>=◌ (LE.levels d level l) (λ b. L.give (joined make a b))))
      (turn_told level (omega arith) lower) (level_apart level) (level_grows level) (level_goes level))
      (level_apart level) (λ e. level_grows level) (λ e. e)

  pub expr_of_told : Told {X = Unit {0}} fits able d (λ y. p) (λ y. l) ⊥ first goes_operand →
      Told {X = Unit {0}} fits able d (λ y. RE.expr_of p) (λ y. LE.expr_of d l) ⊥ first goes_expr
  expr_of_told operand = further (level_expr 10) (levels_told 10 (omega arith) operand)
