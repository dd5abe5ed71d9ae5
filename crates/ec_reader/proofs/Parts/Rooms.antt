-- What stands one deeper.
use Rattle.std.proofs.Common.{◌≡◌, refl, sym, ◌∙◌, ap, subst, List, [], ◌∷◌, length, ℕ, zero, suc, ◌<◌, Bool, true, false, arith}
use Rattle.std.specs.Prelude.{Result}
use Rattle.ec_base.specs.declared.fail.Fail.{Fail}
use Rattle.ec_reader.specs.Answers.{Told}
use Rattle.ec_reader.specs.Going.{Going}
use Rattle.ec_base.specs.declared.token.Mark.TheVariants as m
use Rattle.ec_base.specs.declared.token.Token.{Token}
use Rattle.ec_syntax.specs.declared.expression.Expr.{Expr}
use Rattle.ec_syntax.specs.declared.quantity.Fault.{Fault}
use Rattle.ec_syntax.specs.Grammar.State.{State}
use Rattle.ec_syntax.specs.Grammar.Language.{first_is}
use Rattle.ec_syntax.specs.Grammar.Tokens.{is_mark}
use Rattle.ec_syntax.specs.Grammar.Expressions.{expression}
use Rattle.ec_syntax.specs.Descent.Reader.{Reader, Outcome, and_then, ◌>>=◌, when, inside, placed, turns}
use Rattle.ec_syntax.specs.Descent.Reader.Outcome.{Done, Stopped}
use Rattle.ec_syntax.specs.Descent.Tokens.{is_prefix, begins_expr}
use Rattle.ec_syntax.specs.Descent.Expressions.{unary, postfix, address, levels, operation, is_at_level, arguments}
use Rattle.ec_reader.specs.Inside.{too_deep, prefixed, another_argument}

module _ {A : Type 0} (room : ℕ) (test : Token → Bool) (p : Reader A) (s : State) where
  pub inside_some : 0 < room → inside room test p s ≡ p s
  inside_some more = by_room room more
    where
      by_room : (k : ℕ) → 0 < k → inside k test p s ≡ p s
      by_room zero h = absurd (omega arith)
      by_room (suc k) h = refl

  pub inside_none : (fault : Fault) → room ≡ 0 → fault ≡ too_deep (first_is test s.left) → inside room test p s ≡ Stopped fault s.left
  inside_none fault none is = rw (none, is) (by_test (first_is test s.left) refl)
    where
      by_test : (b : Bool) → first_is test s.left ≡ b → inside 0 test p s ≡ Stopped (too_deep b) s.left
      by_test true h = rw h refl
      by_test false h = rw h refl

module _ (s : State) where
  pub unary_none : (room : ℕ) → room ≡ 0 → unary room s ≡ Stopped (too_deep (first_is begins_expr s.left)) s.left
  unary_none room none = rw none (by_test (first_is begins_expr s.left) refl)
    where
      by_test : (b : Bool) → first_is begins_expr s.left ≡ b → unary 0 s ≡ Stopped (too_deep b) s.left
      by_test true h = rw h refl
      by_test false h = rw h refl

  by_room : (k : ℕ) → unary (suc k) s ≡ when is_prefix (prefixed k) (when (is_mark m.And) (placed expression (address k)) (postfix k (unary k))) s
  by_room k = refl

  module _ (room below : ℕ) (is : room ≡ suc below) where
    unary_some : unary room s ≡ when is_prefix (prefixed below) (when (is_mark m.And) (placed expression (address below)) (postfix below (unary below))) s
    unary_some = ap (λ k. unary k s) is ∙ by_room below

    pub unary_prefixed : first_is is_prefix s.left ≡ true → unary room s ≡ prefixed below s
    unary_prefixed h = unary_some ∙ rw h refl

    pub unary_address : first_is is_prefix s.left ≡ false → first_is (is_mark m.And) s.left ≡ true → unary room s ≡ placed expression (address below) s
    unary_address h k = unary_some ∙ rw (h, k) refl

    pub unary_postfix : first_is is_prefix s.left ≡ false → first_is (is_mark m.And) s.left ≡ false → unary room s ≡ postfix below (unary below) s
    unary_postfix h k = unary_some ∙ rw (h, k) refl

module _ (operand : Reader Expr) (s : State) where
  pub levels_none : (level : ℕ) → level ≡ 0 → levels level operand s ≡ operand s
  levels_none level none = ap (λ k. levels k operand s) none

  pub levels_some : (level below : ℕ) → level ≡ suc below → levels level operand s ≡ (levels below operand >>= turns (is_at_level below) (operation below (levels below operand))) s
  levels_some level below is = ap (λ k. levels k operand s) is

  pub levels_first : (level below : ℕ) (a : Expr) (n : State) → level ≡ suc below → levels below operand s ≡ Done a n → Going (is_at_level below) (operation below (levels below operand)) (levels level operand s) a n
  levels_first level below a n is read = record {
    fuel = length n.left;
    enough = omega arith;
    goes = levels_some level below is ∙ ap (λ o. and_then o (turns (is_at_level below) (operation below (levels below operand)))) read;
  }

-- the first argument is read
pub arguments_first : (operand : Reader Expr) (s : State) (all : List Expr) (e : Expr) (n : State) → first_is begins_expr s.left ≡ true → operand s ≡ Done e n → all ≡ e ∷ [] → Going (is_mark m.Comma) (another_argument operand) (arguments operand s) all n
arguments_first operand s all e n begins read is = record {
  fuel = length n.left;
  enough = omega arith;
  goes = rw (begins, read, is) refl;
}

-- the same answer of the same outcome
pub told_as : {A : Type 0} {o told : Outcome A} (r : Result A (Fail Fault)) (n : State) → o ≡ told → Told told r n → Told o r n
told_as r n is h = subst (λ x. Told x r n) (sym is) h
