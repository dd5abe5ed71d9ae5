-- A statement where so much room is.
use Rattle.std.proofs.Common.{◌≡◌, refl, sym, ◌∙◌, ap, subst, ℕ, suc, ◌<◌, ◌-◌, Bool, true, false, codes, Result, arith}
use Rattle.ec_base.specs.declared.token.Mark.TheVariants as m
use Rattle.ec_syntax.specs.Grammar.State.{State}
use Rattle.ec_syntax.specs.Grammar.Language.{first_is}
use Rattle.ec_syntax.specs.Grammar.Tokens.{is_mark, is_word}
use Rattle.ec_base.specs.declared.fail.Fail.{Fail}
use Rattle.ec_base.specs.declared.token.Token.{Token}
use Rattle.ec_syntax.specs.declared.quantity.Fault.{Fault}
use Rattle.ec_syntax.specs.declared.statement.Stmt.{Stmt}
use Rattle.ec_syntax.specs.Descent.Reader.{Reader, when}
use Rattle.ec_reader.specs.Answers.{Told}
use Rattle.ec_syntax.specs.Descent.Reader.Outcome.{Stopped}
use Rattle.ec_syntax.specs.Descent.Tokens.{begins_stmt}
use Rattle.ec_syntax.specs.Descent.Statements.{simple, block, bare, stmt}
use Rattle.ec_reader.specs.Inside.{too_deep}
use Rattle.ec_reader.specs.Sentences.{return_or_action}

module _ (s : State) where
  pub stmt_none : (room : ℕ) → room ≡ 0 → stmt room s ≡ Stopped (too_deep (first_is begins_stmt s.left)) s.left
  stmt_none room none = rw none (by_test (first_is begins_stmt s.left) refl)
    where
      by_test : (b : Bool) → first_is begins_stmt s.left ≡ b → stmt 0 s ≡ Stopped (too_deep b) s.left
      by_test true h = rw h refl
      by_test false h = rw h refl

  by_room : (k : ℕ) → stmt (suc k) s ≡ when (is_mark m.OpenBrace) (block k (stmt k)) (bare k (stmt k)) s
  by_room k = refl

  pub stmt_some : (room below : ℕ) → room ≡ suc below → stmt room s ≡ when (is_mark m.OpenBrace) (block below (stmt below)) (bare below (stmt below)) s
  stmt_some room below is = ap (λ k. stmt k s) is ∙ by_room below

  -- behind the other simple statements
  pub simple_longer :
      (room : ℕ) → 0 < room → first_is (is_mark m.Semicolon) s.left ≡ false → first_is (is_word (codes "writeto")) s.left ≡ false →
      first_is (is_word (codes "addto")) s.left ≡ false → first_is (is_word (codes "printf")) s.left ≡ false →
      return_or_action room s ≡ simple (room - 1) s
  simple_longer room some mark writes adds prints =
      let next : room ≡ suc (room - 1) = omega (arith, some) in
      ap (λ k. return_or_action k s) next ∙ sym (rw (mark, writes, adds, prints) refl)

when_true : {A : Type 0} (test : Token → Bool) (p q : Reader A) (s : State) → first_is test s.left ≡ true → when test p q s ≡ p s
when_true test p q s h = rw h refl

when_false : {A : Type 0} (test : Token → Bool) (p q : Reader A) (s : State) → first_is test s.left ≡ false → when test p q s ≡ q s
when_false test p q s h = rw h refl

pub told_block : (s after : State) (room below : ℕ) (result : Result Stmt (Fail Fault)) → room ≡ suc below → first_is (is_mark m.OpenBrace) s.left ≡ true →
    Told (block below (stmt below) s) result after → Told (stmt room s) result after
told_block s after room below result is h told =
    subst (λ o. Told o result after) (sym (stmt_some s room below is ∙ when_true (is_mark m.OpenBrace) (block below (stmt below)) (bare below (stmt below)) s h)) told

pub told_bare : (s after : State) (room below : ℕ) (result : Result Stmt (Fail Fault)) → room ≡ suc below → first_is (is_mark m.OpenBrace) s.left ≡ false →
    Told (bare below (stmt below) s) result after → Told (stmt room s) result after
told_bare s after room below result is h told =
    subst (λ o. Told o result after) (sym (stmt_some s room below is ∙ when_false (is_mark m.OpenBrace) (block below (stmt below)) (bare below (stmt below)) s h)) told
