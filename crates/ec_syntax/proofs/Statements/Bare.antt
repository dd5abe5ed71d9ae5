-- Statements are decided where expressions, assignments and statements one deeper are.
use Rattle.std.proofs.Common.{refl, ℕ, suc, Bool, false, ◌||◌, codes}
use Rattle.ec_base.specs.declared.token.Mark.TheVariants as mk
use Rattle.ec_base.specs.declared.token.Token.{Token}
use Rattle.ec_syntax.specs.declared.expression.Expr.{Expr}
use Rattle.ec_syntax.specs.declared.statement.Assign.{Assign}
use Rattle.ec_syntax.specs.declared.statement.Stmt.{Stmt}
use Rattle.ec_syntax.specs.Grammar.Tokens.{is_mark, is_word}
use Rattle.ec_syntax.specs.Grammar.Language as L
use Rattle.ec_syntax.specs.Grammar.Language.{Language}
use Rattle.ec_syntax.specs.Grammar.Expressions.{unary, expr}
use Rattle.ec_syntax.specs.Grammar.Statements as LS
use Rattle.ec_syntax.specs.Descent.Reader as R
use Rattle.ec_syntax.specs.Descent.Reader.{Reader}
use Rattle.ec_syntax.specs.Descent.Tokens.{begins_expr, begins_stmt}
use Rattle.ec_syntax.specs.Descent.Expressions as RE
use Rattle.ec_syntax.proofs.Decision.Procedures.{Within, Apart}
use Rattle.ec_syntax.proofs.Lookahead.FirstSets.{itself, swapped, none}
use Rattle.ec_syntax.proofs.Decision.Limited.{Told, either}
use Rattle.ec_syntax.proofs.Lookahead.FollowSets.{goes_operand, goes_expr}
use Rattle.ec_syntax.proofs.Nesting.Parts.{Room}
use Rattle.ec_syntax.proofs.Decision.Continuations.{Later, told_later, later_either}
use Rattle.ec_syntax.proofs.Statements.AssignmentsAndCalls.{inner_of}
use Rattle.ec_syntax.proofs.Statements.Simple.{begins_simple, simple_by, simple_words, simple_told}
use Rattle.ec_syntax.proofs.Statements.Blocks.{block_by, parallel_by, block_told, parallel_told}
use Rattle.ec_syntax.proofs.Statements.Loops.{choice_by, loop_by, for_by, forall_by, choice_told, loop_told}
use Rattle.ec_syntax.proofs.Statements.Fors.{for_told, forall_told}
use Rattle.ec_syntax.proofs.Tokens.Classes.{from_mark, from_word}

-- What statements are made of one deeper: expressions, assignments, statements and those that aren't in braces.
pub record Inner (fits inner able : Type 0) (d : ℕ) (el : Language Expr) (al : Language Assign)
    (sl bl : Language Stmt) : Type 1 where
  pub e : Reader Expr
  pub a : Reader Assign
  pub st : Reader Stmt
  pub b : Reader Stmt
  pub first_e : Token → Bool
  pub first_a : Token → Bool
  pub first_s : Token → Bool
  pub first_b : Token → Bool
  pub E : Told {X = Unit {0}} inner able (suc d) (λ x. e) (λ x. el) ⊥ first_e goes_expr
  pub A : Told {X = Unit {0}} inner able (suc d) (λ x. a) (λ x. al) ⊥ first_a goes_expr
  pub S : Told {X = Unit {0}} inner able (suc d) (λ x. st) (λ x. sl) ⊥ first_s none
  pub B : Told {X = Unit {0}} fits able (suc d) (λ x. b) (λ x. bl) ⊥ first_b none
  pub begins_e : Within first_e begins_expr
  pub begins_a : Within first_a begins_expr
  pub begins_s : Within first_s begins_stmt
  pub begins_b : Apart first_b (is_mark mk.OpenBrace)

-- ---- the language in the order in which it is read

abbrev pub body_words : ℕ → Language Expr → Language Stmt → Language Stmt → Language Stmt
body_words d el sl bl = L.◌or◌ (LS.block d el sl) bl

abbrev pub bare_words : ℕ → ℕ → Language Expr → Language Assign → Language Stmt → Language Stmt → Language Stmt
bare_words n d el al sl body =
    L.◌or◌ (L.placed LS.statement (LS.parallel d sl))
    (L.◌or◌ (L.placed LS.statement (LS.choice d el body))
    (L.◌or◌ (L.placed LS.statement (LS.loop d el body))
    (L.◌or◌ (L.placed LS.statement (LS.for_loop d al el body))
    (L.◌or◌ (L.placed LS.statement (LS.forall_loop d al el body)) (simple_words (suc n) d (inner_of n d) el)))))

-- ---- the readers

abbrev pub body_by : ℕ → (Token → Bool) → Reader Expr → Reader Stmt → Reader Stmt → Reader Stmt
body_by room first_s e st b = R.when (is_mark mk.OpenBrace) (block_by room first_s e st) b

abbrev pub bare_by : ℕ → (Token → Bool) → Reader Expr → (Token → Bool) → Reader Assign → (Token → Bool) → Reader Stmt →
    Reader Stmt → Reader Stmt
bare_by room first_e e first_a a first_s st body =
    R.when (is_mark mk.OpenPar) (R.placed LS.statement (parallel_by room first_s st))
    (R.when (is_word (codes "if")) (R.placed LS.statement (choice_by room first_e e body))
    (R.when (is_word (codes "while")) (R.placed LS.statement (loop_by room first_e e body))
    (R.when (is_word (codes "for")) (R.placed LS.statement (for_by room first_e e first_a a body))
    (R.when (is_word (codes "forall")) (R.placed LS.statement (forall_by room e first_a a body))
    (simple_by room first_e e)))))

-- ---- tests

abbrev begins_4 : Token → Bool
begins_4 x = is_word (codes "forall") x || begins_simple x

abbrev begins_3 : Token → Bool
begins_3 x = is_word (codes "for") x || begins_4 x

abbrev begins_2 : Token → Bool
begins_2 x = is_word (codes "while") x || begins_3 x

abbrev begins_1 : Token → Bool
begins_1 x = is_word (codes "if") x || begins_2 x

-- what begins a statement that isn't in braces
abbrev pub begins_bare : Token → Bool
begins_bare x = is_mark mk.OpenPar x || begins_1 x

apart_4 : Apart begins_simple (is_word (codes "forall"))
apart_4 = swapped (is_word (codes "forall")) begins_simple (from_word (codes "forall") begins_simple false (λ at. refl))

apart_3 : Apart begins_4 (is_word (codes "for"))
apart_3 = swapped (is_word (codes "for")) begins_4 (from_word (codes "for") begins_4 false (λ at. refl))

apart_2 : Apart begins_3 (is_word (codes "while"))
apart_2 = swapped (is_word (codes "while")) begins_3 (from_word (codes "while") begins_3 false (λ at. refl))

apart_1 : Apart begins_2 (is_word (codes "if"))
apart_1 = swapped (is_word (codes "if")) begins_2 (from_word (codes "if") begins_2 false (λ at. refl))

apart_0 : Apart begins_1 (is_mark mk.OpenPar)
apart_0 = swapped (is_mark mk.OpenPar) begins_1 (from_mark mk.OpenPar begins_1 false (λ at. refl))

pub bare_brace : Apart begins_bare (is_mark mk.OpenBrace)
bare_brace = swapped (is_mark mk.OpenBrace) begins_bare (from_mark mk.OpenBrace begins_bare false (λ at. refl))

-- ---- statements that aren't in braces, and all

module _ {fits inner able : Type 0} {d room : ℕ} (r : Room fits inner d room) {el : Language Expr}
    {al : Language Assign} {sl bl : Language Stmt} (i : Inner fits inner able d el al sl bl) where
  pub braced_told : Told {X = Unit {0}} fits able d (λ x. block_by room i.first_s i.e i.st)
      (λ x. LS.block d el sl) ⊥ (is_mark mk.OpenBrace) none
  braced_told = block_told r i.e el i.E i.st sl i.S i.begins_s

  body_later : Later {X = Unit {0}} fits able (λ x. body_by room i.first_s i.e i.st i.b)
      (λ x. body_words d el sl bl) ⊥ (λ t. is_mark mk.OpenBrace t || i.first_b t) none
  body_later = later_either (is_mark mk.OpenBrace) (told_later braced_told) (told_later i.B) (itself (is_mark mk.OpenBrace)) i.begins_b (λ e. absurd e)

  module _ (n : ℕ) (U : Told {X = Unit {0}} fits able d (λ x. RE.unary (suc room))
      (λ x. unary (suc n) d) ⊥ begins_expr goes_operand)
      (V : Told {X = Unit {0}} fits able d (λ x. RE.expr (suc room)) (λ x. expr (suc n) d) ⊥ begins_expr goes_expr)
    where
      pub bare_told : Told {X = Unit {0}} fits able d
          (λ x. bare_by room i.first_e i.e i.first_a i.a i.first_s i.st (body_by room i.first_s i.e i.st i.b))
          (λ x. bare_words n d el al sl (body_words d el sl bl)) ⊥ begins_bare none
      bare_told =
          either (is_mark mk.OpenPar) (parallel_told r i.st sl i.S i.begins_s)
          (either (is_word (codes "if")) (choice_told (body_by room i.first_s i.e i.st i.b) (body_words d el sl bl) body_later r i.e el i.E)
          (either (is_word (codes "while")) (loop_told (body_by room i.first_s i.e i.st i.b) (body_words d el sl bl) body_later r i.e el i.E)
          (either (is_word (codes "for")) (for_told r i.e el i.E i.a al i.A i.begins_e i.begins_a (body_by room i.first_s i.e i.st i.b) (body_words d el sl bl) body_later)
          (either (is_word (codes "forall")) (forall_told r i.e el i.E i.a al i.A i.begins_e i.begins_a (body_by room i.first_s i.e i.st i.b) (body_words d el sl bl) body_later)
          (simple_told r i.e el i.E n U V none)
          (itself (is_word (codes "forall"))) apart_4 (λ e. absurd e))
          (itself (is_word (codes "for"))) apart_3 (λ e. absurd e))
          (itself (is_word (codes "while"))) apart_2 (λ e. absurd e))
          (itself (is_word (codes "if"))) apart_1 (λ e. absurd e))
          (itself (is_mark mk.OpenPar)) apart_0 (λ e. absurd e)
