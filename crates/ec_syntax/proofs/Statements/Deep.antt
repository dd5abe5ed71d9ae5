-- Statements in the order in which they are read, given what they are made of one deeper.
use Rattle.std.proofs.Common.{refl, inl, inr, ℕ, suc, Bool, true, ◌||◌, codes}
use Rattle.ec_base.specs.declared.token.Mark.TheVariants as mk
use Rattle.ec_base.specs.declared.token.Token.{Token}
use Rattle.ec_syntax.specs.declared.expression.Expr.{Expr}
use Rattle.ec_syntax.specs.declared.statement.Assign.{Assign}
use Rattle.ec_syntax.specs.declared.statement.Stmt.{Stmt}
use Rattle.ec_syntax.specs.Grammar.Tokens.{is_mark, is_word}
use Rattle.ec_syntax.specs.Grammar.Language as L
use Rattle.ec_syntax.specs.Grammar.Language.{Language}
use Rattle.ec_syntax.specs.Grammar.Expressions.{unary, expr}
use Rattle.ec_syntax.specs.Grammar.Statements as LS
use Rattle.ec_syntax.specs.Grammar.Statements.{assignment, formed, Bare}
use Rattle.ec_syntax.specs.Descent.Reader as R
use Rattle.ec_syntax.specs.Descent.Tokens.{begins_expr, begins_stmt}
use Rattle.ec_syntax.specs.Descent.Expressions as RE
use Rattle.ec_syntax.proofs.Decision.Procedures.{Within}
use Rattle.ec_syntax.proofs.Lookahead.FirstTokens.{Into}
use Rattle.ec_syntax.proofs.Lookahead.FirstSets.{itself, expr_begins_stmt, split, none, none_within}
use Rattle.ec_syntax.proofs.Decision.Limited.{Told, either, renamed}
use Rattle.ec_syntax.proofs.Lookahead.FollowSets.{goes_operand, goes_expr}
use Rattle.ec_syntax.proofs.Nesting.Parts.{Room}
use Rattle.ec_syntax.proofs.Statements.Simple.{simple_to, simple_from}
use Rattle.ec_syntax.proofs.Statements.Bare.{Inner, body_words, bare_words, begins_bare, bare_brace, bare_told, braced_told, bare_by, body_by}
use Rattle.ec_syntax.proofs.Statements.Blocks.{block_by}
use Rattle.ec_syntax.proofs.Statements.Inclusion.{block_into, body_into, bare_into}
use Rattle.ec_syntax.proofs.Tokens.Classes.{from_mark, from_word}
use Rattle.std.proofs.lemmas.Bool.{or_right}

-- ---- the language, with what is one deeper

-- what a statement's body may be
abbrev pub body_of : ℕ → ℕ → Language Stmt
body_of n d = body_words d (expr n (suc d)) (LS.stmt n (suc d)) (formed n Bare (suc d))

abbrev pub bare_of : ℕ → ℕ → Language Stmt
bare_of n d = bare_words n d (expr n (suc d)) (assignment n (suc d)) (LS.stmt n (suc d)) (body_of n d)

pub to_formed : (n d : ℕ) → Into (bare_of n d) (formed (suc n) Bare d)
to_formed n d asked s a m (inl h) = inr (inl h)
to_formed n d asked s a m (inr (inl h)) = inr (inr (inl h))
to_formed n d asked s a m (inr (inr (inl h))) = inr (inr (inr (inl h)))
to_formed n d asked s a m (inr (inr (inr (inl h)))) = inr (inr (inr (inr (inl h))))
to_formed n d asked s a m (inr (inr (inr (inr (inl h))))) = inr (inr (inr (inr (inr h))))
to_formed n d asked s a m (inr (inr (inr (inr (inr h))))) = inl (simple_to (suc n) d (expr n (suc d)) asked s a m h)

pub from_formed : (n d : ℕ) → Into (formed (suc n) Bare d) (bare_of n d)
from_formed n d asked s a m (inr (inl h)) = inl h
from_formed n d asked s a m (inr (inr (inl h))) = inr (inl h)
from_formed n d asked s a m (inr (inr (inr (inl h)))) = inr (inr (inl h))
from_formed n d asked s a m (inr (inr (inr (inr (inl h))))) = inr (inr (inr (inl h)))
from_formed n d asked s a m (inr (inr (inr (inr (inr h))))) = inr (inr (inr (inr (inl h))))
from_formed n d asked s a m (inl h) = inr (inr (inr (inr (inr (simple_from (suc n) d (expr n (suc d)) asked s a m h)))))

-- ---- tests

abbrev braced_or_bare : Token → Bool
braced_or_bare t = is_mark mk.OpenBrace t || begins_bare t

expr_bare : Within begins_expr braced_or_bare
expr_bare x e = or_right (is_mark mk.OpenBrace x) _ (or_right (is_mark mk.OpenPar x) _ (or_right (is_word (codes "if") x) _
    (or_right (is_word (codes "while") x) _ (or_right (is_word (codes "for") x) _ (or_right (is_word (codes "forall") x) _
    (or_right (none x || is_mark mk.Semicolon x) _ (or_right (is_word (codes "writeto") x) _ (or_right (is_word (codes "addto") x) _
    (or_right (is_word (codes "printf") x) _ (or_right (is_word (codes "return") x) _ e))))))))))

pub stmt_to : Within begins_stmt braced_or_bare
stmt_to x = split _ _ (split _ _ (split _ _ (split _ _ (split _ _ (split _ _ (split _ _ (split _ _ (split _ _ (split _ _ (split _ _ (expr_bare x)
    (from_mark mk.Semicolon braced_or_bare true (λ at. refl) x))
    (from_mark mk.OpenBrace braced_or_bare true (λ at. refl) x))
    (from_mark mk.OpenPar braced_or_bare true (λ at. refl) x))
    (from_word (codes "if") braced_or_bare true (λ at. refl) x))
    (from_word (codes "while") braced_or_bare true (λ at. refl) x))
    (from_word (codes "for") braced_or_bare true (λ at. refl) x))
    (from_word (codes "forall") braced_or_bare true (λ at. refl) x))
    (from_word (codes "writeto") braced_or_bare true (λ at. refl) x))
    (from_word (codes "addto") braced_or_bare true (λ at. refl) x))
    (from_word (codes "printf") braced_or_bare true (λ at. refl) x))
    (from_word (codes "return") braced_or_bare true (λ at. refl) x)

pub stmt_from : Within braced_or_bare begins_stmt
stmt_from x = split _ _ (from_mark mk.OpenBrace begins_stmt true (λ at. refl) x)
    (split _ _ (from_mark mk.OpenPar begins_stmt true (λ at. refl) x)
    (split _ _ (from_word (codes "if") begins_stmt true (λ at. refl) x)
    (split _ _ (from_word (codes "while") begins_stmt true (λ at. refl) x)
    (split _ _ (from_word (codes "for") begins_stmt true (λ at. refl) x)
    (split _ _ (from_word (codes "forall") begins_stmt true (λ at. refl) x)
    (split _ _ (split _ _ (none_within begins_stmt x) (from_mark mk.Semicolon begins_stmt true (λ at. refl) x))
    (split _ _ (from_word (codes "writeto") begins_stmt true (λ at. refl) x) (split _ _ (from_word (codes "addto") begins_stmt true (λ at. refl) x) (split _ _ (from_word (codes "printf") begins_stmt true (λ at. refl) x) (split _ _ (from_word (codes "return") begins_stmt true (λ at. refl) x) (expr_begins_stmt x)))))))))))

-- ---- all statements, given what they are made of one deeper

abbrev pub words : ℕ → ℕ → Language Expr → Language Assign → Language Stmt → Language Stmt → Language Stmt
words n d el al sl bl = L.◌or◌ (LS.block d el sl) (bare_words n d el al sl (body_words d el sl bl))

module _ {fits inner able : Type 0} {d room : ℕ} (r : Room fits inner d room) {el : Language Expr}
    {al : Language Assign} {sl bl : Language Stmt} (i : Inner fits inner able d el al sl bl)
    (n : ℕ) (U : Told {X = Unit {0}} fits able d (λ x. RE.unary (suc room)) (λ x. unary (suc n) d) ⊥ begins_expr goes_operand) (V : Told {X = Unit {0}} fits able d (λ x. RE.expr (suc room)) (λ x. expr (suc n) d) ⊥ begins_expr goes_expr) where
  pub stmt_told : Told {X = Unit {0}} fits able d
      (λ x. R.when (is_mark mk.OpenBrace) (block_by room i.first_s i.e i.st)
      (bare_by room i.first_e i.e i.first_a i.a i.first_s i.st (body_by room i.first_s i.e i.st i.b)))
      (λ x. words n d el al sl bl) ⊥ begins_stmt none
  stmt_told = renamed stmt_from stmt_to (either (is_mark mk.OpenBrace) (braced_told r i) (bare_told r i n U V) (itself (is_mark mk.OpenBrace)) bare_brace (λ e. absurd e))

-- into the grammar's statements
pub to_stmt : (n d : ℕ) → Into (words n d (expr n (suc d)) (assignment n (suc d)) (LS.stmt n (suc d))
    (formed n Bare (suc d))) (LS.stmt (suc n) d)
to_stmt n d asked s a m (inl h) = inl h
to_stmt n d asked s a m (inr h) = inr (to_formed n d asked s a m h)

pub from_stmt : (n d : ℕ) → Into (LS.stmt (suc n) d)
    (words n d (expr n (suc d)) (assignment n (suc d)) (LS.stmt n (suc d)) (formed n Bare (suc d)))
from_stmt n d asked s a m (inl h) = inl h
from_stmt n d asked s a m (inr h) = inr (from_formed n d asked s a m h)

pub words_into : (n d : ℕ) (el el' : Language Expr) (al al' : Language Assign) (sl sl' bl bl' : Language Stmt) →
    Into el el' → Into al al' → Into sl sl' → Into bl bl' → Into (words n d el al sl bl) (words n d el' al' sl' bl')
words_into n d el el' al al' sl sl' bl bl' i j k o asked s a m (inl h) = inl (block_into d el el' sl sl' i k asked s a m h)
words_into n d el el' al al' sl sl' bl bl' i j k o asked s a m (inr h) =
    inr (bare_into n d el el' al al' sl sl' (body_words d el sl bl) (body_words d el' sl' bl') i j k (body_into d el el' sl sl' bl bl' i k o) asked s a m h)
