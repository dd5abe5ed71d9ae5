-- What stands behind an operand, and what stands in parentheses, is decided.
use Rattle.std.proofs.Common.{◌≡◌, refl, ◌≤◌, ◌+◌, ℕ, suc, Bool, true, false, ◌||◌, List, codes, Some}
use Rattle.ec_base.specs.declared.limits.TheConstants.{MAX_NESTING}
use Rattle.ec_base.specs.declared.token.Mark.{Mark}
use Rattle.ec_base.specs.declared.token.Mark.TheVariants as m
use Rattle.ec_base.specs.declared.token.Token.{Token}
use Rattle.ec_syntax.specs.declared.expression.Expr.{Expr}
use Rattle.ec_syntax.specs.declared.expression.ExprKind.{ExprKind}
use Rattle.ec_syntax.specs.declared.expression.ExprKind.TheVariants.{Paren, Index, Arrow, Dot}
use Rattle.ec_syntax.specs.declared.name.Ty.{Ty}
use Rattle.ec_syntax.specs.Grammar.Language as L
use Rattle.ec_syntax.specs.Grammar.Language.{Language, span}
use Rattle.ec_syntax.specs.Descent.Reader as R
use Rattle.ec_syntax.specs.Descent.Reader.{Reader}
use Rattle.ec_syntax.specs.Grammar.Tokens as T
use Rattle.ec_syntax.specs.Grammar.Tokens.{is_mark, is_word}
use Rattle.ec_syntax.specs.Grammar.Types as types
use Rattle.ec_syntax.specs.Grammar.Expressions as LE
use Rattle.ec_syntax.specs.Grammar.Expressions.{expression}
use Rattle.ec_syntax.specs.Descent.Tokens as RT
use Rattle.ec_syntax.specs.Descent.Tokens.{begins_expr, begins_base}
use Rattle.ec_syntax.specs.Descent.Expressions as RE
use Rattle.ec_syntax.specs.Descent.Expressions.{is_selector}
use Rattle.ec_syntax.proofs.Decision.Procedures.{Within, Apart}
use Rattle.ec_syntax.proofs.Lookahead.FirstSets.{itself, split, swapped, none, none_apart, none_within}
use Rattle.ec_syntax.proofs.Decision.Limited.{Told, followed, made, either, turning, everywhere, renamed}
use Rattle.ec_syntax.proofs.Terminals.Tokens.{sign_told, name_told}
use Rattle.ec_syntax.proofs.Terminals.Types.{pointer_with_told, goes_stars}
use Rattle.ec_syntax.proofs.Nesting.Brackets.{opened_told, closed_told, enclosed_told}
use Rattle.ec_syntax.proofs.Lookahead.FollowSets.{goes_operand, goes_expr}
use Rattle.ec_syntax.proofs.Expressions.Operators.{expr_of_told}
use Rattle.ec_syntax.proofs.Expressions.Names.{ended_told}
use Rattle.ec_syntax.proofs.Expressions.Malloc.{read_malloc, malloc_told}
use Rattle.ec_syntax.proofs.Tokens.Classes.{from_mark, from_word}
use Rattle.std.proofs.lemmas.Bool.{or_left, or_right}

-- ---- selections

selected_to : Within (λ t. is_mark m.OpenBracket t || (is_mark m.Arrow t || is_mark m.Dot t)) is_selector
selected_to x e = split _ _ (from_mark m.OpenBracket is_selector true (λ at. refl) x) (split _ _ (from_mark m.Arrow is_selector true (λ at. refl) x) (from_mark m.Dot is_selector true (λ at. refl) x)) e

abbrev selects : Token → Bool
selects t = is_mark m.OpenBracket t || (is_mark m.Arrow t || is_mark m.Dot t)

selected_from : Within is_selector selects
selected_from x e = split _ _ (split _ _ (from_mark m.OpenBracket selects true (λ at. refl) x) (from_mark m.Arrow selects true (λ at. refl) x)) (from_mark m.Dot selects true (λ at. refl) x) e

pub selector_operand : Within is_selector goes_operand
selector_operand x e = split _ _ (split _ _ (from_mark m.OpenBracket goes_operand true (λ at. refl) x) (from_mark m.Arrow goes_operand true (λ at. refl) x)) (from_mark m.Dot goes_operand true (λ at. refl) x) e

pub selector_not : (test : Token → Bool) → Apart (is_mark m.OpenBracket) test → Apart (is_mark m.Arrow) test →
    Apart (is_mark m.Dot) test → Apart is_selector test
selector_not test a b c x e = split _ _ (split _ _ (a x) (b x)) (c x) e

-- what a selection is
abbrev selecting : ℕ → Language Expr → Expr → Language ExprKind
selecting d l e = L.◌or◌ (L.◌>>◌ (T.sign d m.OpenBracket) (L.◌>>=◌ (LE.expr_of (suc d) l) (λ i. L.◌>>◌ (T.sign (suc d) m.CloseBracket) (L.give (Index e i)))))
    (L.◌or◌ (L.◌>>◌ (T.sign d m.Arrow) (L.◌>>=◌ (T.name d) (λ f. L.give (Arrow e f.text)))) (L.◌>>◌ (T.sign d m.Dot) (L.◌>>=◌ (T.name d) (λ f. L.give (Dot e f.text)))))

abbrev read_selecting : ℕ → Reader Expr → Expr → Reader ExprKind
read_selecting room p e = R.when (is_mark m.OpenBracket) (RE.index room p e) (R.when (is_mark m.Arrow) (R.◌>>◌ (RT.sign m.Arrow) (RE.field e Arrow)) (R.◌>>◌ (RT.sign m.Dot) (RE.field e Dot)))

module _ (fits able : Type 0) (d : ℕ) (small : fits → d ≤ MAX_NESTING) where
  field_told : (Y : Type 0) (k : Mark) (make : Expr → List ℕ → ExprKind) →
      Told {X = Y × Expr} fits able d (λ y. R.◌>>◌ (RT.sign k) (RE.field y.1 make))
      (λ y. L.◌>>◌ (T.sign d k) (L.◌>>=◌ (T.name d) (λ f. L.give (make y.1 f.text)))) ⊥ (is_mark k) none
  field_told Y k make = followed (λ y u. RE.field y.1 make) (sign_told (Y × Expr) fits able d small none k)
      (made (λ (y : (Y × Expr) × Unit {0}) f. make y.0.1 f.text) (name_told ((Y × Expr) × Unit {0}) fits able d small none)) (λ x e. refl) (λ e. absurd e) (λ e. e)

-- an expression in parentheses, or a cast and its `malloc`, as it is read
abbrev pub read_parenthesised : ℕ → Language Expr → Language ExprKind
read_parenthesised d l = L.◌>>◌ (T.sign d m.OpenParen) (L.◌or◌
    (L.◌>>=◌ (types.pointer_with (suc d) (T.sign (suc d) m.Star)) (λ t. L.◌>>◌ (T.sign (suc d) m.CloseParen) (read_malloc d l (Some t))))
    (L.◌>>=◌ (LE.expr_of (suc d) l) (λ e. L.◌>>◌ (T.sign (suc d) m.CloseParen) (L.give (Paren e)))))

-- an operand stands one deeper
module _ (fits able : Type 0) (room d : ℕ) (small : fits → d ≤ MAX_NESTING)
    (sum : fits → suc d + room ≡ suc MAX_NESTING) (down : suc d ≤ MAX_NESTING → fits)
    (p : Reader Expr) (l : Language Expr) (operand : Told {X = Unit {0}} (suc d ≤ MAX_NESTING) able (suc d) (λ x. p) (λ x. l) ⊥ begins_expr goes_operand) where
  pub inner_told : Told {X = Unit {0}} (suc d ≤ MAX_NESTING) able (suc d) (λ x. RE.expr_of p)
      (λ x. LE.expr_of (suc d) l) ⊥ begins_expr goes_expr
  inner_told = expr_of_told (suc d ≤ MAX_NESTING) able (suc d) (λ e. e) begins_expr p l operand

  index_told : (Y : Type 0) → Told {X = Y × Expr} fits able d (λ y. RE.index room p y.1)
      (λ y. L.◌>>◌ (T.sign d m.OpenBracket) (L.◌>>=◌ (LE.expr_of (suc d) l) (λ i. L.◌>>◌ (T.sign (suc d) m.CloseBracket) (L.give (Index y.1 i))))) ⊥ (is_mark m.OpenBracket) none
  index_told Y = enclosed_told room d small sum m.OpenBracket m.CloseBracket (λ (y : Y × Expr) i. Index y.1 i) (from_mark m.CloseBracket goes_expr false (λ at. refl)) (everywhere (Y × Expr) inner_told)

  selecting_told : (Y : Type 0) → Told {X = Y × Expr} fits able d (λ y. read_selecting room p y.1)
      (λ y. selecting d l y.1) ⊥ selects none
  selecting_told Y = either (is_mark m.OpenBracket) (index_told Y)
      (either (is_mark m.Arrow) (field_told fits able d small Y m.Arrow Arrow) (field_told fits able d small Y m.Dot Dot) (itself _) (from_mark m.Dot (is_mark m.Arrow) false (λ at. refl)) (λ e. absurd e))
      (itself _) (λ x e. split _ _ (from_mark m.Arrow (is_mark m.OpenBracket) false (λ at. refl) x) (from_mark m.Dot (is_mark m.OpenBracket) false (λ at. refl) x) e) (λ e. absurd e)

  selected_told : (Y : Type 0) → Told {X = Y × Expr} fits able d (λ y. RE.selected room p y.1)
      (λ y. LE.selected d l y.1) ⊥ is_selector none
  selected_told Y = renamed selected_to selected_from (followed (λ y kind. R.◌>>=◌ (R.look (λ s. s.end)) (λ to. R.give (expression kind (span y.1.at.from to)))) (selecting_told Y)
      (ended_told ((Y × Expr) × ExprKind) fits able d none (λ y to. expression y.1 (span y.0.1.at.from to))) (none_apart none) (λ u. itself none) (λ e. e))

  -- any number of selections
  pub selections_told : (Y : Type 0) → Told {X = Y × Expr} fits able d
      (λ y. R.turns is_selector (RE.selected room p) y.1) (λ y. L.turns (LE.selected d l) y.1)
      (Unit {0}) is_selector goes_operand
  selections_told Y = turning (λ (y : Y) e. RE.selected room p e) (λ y e. LE.selected d l e) (selected_told Y) (λ x e. refl) (none_within goes_operand) selector_operand

  -- ---- parentheses

  cast_told : Told {X = Unit {0}} (suc d ≤ MAX_NESTING) able (suc d)
      (λ x. R.◌>>=◌ (RT.pointer_with (RT.sign m.Star)) (λ t. R.◌>>◌ (RT.sign m.CloseParen) (RE.malloc room p (Some t))))
      (λ x. L.◌>>=◌ (types.pointer_with (suc d) (T.sign (suc d) m.Star)) (λ t. L.◌>>◌ (T.sign (suc d) m.CloseParen) (read_malloc d l (Some t)))) ⊥ begins_base none
  cast_told = followed (λ x t. R.◌>>◌ (RT.sign m.CloseParen) (RE.malloc room p (Some t)))
      (pointer_with_told (suc d ≤ MAX_NESTING) able (suc d) (λ e. e) (RT.sign m.Star) (T.sign (suc d) m.Star) (λ Z goes. sign_told Z (suc d ≤ MAX_NESTING) able (suc d) (λ e. e) goes m.Star) (Unit {0}))
      (followed (λ x u. RE.malloc room p (Some x.1)) (sign_told (Unit {0} × Ty) (suc d ≤ MAX_NESTING) able (suc d) (λ e. e) none m.CloseParen)
      (malloc_told (suc d ≤ MAX_NESTING) able room d (λ e. small (down e)) (λ e. sum (down e)) (λ e. e) p l operand ((Unit {0} × Ty) × Unit {0}) (λ x. Some x.0.1)) (λ x e. refl) (λ e. absurd e) (λ e. e))
      (from_mark m.CloseParen goes_stars false (λ at. refl)) (λ e. absurd e) (λ e. e)

  base_not_expr : Apart begins_base begins_expr
  base_not_expr x e = split _ _ (split _ _ (from_word (codes "int") begins_expr false (λ at. refl) x) (from_word (codes "void") begins_expr false (λ at. refl) x)) (from_word (codes "struct") begins_expr false (λ at. refl) x) e

  pub parenthesised_told : Told {X = Unit {0}} fits able d (λ x. RE.parenthesised room p)
      (λ x. read_parenthesised d l) ⊥ (is_mark m.OpenParen) none
  parenthesised_told = opened_told {first = λ t. begins_expr t || begins_base t} room d small sum m.OpenParen
      (renamed (λ x e. split _ _ (or_right (begins_expr x) (begins_base x)) (or_left (begins_expr x) (begins_base x)) e) (λ x e. split _ _ (or_right (begins_base x) (begins_expr x)) (or_left (begins_base x) (begins_expr x)) e)
      (either begins_base cast_told (closed_told (suc d) (λ e. e) m.CloseParen (λ x e. Paren e) (from_mark m.CloseParen goes_expr false (λ at. refl)) inner_told) (itself _) (swapped begins_base begins_expr base_not_expr) (λ e. absurd e)))
