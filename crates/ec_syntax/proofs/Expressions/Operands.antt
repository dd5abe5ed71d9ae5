-- Operands are decided where those one deeper are.
use Rattle.std.proofs.Common.{◌≡◌, refl, ◌≤◌, ◌+◌, ℕ, suc, Bool, true, false, ◌||◌, codes}
use Rattle.ec_base.specs.declared.limits.TheConstants.{MAX_NESTING}
use Rattle.ec_base.specs.declared.token.Mark.TheVariants as m
use Rattle.ec_base.specs.declared.token.Token.{Token}
use Rattle.ec_base.specs.declared.token.TokenKind.TheVariants as t
use Rattle.ec_base.specs.declared.operator.UnOp.TheVariants.{Neg}
use Rattle.ec_syntax.specs.declared.expression.Expr.{Expr}
use Rattle.ec_syntax.specs.declared.expression.ExprKind.{ExprKind}
use Rattle.ec_syntax.specs.declared.expression.ExprKind.TheVariants.{Address, Unary}
use Rattle.ec_syntax.specs.Grammar.Language as L
use Rattle.ec_syntax.specs.Grammar.Language.{Language}
use Rattle.ec_syntax.specs.Descent.Reader as R
use Rattle.ec_syntax.specs.Descent.Reader.{Reader}
use Rattle.ec_syntax.specs.Grammar.Tokens as T
use Rattle.ec_syntax.specs.Grammar.Tokens.{is_mark, is_word}
use Rattle.ec_syntax.specs.Grammar.Expressions as LE
use Rattle.ec_syntax.specs.Grammar.Expressions.{expression, of_mark, prefix_of}
use Rattle.ec_syntax.specs.Descent.Tokens as RT
use Rattle.ec_syntax.specs.Descent.Tokens.{begins_expr, is_number, is_name, is_prefix}
use Rattle.ec_syntax.specs.Descent.Expressions as RE
use Rattle.ec_syntax.proofs.Decision.Procedures.{Within, Apart}
use Rattle.ec_syntax.proofs.Lookahead.FirstSets.{itself, split, number_begins, name_begins, prefix_begins, none}
use Rattle.ec_syntax.proofs.Decision.Limited.{Told, followed, made, either, placed, everywhere, renamed, refit, inside}
use Rattle.ec_syntax.proofs.Terminals.Tokens.{sign_told, name_told, operator_told}
use Rattle.ec_syntax.proofs.Lookahead.FollowSets.{goes_operand}
use Rattle.ec_syntax.proofs.Expressions.Primaries.{postfix_told, begins_primary, begins_null, from_null}
use Rattle.ec_syntax.proofs.Tokens.Classes.{from_mark, from_word, from_name, from_number, token_of}
use Rattle.std.proofs.lemmas.Bool.{or_left, or_right}
use Rattle.ec_syntax.proofs.Tokens.Samples.{nowhere}

-- ---- what begins an operand, as it is read

abbrev begins_address : Token → Bool
begins_address t = is_mark m.And t || begins_primary t

abbrev pub begins_unary : Token → Bool
begins_unary t = is_prefix t || begins_address t

from_primary : (test : Token → Bool) (b : Bool) → ((x : Token) → is_number x ≡ true → test x ≡ b) →
    ((x : Token) → is_name x ≡ true → test x ≡ b) → ((x : Token) → begins_null x ≡ true → test x ≡ b) →
    (x : Token) → begins_primary x ≡ true → test x ≡ b
from_primary test b n w o x e = split _ _ (n x) (λ g. split _ _ (w x) (o x) g) e

primary_expr : Within begins_primary begins_expr
primary_expr = from_primary begins_expr true number_begins name_begins (from_null begins_expr true (λ at. refl) (λ at. refl) (λ at. refl) (λ at. refl))

unary_expr : Within begins_unary begins_expr
unary_expr x e = split _ _ (prefix_begins x) (λ g. split _ _ (from_mark m.And begins_expr true (λ at. refl) x) (primary_expr x) g) e

-- a token that begins an operand without an operator
primary_unary : Within begins_primary begins_unary
primary_unary x e = or_right (is_prefix x) (begins_address x) (or_right (is_mark m.And x) (begins_primary x) e)

number_primary : Within is_number begins_primary
number_primary x e = or_left (is_number x) (is_name x || begins_null x) e

name_primary : Within is_name begins_primary
name_primary x e = or_right (is_number x) (is_name x || begins_null x) (or_left (is_name x) (begins_null x) e)

expr_unary : Within begins_expr begins_unary
expr_unary x = split _ _ (split _ _ (split _ _ (split _ _ (split _ _ (split _ _ (split _ _
    (λ e. primary_unary x (number_primary x e)) (λ e. primary_unary x (name_primary x e))) (or_left (is_prefix x) (begins_address x)))
    (from_mark m.And begins_unary true (λ at. refl) x)) (from_mark m.OpenParen begins_unary true (λ at. refl) x)) (from_word (codes "NULL") begins_unary true (λ at. refl) x))
    (from_word (codes "malloc") begins_unary true (λ at. refl) x)) (from_word (codes "valueof") begins_unary true (λ at. refl) x)

-- ---- no other test passes

and_not_prefix : Apart (is_mark m.And) is_prefix
and_not_prefix = from_mark m.And is_prefix false (λ at. refl)

primary_not_and : Apart begins_primary (is_mark m.And)
primary_not_and = from_primary (is_mark m.And) false (from_number (is_mark m.And) false (λ n at. refl)) (from_name (is_mark m.And) false (λ w at free. refl))
    (from_null (is_mark m.And) false (λ at. refl) (λ at. refl) (λ at. refl) (λ at. refl))

primary_not_prefix : Apart begins_primary is_prefix
primary_not_prefix = from_primary is_prefix false (from_number is_prefix false (λ n at. refl)) (from_name is_prefix false (λ w at free. refl))
    (from_null is_prefix false (λ at. refl) (λ at. refl) (λ at. refl) (λ at. refl))

address_not_prefix : Apart begins_address is_prefix
address_not_prefix x e = split _ _ (and_not_prefix x) (primary_not_prefix x) e

-- ---- operands, of which those one deeper are given

abbrev pub prefixed : ℕ → Language Expr → Language Expr
prefixed d l = L.placed expression (L.◌>>=◌ (T.operator d (of_mark prefix_of)) (λ make. L.◌>>=◌ l (λ e. L.give (make e))))

abbrev pub addressed : ℕ → Language Expr
addressed d = L.placed expression (L.◌>>◌ (T.sign d m.And) (L.◌>>=◌ (T.name (suc d)) (λ n. L.give (Address n.text))))

abbrev pub unary_of : ℕ → Language Expr → Language Expr
unary_of d l = L.◌or◌ (prefixed d l) (L.◌or◌ (addressed d) (LE.postfix d l))

abbrev pub read_unary_of : ℕ → Reader Expr → Reader Expr
read_unary_of room p = R.when is_prefix (R.placed expression (R.◌>>=◌ (RT.operator (of_mark prefix_of)) (λ make. R.◌>>=◌ p (λ e. R.give (make e)))))
    (R.when (is_mark m.And) (R.placed expression (RE.address room)) (RE.postfix room p))

-- an operator before anything
pub prefixed_told : (fits able : Type 0) (d d' : ℕ) (small : fits → d ≤ MAX_NESTING) (p : Reader Expr)
    (l : Language Expr) (first goes : Token → Bool) → Told {X = Unit {0}} fits able d' (λ x. p) (λ x. l) ⊥ first goes →
    Told {X = Unit {0}} fits able d (λ x. R.placed expression
    (R.◌>>=◌ (RT.operator (of_mark prefix_of)) (λ make. R.◌>>=◌ p (λ e. R.give (make e)))))
    (λ x. prefixed d l) ⊥ is_prefix goes
prefixed_told fits able d d' small p l first goes operand = placed (λ x. expression) (followed (λ x make. R.◌>>=◌ p (λ e. R.give (make e)))
    (operator_told (Unit {0}) fits able d small none (of_mark prefix_of) is_prefix (token_of (t.Mark m.Minus) nowhere) (Unary Neg) refl refl refl (λ x. refl))
    (made (λ (x : Unit {0} × (Expr → ExprKind)) e. x.1 e) (everywhere (Unit {0} × (Expr → ExprKind)) operand)) (λ x e. refl) (λ e. absurd e) (λ e. e))

module _ (fits able : Type 0) (room d : ℕ) (small : fits → d ≤ MAX_NESTING)
    (sum : fits → suc d + room ≡ suc MAX_NESTING) where
  pub addressed_told : (goes : Token → Bool) →
      Told {X = Unit {0}} fits able d (λ x. R.placed expression (RE.address room))
      (λ x. addressed d) ⊥ (is_mark m.And) goes
  addressed_told goes = placed (λ x. expression) (followed (λ x u. R.◌>>=◌ (R.inside room is_name RT.name) (λ n. R.give (Address n.text))) (sign_told (Unit {0}) fits able d small none m.And)
      (made (λ x n. Address n.text) (inside room sum (name_told (Unit {0} × Unit {0}) (suc d ≤ MAX_NESTING) able (suc d) (λ e. e) goes))) (λ x e. refl) (λ e. absurd e) (λ e. e))

  module _ (down : suc d ≤ MAX_NESTING → fits) (p : Reader Expr) (l : Language Expr)
      (operand : Told {X = Unit {0}} fits able (suc d) (λ x. p) (λ x. l) ⊥ begins_expr goes_operand) where
    pub unary_of_told : Told {X = Unit {0}} fits able d (λ x. read_unary_of room p)
        (λ x. unary_of d l) ⊥ begins_expr goes_operand
    unary_of_told = renamed unary_expr expr_unary (either is_prefix (prefixed_told fits able d (suc d) small p l begins_expr goes_operand operand)
        (either (is_mark m.And) (addressed_told goes_operand) (postfix_told fits able room d small sum down p l (refit down operand)) (itself _) primary_not_and (λ e. absurd e))
        (itself _) address_not_prefix (λ e. absurd e))
