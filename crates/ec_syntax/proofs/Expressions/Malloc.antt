-- `malloc` is decided, behind its cast.
use Rattle.std.proofs.Common.{◌≡◌, refl, ◌≤◌, ◌+◌, ℕ, zero, suc, false, codes, Option, Some, None, arith}
use Rattle.ec_base.specs.declared.limits.TheConstants.{MAX_NESTING}
use Rattle.ec_base.specs.declared.token.Mark.TheVariants as m
use Rattle.ec_syntax.specs.declared.expression.Expr.{Expr}
use Rattle.ec_syntax.specs.declared.expression.ExprKind.{ExprKind}
use Rattle.ec_syntax.specs.declared.expression.ExprKind.TheVariants.{New}
use Rattle.ec_syntax.specs.declared.name.Ty.{Ty}
use Rattle.ec_syntax.specs.Grammar.Language as L
use Rattle.ec_syntax.specs.Grammar.Language.{Language}
use Rattle.ec_syntax.specs.Descent.Reader as R
use Rattle.ec_syntax.specs.Descent.Reader.{Reader}
use Rattle.ec_syntax.specs.Grammar.Tokens as T
use Rattle.ec_syntax.specs.Grammar.Tokens.{is_mark, is_word}
use Rattle.ec_syntax.specs.Grammar.Types as types
use Rattle.ec_syntax.specs.Grammar.Expressions as LE
use Rattle.ec_syntax.specs.Descent.Tokens as RT
use Rattle.ec_syntax.specs.Descent.Tokens.{begins_expr, begins_base}
use Rattle.ec_syntax.specs.Descent.Expressions as RE
use Rattle.ec_syntax.specs.Descent.Expressions.{begins_amount}
use Rattle.ec_syntax.proofs.Lookahead.FirstSets.{itself, split, expr_not_word, none}
use Rattle.ec_syntax.proofs.Decision.Limited.{Told, followed, made, either, everywhere, renamed}
use Rattle.ec_syntax.proofs.Terminals.Tokens.{sign_told, word_told}
use Rattle.ec_syntax.proofs.Terminals.Types.{type_with_told, goes_stars}
use Rattle.ec_syntax.proofs.Nesting.Brackets.{bracketed_told}
use Rattle.ec_syntax.proofs.Lookahead.FollowSets.{goes_operand}
use Rattle.ec_syntax.proofs.Expressions.CountTurns.{counting}
use Rattle.ec_syntax.proofs.Expressions.Counts.{count_told}
use Rattle.ec_syntax.proofs.Tokens.Classes.{from_mark}
use Rattle.std.proofs.lemmas.Bool.{or_left, or_right}
use Rattle.ec_syntax.proofs.Tokens.Samples.{sizeof_sample, malloc_sample}

-- ---- languages

-- behind `sizeof`
abbrev pub element : ℕ → Language Ty
element d = LE.bracketed d (types.type_with (suc d) (T.sign (suc d) m.Star))

-- inside the brackets, as it is read
abbrev pub read_amount : ℕ → Language Expr → Language (Option Expr × Ty)
read_amount d operand =
    L.◌or◌ (L.◌>>◌ (T.word d (codes "sizeof")) (L.◌>>=◌ (element d) (λ t. L.give (None, t))))
    (L.◌>>=◌ (L.◌>>=◌ operand (counting d operand)) (λ e. L.◌>>=◌ (element d) (λ t. L.give (Some e, t))))

-- from the word on
abbrev pub read_malloc : ℕ → Language Expr → Option Ty → Language ExprKind
read_malloc d operand cast = L.◌>>◌ (T.word d (codes "malloc")) (L.◌>>=◌ (LE.bracketed d (read_amount (suc d) operand)) (λ c. L.give (New cast c.0 c.1)))

-- ---- what decides them

module _ (fits able : Type 0) (room d : ℕ) (small : fits → d ≤ MAX_NESTING)
    (sum : fits → suc d + room ≡ suc MAX_NESTING) where
  pub element_told : (Y : Type 0) → Told {X = Y} fits able d (λ y. RE.element room)
      (λ y. element d) ⊥ (is_mark m.OpenParen) none
  element_told Y = bracketed_told room d small sum (from_mark m.CloseParen goes_stars false (λ at. refl))
      (type_with_told (suc d ≤ MAX_NESTING) able (suc d) (λ e. e) (RT.sign m.Star) (T.sign (suc d) m.Star) (λ Z goes. sign_told Z (suc d ≤ MAX_NESTING) able (suc d) (λ e. e) goes m.Star) Y)

  pub sized_told : Told {X = Unit {0}} {A = Option Expr × Ty} fits able d
      (λ x. R.◌>>◌ (RT.word (codes "sizeof")) (R.◌>>=◌ (RE.element room) (λ t. R.give (None, t))))
      (λ x. L.◌>>◌ (T.word d (codes "sizeof")) (L.◌>>=◌ (element d) (λ t. L.give (None, t)))) ⊥ (is_word (codes "sizeof")) none
  sized_told = followed {B = Option Expr × Ty} (λ x u. R.◌>>=◌ (RE.element room) (λ t. R.give (None, t))) (word_told (Unit {0}) fits able d small none (codes "sizeof") sizeof_sample)
      (made {B = Option Expr × Ty} (λ x t. (None, t)) (element_told (Unit {0} × Unit {0}))) (λ x e. refl) (λ e. absurd e) (λ e. e)

  module _ (p : Reader Expr) (l : Language Expr)
      (operand : Told {X = Unit {0}} fits able d (λ x. p) (λ x. l) ⊥ begins_expr goes_operand) where
    counted_told : Told {X = Unit {0}} {A = Option Expr × Ty} fits able d
        (λ x. R.◌>>=◌ (RE.count p) (λ e. R.◌>>=◌ (RE.element room) (λ t. R.give (Some e, t))))
        (λ x. L.◌>>=◌ (L.◌>>=◌ l (counting d l)) (λ e. L.◌>>=◌ (element d) (λ t. L.give (Some e, t)))) ⊥ begins_expr none
    counted_told = followed {B = Option Expr × Ty} (λ x e. R.◌>>=◌ (RE.element room) (λ t. R.give (Some e, t))) (count_told fits able d small p l operand (Unit {0}))
        (made {B = Option Expr × Ty} (λ (x : Unit {0} × Expr) t. (Some x.1, t)) (element_told (Unit {0} × Expr))) (λ x e. refl) (λ e. absurd e) (λ e. e)

    amount_told : Told {X = Unit {0}} fits able d (λ x. RE.amount room p) (λ x. read_amount d l) ⊥ begins_amount none
    amount_told = renamed (λ x e. split _ _ (or_right (begins_expr x) (is_word (codes "sizeof") x)) (or_left (begins_expr x) (is_word (codes "sizeof") x)) e)
        (λ x e. split _ _ (or_right (is_word (codes "sizeof") x) (begins_expr x)) (or_left (is_word (codes "sizeof") x) (begins_expr x)) e)
        (either (is_word (codes "sizeof")) sized_told counted_told (itself _) (expr_not_word (codes "sizeof") (λ at. refl)) (λ e. absurd e))

below_sum : (d room : ℕ) → suc d ≤ MAX_NESTING → suc d + room ≡ suc MAX_NESTING →
    suc (suc d) + RE.below room ≡ suc MAX_NESTING
below_sum d zero small sum = absurd (omega arith)
below_sum d (suc room) small sum = omega arith

module _ (fits able : Type 0) (room d : ℕ) (small : fits → d ≤ MAX_NESTING)
    (sum : fits → suc d + room ≡ suc MAX_NESTING) (down : suc d ≤ MAX_NESTING → fits)
    (p : Reader Expr) (l : Language Expr) (operand : Told {X = Unit {0}} (suc d ≤ MAX_NESTING) able (suc d) (λ x. p) (λ x. l) ⊥ begins_expr goes_operand) where
  pub malloc_told : (Y : Type 0) (cast : Y → Option Ty) →
      Told {X = Y} fits able d (λ y. RE.malloc room p (cast y))
      (λ y. read_malloc d l (cast y)) ⊥ (is_word (codes "malloc")) none
  malloc_told Y cast = followed (λ y u. R.◌>>=◌ (RE.bracketed room begins_amount (RE.amount (RE.below room) p)) (λ c. R.give (New (cast y) c.0 c.1)))
      (word_told Y fits able d small none (codes "malloc") malloc_sample)
      (made (λ (y : Y × Unit {0}) c. New (cast y.0) c.0 c.1) (bracketed_told room d small sum (λ x e. refl)
      (everywhere (Y × Unit {0}) (amount_told (suc d ≤ MAX_NESTING) able (RE.below room) (suc d) (λ e. e) (λ e. below_sum d room e (sum (down e))) p l operand))))
      (λ x e. refl) (λ e. absurd e) (λ e. e)
