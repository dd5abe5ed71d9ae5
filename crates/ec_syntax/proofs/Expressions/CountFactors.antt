-- The count in a `malloc`, and the `*` and `sizeof` behind it: read factor by factor, where only a `*` may be the last.
use Rattle.std.proofs.Common.{◌≡◌, refl, sym, ◌≤◌, ℕ, Bool, true, false, ◌||◌, codes, Option, Some, None, is_some}
use Rattle.ec_base.specs.declared.limits.TheConstants.{MAX_NESTING}
use Rattle.ec_base.specs.declared.token.Mark.TheVariants as m
use Rattle.ec_base.specs.declared.token.Token.{Token}
use Rattle.ec_base.specs.declared.token.TokenKind.TheVariants as t
use Rattle.ec_syntax.specs.declared.expression.Expr.{Expr}
use Rattle.ec_syntax.specs.declared.expression.ExprKind.{ExprKind}
use Rattle.ec_syntax.specs.Grammar.Language as L
use Rattle.ec_syntax.specs.Grammar.Language.{Language, first_is}
use Rattle.ec_syntax.specs.Descent.Reader as R
use Rattle.ec_syntax.specs.Descent.Reader.{Reader}
use Rattle.ec_syntax.specs.Grammar.Tokens as T
use Rattle.ec_syntax.specs.Grammar.Tokens.{is_mark, is_word}
use Rattle.ec_syntax.specs.Grammar.Expressions.{of_mark, at_level, joined}
use Rattle.ec_syntax.specs.Descent.Tokens as RT
use Rattle.ec_syntax.specs.Descent.Tokens.{begins_expr}
use Rattle.ec_syntax.specs.Descent.Expressions.{is_at_level}
use Rattle.ec_syntax.proofs.Decision.Procedures.{Within, Apart}
use Rattle.ec_syntax.proofs.Lookahead.FirstSets.{itself, expr_not_word, apart_within, none}
use Rattle.ec_syntax.proofs.Decision.Limited.{Told, followed, made, either, everywhere, reindexed, renamed}
use Rattle.ec_syntax.proofs.Terminals.Tokens.{word_told, operator_told}
use Rattle.ec_syntax.proofs.Lookahead.FollowSets.{goes_operand, goes_level, level_apart, operand_level}
use Rattle.ec_syntax.proofs.Tokens.Classes.{token_of}
use Rattle.std.proofs.lemmas.Bool.{or_left}
use Rattle.ec_syntax.proofs.Tokens.Samples.{nowhere, sizeof_sample}

abbrev pub Join : Type 0
Join = Expr → Expr → ExprKind

-- ---- a factor's operator: a `*`, or another

abbrev pub is_factor : Token → Bool
is_factor = is_at_level 0

abbrev pub where_so : Bool → Option Join → Option Join
where_so true o = o
where_so false o = None

abbrev pub where_not : Bool → Option Join → Option Join
where_not true o = None
where_not false o = o

abbrev pub star : Token → Option Join
star x = where_so (is_mark m.Star x) (of_mark (at_level 0) x)

abbrev pub other : Token → Option Join
other x = where_not (is_mark m.Star x) (of_mark (at_level 0) x)

abbrev pub is_star : Token → Bool
is_star x = is_some (star x)

abbrev pub is_other : Token → Bool
is_other x = is_some (other x)

-- both are the operators of the closest level
either_factor : Within (λ t. is_star t || is_other t) is_factor
either_factor x e = by (is_mark m.Star x) (of_mark (at_level 0) x) e
  where
    by : (b : Bool) (o : Option Join) → (is_some (where_so b o) || is_some (where_not b o)) ≡ true → is_some o ≡ true
    by true None h = h
    by true (Some make) h = refl
    by false o h = h

factor_either : Within is_factor (λ t. is_star t || is_other t)
factor_either x e = by (is_mark m.Star x) (of_mark (at_level 0) x) e
  where
    by : (b : Bool) (o : Option Join) → is_some o ≡ true → (is_some (where_so b o) || is_some (where_not b o)) ≡ true
    by true None h = h
    by true (Some make) h = refl
    by false o h = h

star_is : Within is_star (is_mark m.Star)
star_is x e = by (is_mark m.Star x) (of_mark (at_level 0) x) e
  where
    by : (b : Bool) (o : Option Join) → is_some (where_so b o) ≡ true → b ≡ true
    by true o h = refl
    by false o h = h

other_not : Apart is_other (is_mark m.Star)
other_not x e = by (is_mark m.Star x) (of_mark (at_level 0) x) e
  where
    by : (b : Bool) (o : Option Join) → is_some (where_not b o) ≡ true → b ≡ false
    by true o h = sym h
    by false o h = refl

pub factor_apart : Apart is_factor goes_operand
factor_apart = apart_within is_factor (goes_level 0) goes_operand (operand_level 0) (level_apart 0)

pub star_apart : Apart is_star goes_operand
star_apart x e = factor_apart x (either_factor x (or_left (is_star x) (is_other x) e))

-- ---- one factor more, and what is next

abbrev pub one_count : ℕ → Language Expr → (Expr → Language Expr) → Expr → Language Expr
one_count d l next a =
    L.◌or◌ (L.◌>>=◌ (T.operator d star) (λ make. L.◌or◌ (L.◌>>◌ (T.word d (codes "sizeof")) (L.give a)) (L.◌>>=◌ l (λ b. next (joined make a b)))))
    (L.◌>>=◌ (T.operator d other) (λ make. L.◌>>=◌ l (λ b. next (joined make a b))))

abbrev pub read_count : Reader Expr → (Expr → Reader Expr) → Expr → Reader Expr
read_count p next a =
    R.when (is_mark m.Star) (R.◌>>=◌ (RT.operator star) (λ make. R.when (is_word (codes "sizeof")) (R.◌>>◌ (RT.word (codes "sizeof")) (R.give a)) (R.◌>>=◌ p (λ b. next (joined make a b)))))
    (R.◌>>=◌ (RT.operator other) (λ make. R.◌>>=◌ p (λ b. next (joined make a b))))

module _ (fits able : Type 0) (d : ℕ) (small : fits → d ≤ MAX_NESTING) (p : Reader Expr) (l : Language Expr)
    (operand : Told {X = Unit {0}} fits able d (λ x. p) (λ x. l) ⊥ begins_expr goes_operand) where
  pub star_told : (Y : Type 0) → Told {X = Y} fits able d (λ y. RT.operator star)
      (λ y. T.operator d star) ⊥ is_star none
  star_told Y = operator_told Y fits able d small none star is_star (token_of (t.Mark m.Star) nowhere) _ refl refl refl (λ x. refl)

  pub other_told : (Y : Type 0) → Told {X = Y} fits able d (λ y. RT.operator other)
      (λ y. T.operator d other) ⊥ is_other none
  other_told Y = operator_told Y fits able d small none other is_other (token_of (t.Mark m.Slash) nowhere) _ refl refl refl (λ x. refl)

  module _ (q : Expr → Reader Expr) (Q : Expr → Language Expr)
      (next : Told {X = Expr} fits able d q Q ⊥ is_factor none) where
    operand_next_told : Told {X = Expr × Join} fits able d (λ y. R.◌>>=◌ p (λ b. q (joined y.1 y.0 b)))
        (λ y. L.◌>>=◌ l (λ b. Q (joined y.1 y.0 b))) ⊥ begins_expr none
    operand_next_told = followed (λ y b. q (joined y.1 y.0 b)) (everywhere (Expr × Join) operand) (reindexed (λ (y : (Expr × Join) × Expr). joined y.0.1 y.0.0 y.1) next) factor_apart (λ e. absurd e) (λ e. e)

    behind_star_told : Told {X = Expr × Join} fits able d
        (λ y. R.when (is_word (codes "sizeof")) (R.◌>>◌ (RT.word (codes "sizeof")) (R.give y.0))
        (R.◌>>=◌ p (λ b. q (joined y.1 y.0 b))))
        (λ y. L.◌or◌ (L.◌>>◌ (T.word d (codes "sizeof")) (L.give y.0)) (L.◌>>=◌ l (λ b. Q (joined y.1 y.0 b)))) ⊥ (λ t. is_word (codes "sizeof") t || begins_expr t) none
    behind_star_told = either (is_word (codes "sizeof")) (made (λ y u. y.0) (word_told (Expr × Join) fits able d small none (codes "sizeof") sizeof_sample)) operand_next_told
        (itself _) (expr_not_word (codes "sizeof") (λ at. refl)) (λ e. absurd e)

    pub count_step_told : Told {X = Expr} fits able d (read_count p q) (one_count d l Q) ⊥ is_factor none
    count_step_told = renamed either_factor factor_either (either (is_mark m.Star)
        (followed (λ a make. R.when (is_word (codes "sizeof")) (R.◌>>◌ (RT.word (codes "sizeof")) (R.give a)) (R.◌>>=◌ p (λ b. q (joined make a b)))) (star_told Expr) behind_star_told (λ x e. refl) (λ e. absurd e) (λ e. e))
        (followed (λ a make. R.◌>>=◌ p (λ b. q (joined make a b))) (other_told Expr) operand_next_told (λ x e. refl) (λ e. absurd e) (λ e. e))
        star_is other_not (λ e. absurd e))
