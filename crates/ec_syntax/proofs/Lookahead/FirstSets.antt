-- Tests of tokens: no token passes both of two, or each that passes one passes the other.
use Rattle.std.proofs.Common.{◌≡◌, sym, ⊎_elim, Bool, true, false, ◌||◌, true≢false, List, ℕ, refl}
use Rattle.std.proofs.lemmas.Bool.{false_from_ne_true, both_ways, or_cases, or_left, or_right, or_from}
use Rattle.ec_base.specs.declared.token.Span.{Span}
use Rattle.ec_base.specs.declared.token.Token.{Token}
use Rattle.ec_base.specs.declared.token.TokenKind.TheVariants as t
use Rattle.ec_syntax.specs.Grammar.Tokens.{is_word}
use Rattle.ec_syntax.specs.Descent.Tokens.{is_name, is_number, is_prefix, begins_expr, begins_stmt}
use Rattle.ec_syntax.proofs.Decision.Procedures.{Within, Apart}
use Rattle.ec_syntax.proofs.Tokens.Classes.{token_of, from_word, from_number}

-- ---- truth values

-- one of two is true
pub split : {A : Type 0} (b c : Bool) → (b ≡ true → A) → (c ≡ true → A) → (b || c) ≡ true → A
split b c f g h = ⊎_elim f g (or_cases b c h)

-- ---- tests in general

-- no token passes it
abbrev pub none : Token → Bool
none x = false

-- one or the other
abbrev pub one_of : (Token → Bool) → (Token → Bool) → Token → Bool
one_of f g x = f x || g x

module _ (f g h : Token → Bool) where
  pub or_within : Within f h → Within g h → Within (one_of f g) h
  or_within a b x = split (f x) (g x) (a x) (b x)

  pub or_apart : Apart f h → Apart g h → Apart (one_of f g) h
  or_apart a b x = split (f x) (g x) (a x) (b x)

  pub apart_or : Apart f g → Apart f h → Apart f (one_of g h)
  apart_or a b x e = or_from (g x) (h x) (a x e) (b x e)

  pub within_left : Within f g → Within f (one_of g h)
  within_left a x e = or_left (g x) (h x) (a x e)

  pub within_right : Within f h → Within f (one_of g h)
  within_right a x e = or_right (g x) (h x) (a x e)

  pub within_apart : Within f g → Apart g h → Apart f h
  within_apart a b x e = b x (a x e)

  pub apart_within : Within h g → Apart f g → Apart f h
  apart_within a b x e = false_from_ne_true (h x) (λ u. both_ways (g x) (b x e) (a x u))

pub swapped : (f g : Token → Bool) → Apart f g → Apart g f
swapped f g a x e = false_from_ne_true (f x) (λ u. both_ways (g x) (a x u) e)

pub itself : (f : Token → Bool) → Within f f
itself f x e = e

pub none_within : (test : Token → Bool) → Within none test
none_within test x h = absurd (true≢false (sym h))

pub none_apart : (test : Token → Bool) → Apart none test
none_apart test x h = absurd (true≢false (sym h))

pub apart_none : (test : Token → Bool) → Apart test none
apart_none test x h = refl

-- one or none
pub drop_none : (test : Token → Bool) → Within (one_of test none) test
drop_none test x e = split (test x) false (λ h. h) (λ h. absurd (true≢false (sym h))) e

pub add_none : (test : Token → Bool) → Within test (one_of test none)
add_none test x e = or_left (test x) false e

-- ---- what begins an expression

-- each kind of token that begins an expression
pub number_begins : Within is_number begins_expr
number_begins = from_number begins_expr true (λ n at. refl)

pub name_begins : Within is_name begins_expr
name_begins x e = or_left _ _ (or_left _ _ (or_left _ _ (or_left _ _ (or_left _ _ (or_left _ _ (or_right (is_number x) (is_name x) e))))))

pub prefix_begins : Within is_prefix begins_expr
prefix_begins x e = or_left _ _ (or_left _ _ (or_left _ _ (or_left _ _ (or_left _ _ (or_right (is_number x || is_name x) (is_prefix x) e)))))

-- a word that begins no expression, or no statement
pub expr_not_word : (w : List ℕ) → ((at : Span) → begins_expr (token_of (t.Word w) at) ≡ false) →
    Apart begins_expr (is_word w)
expr_not_word w h = swapped (is_word w) begins_expr (from_word w begins_expr false h)

pub stmt_not_word : (w : List ℕ) → ((at : Span) → begins_stmt (token_of (t.Word w) at) ≡ false) →
    Apart begins_stmt (is_word w)
stmt_not_word w h = swapped (is_word w) begins_stmt (from_word w begins_stmt false h)

-- each token that begins an expression begins a statement
pub expr_begins_stmt : Within begins_expr begins_stmt
expr_begins_stmt x e =
    or_left _ _ (or_left _ _ (or_left _ _ (or_left _ _ (or_left _ _ (or_left _ _ (or_left _ _ (or_left _ _ (or_left _ _ (or_left _ _ (or_left _ _ e))))))))))
