-- What stands in brackets is decided where what stands in them is.
use Rattle.std.proofs.Common.{arith, ◌≡◌, refl, ◌≤◌, ◌+◌, ℕ, suc, Bool, false, ◌||◌}
use Rattle.ec_base.specs.declared.limits.TheConstants.{MAX_NESTING}
use Rattle.ec_base.specs.declared.token.Mark.{Mark}
use Rattle.ec_base.specs.declared.token.Mark.TheVariants as m
use Rattle.ec_base.specs.declared.token.Token.{Token}
use Rattle.ec_syntax.specs.Grammar.Language as L
use Rattle.ec_syntax.specs.Grammar.Language.{Language, first_is}
use Rattle.ec_syntax.specs.Descent.Reader as R
use Rattle.ec_syntax.specs.Descent.Reader.{Reader}
use Rattle.ec_syntax.specs.Grammar.Tokens as T
use Rattle.ec_syntax.specs.Grammar.Tokens.{is_mark}
use Rattle.ec_syntax.specs.Grammar.Expressions as LE
use Rattle.ec_syntax.specs.Descent.Tokens as RT
use Rattle.ec_syntax.specs.Descent.Expressions as RE
use Rattle.ec_syntax.proofs.Decision.Procedures.{Apart, is_else}
use Rattle.ec_syntax.proofs.Lookahead.FirstSets.{none}
use Rattle.ec_syntax.proofs.Decision.Limited.{Told, followed, made, reindexed, inside}
use Rattle.ec_syntax.proofs.Terminals.Tokens.{sign_told}
use Rattle.ec_syntax.proofs.Nesting.Delimiters.{enclosing, enclosing_maybe, sign_single}
use Rattle.ec_syntax.proofs.Tokens.Classes.{from_mark}

-- ---- an opening bracket, and what stands behind it one deeper

pub opened_told : {X A : Type 0} {fits able : Type 0} {p : X → Reader A} {l : X → Language A}
    {first goes : Token → Bool} (room d : ℕ) → (fits → d ≤ MAX_NESTING) → (fits → suc d + room ≡ suc MAX_NESTING) →
    (o : Mark) → Told (suc d ≤ MAX_NESTING) able (suc d) p l ⊥ first goes →
    Told fits able d (λ x. R.◌>>◌ (RT.sign o) (R.inside room first (p x)))
    (λ x. L.◌>>◌ (T.sign d o) (l x)) ⊥ (is_mark o) goes
opened_told {X} {fits = fits} {able = able} {p = p} {first = first} room d small sum o h =
    followed (λ x u. R.inside room first (p x)) (sign_told X fits able d small none o) (reindexed (λ (xa : X × Unit {0}). xa.0) (inside room sum h)) (λ x e. refl) (λ e. absurd e) (λ e. e)

-- ---- a closing bracket

module _ {X A B : Type 0} {fits able : Type 0} {p : X → Reader A} {l : X → Language A} {first goes : Token → Bool}
    (d : ℕ) (small : fits → d ≤ MAX_NESTING) (c : Mark) (make : X → A → B) where
  pub closed_told : Apart (is_mark c) goes → Told fits able d p l ⊥ first goes →
      Told fits able d (λ x. R.◌>>=◌ (p x) (λ a. R.◌>>◌ (RT.sign c) (R.give (make x a))))
      (λ x. L.◌>>=◌ (l x) (λ a. L.◌>>◌ (T.sign d c) (L.give (make x a)))) ⊥ first none
  closed_told apart h = followed (λ x a. R.◌>>◌ (RT.sign c) (R.give (make x a))) h
      (made (λ (xa : X × A) u. make xa.0 xa.1) (sign_told (X × A) fits able d small none c)) apart (λ e. absurd e) (λ e. e)

-- ---- both

-- where the depth is within its limit, there is room for what stands one deeper
deeper : {fits : Type 0} {d room : ℕ} → (fits → suc d + room ≡ suc MAX_NESTING) → fits → 1 ≤ room → suc d ≤ MAX_NESTING
deeper {d = d} {room = room} sum fit some = by (sum fit)
  where
    by : suc d + room ≡ suc MAX_NESTING → suc d ≤ MAX_NESTING
    by e = omega (arith, some)

module _ {X A B : Type 0} {fits able : Type 0} {p : X → Reader A} {l : X → Language A} {first goes : Token → Bool}
    (room d : ℕ) (small : fits → d ≤ MAX_NESTING) (sum : fits → suc d + room ≡ suc MAX_NESTING)
    (o c : Mark) (make : X → A → B) where
  pub enclosed_told : Apart (is_mark c) goes → Told (suc d ≤ MAX_NESTING) able (suc d) p l ⊥ first goes →
      Told fits able d (λ x. R.◌>>◌ (RT.sign o)
      (R.◌>>=◌ (R.inside room first (p x)) (λ a. R.◌>>◌ (RT.sign c) (R.give (make x a)))))
      (λ x. L.◌>>◌ (T.sign d o) (L.◌>>=◌ (l x) (λ a. L.◌>>◌ (T.sign (suc d) c) (L.give (make x a))))) ⊥ (is_mark o) none
  enclosed_told apart h = enclosing sum (deeper sum) (sign_single o small) (sign_single c (λ e. e)) make p l none h apart

  pub enclosed_maybe_told : Apart (is_mark c) goes → Told (suc d ≤ MAX_NESTING) able (suc d) p l (Unit {0}) first goes →
      Told fits able d (λ x. R.◌>>◌ (RT.sign o)
      (R.◌>>=◌ (R.inside room (λ t. first t || is_mark c t) (p x)) (λ a. R.◌>>◌ (RT.sign c) (R.give (make x a)))))
      (λ x. L.◌>>◌ (T.sign d o) (L.◌>>=◌ (l x) (λ a. L.◌>>◌ (T.sign (suc d) c) (L.give (make x a))))) ⊥ (is_mark o) none
  enclosed_maybe_told apart h = enclosing_maybe sum (deeper sum) (sign_single o small) (sign_single c (λ e. e)) make p l none h apart (from_mark c is_else false (λ at. refl))

-- parentheses
module _ {X A : Type 0} {fits able : Type 0} {p : X → Reader A} {l : X → Language A} {first goes : Token → Bool}
    (room d : ℕ) (small : fits → d ≤ MAX_NESTING) (sum : fits → suc d + room ≡ suc MAX_NESTING) where
  pub bracketed_told : Apart (is_mark m.CloseParen) goes → Told (suc d ≤ MAX_NESTING) able (suc d) p l ⊥ first goes →
      Told fits able d (λ x. RE.bracketed room first (p x)) (λ x. LE.bracketed d (l x)) ⊥ (is_mark m.OpenParen) none
  bracketed_told apart h = enclosed_told room d small sum m.OpenParen m.CloseParen (λ x a. a) apart h

  pub bracketed_maybe_told : Apart (is_mark m.CloseParen) goes →
      Told (suc d ≤ MAX_NESTING) able (suc d) p l (Unit {0}) first goes →
      Told fits able d (λ x. RE.bracketed room (λ t. first t || is_mark m.CloseParen t) (p x))
      (λ x. LE.bracketed d (l x)) ⊥ (is_mark m.OpenParen) none
  bracketed_maybe_told apart h = enclosed_maybe_told room d small sum m.OpenParen m.CloseParen (λ x a. a) apart h
