-- Readers that are the same from a state on.
use Rattle.std.proofs.Common.{◌≡◌, refl, ap, Bool, true, false, true≢false, List, [], ◌∷◌, Option, Some, None, is_some}
use mathlib.Core.Path.{fun_ext}
use Rattle.ec_base.specs.declared.token.Token.{Token}
use Rattle.ec_syntax.specs.declared.quantity.Fault.TheVariants.{Expected}
use Rattle.ec_syntax.specs.Grammar.State.{State, Counts}
use Rattle.ec_syntax.specs.Grammar.Language.{first_is}
use Rattle.ec_syntax.specs.Grammar.Tokens.{only}
use Rattle.ec_syntax.specs.Descent.Reader.{Reader, Outcome, and_then, when, turns, ◌>>=◌, one, plain}
use Rattle.ec_syntax.specs.Descent.Reader.Outcome.{Done, Stopped}

module _ {A B C : Type 0} where
  outcome_assoc : (o : Outcome A) (f : A → Reader B) (g : B → Reader C) →
      and_then (and_then o f) g ≡ and_then o (λ a. f a >>= g)
  outcome_assoc (Done a s) f g = refl
  outcome_assoc (Stopped fault left) f g = refl

  pub bind_assoc : (p : Reader A) (f : A → Reader B) (g : B → Reader C) (s : State) →
      ((p >>= f) >>= g) s ≡ (p >>= (λ a. f a >>= g)) s
  bind_assoc p f g s = outcome_assoc (p s) f g

module _ {A B : Type 0} where
  pub bind_same : (p q : Reader A) (f : A → Reader B) (s : State) → p s ≡ q s → (p >>= f) s ≡ (q >>= f) s
  bind_same p q f s e = ap (λ o. and_then o f) e

  pub bind_on : (p : Reader A) (f g : A → Reader B) (s : State) → ((a : A) (m : State) → f a m ≡ g a m) →
      (p >>= f) s ≡ (p >>= g) s
  bind_on p f g s e = ap (λ k. and_then (p s) k) (fun_ext λ a. fun_ext λ m. e a m)

module _ {A : Type 0} where
  pub when_then : (test : Token → Bool) (p q : Reader A) (s : State) → first_is test s.left ≡ true →
      when test p q s ≡ p s
  when_then test p q s e = rw e refl

  pub when_else : (test : Token → Bool) (p q : Reader A) (s : State) → first_is test s.left ≡ false →
      when test p q s ≡ q s
  when_else test p q s e = rw e refl

-- a token that doesn't pass the test of a token isn't read
unread : (test : Token → Bool) (s : State) (ts : List Token) → first_is test ts ≡ false →
    plain (only test) (record s { left = ts }) ≡ Stopped Expected ts
unread test s [] e = refl
unread test s (x ∷ rest) e = rw e refl

pub not_read : (test : Token → Bool) (s : State) → first_is test s.left ≡ false →
    plain (only test) s ≡ Stopped Expected s.left
not_read test s e = unread test s s.left e

none_of : {A : Type 0} (o : Option A) → is_some o ≡ false → o ≡ None
none_of None e = refl
none_of (Some a) e = absurd (true≢false e)

module _ {A : Type 0} (pick : Token → Option A) (counts : State → A → Counts) (counted : State → State) where
  unpicked : (s : State) (ts : List Token) → first_is (λ x. is_some (pick x)) ts ≡ false →
      one pick counts counted (record s { left = ts }) ≡ Stopped Expected ts
  unpicked s [] e = refl
  unpicked s (x ∷ rest) e = rw (none_of (pick x) e) refl

  pub not_picked : (s : State) → first_is (λ x. is_some (pick x)) s.left ≡ false →
      one pick counts counted s ≡ Stopped Expected s.left
  not_picked s e = unpicked s s.left e

module _ {A : Type 0} (test : Token → Bool) (turn : A → Reader A) (a : A) where
  unturned : (s : State) (ts : List Token) → first_is test ts ≡ false →
      turns test turn a (record s { left = ts }) ≡ Done a (record s { left = ts })
  unturned s [] e = refl
  unturned s (x ∷ rest) e = rw e refl

  pub not_turned : (s : State) → first_is test s.left ≡ false → turns test turn a s ≡ Done a s
  not_turned s e = unturned s s.left e

pub decided : {A : Type 0} (b : Bool) → (b ≡ true → A) → (b ≡ false → A) → A
decided true f g = f refl
decided false f g = g refl
