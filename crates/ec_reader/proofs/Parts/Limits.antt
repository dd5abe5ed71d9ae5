-- The k-th of its kind.
use Rattle.std.proofs.Common.{◌≡◌, refl, ℕ, Bool, true, false}
use Rattle.std.specs.Prelude.{nat_le}
use Rattle.ec_base.specs.declared.token.Token.{Token}
use Rattle.ec_syntax.specs.declared.quantity.Fault.{Fault}
use Rattle.ec_syntax.specs.declared.quantity.Quantity.{Quantity}
use Rattle.ec_syntax.specs.Grammar.State.{State, limit}
use Rattle.ec_syntax.specs.Grammar.Language.{first_is}
use Rattle.ec_syntax.specs.Descent.Reader.{Reader, kth, passed, deepest}
use Rattle.ec_syntax.specs.Descent.Reader.Outcome.{Stopped}
use Rattle.ec_reader.specs.Sentences.{limit_fault}

module _ {A : Type 0} (q : Quantity) (k : ℕ) (test : Token → Bool) (room : ℕ) (p : Reader A) (s : State) where
  pub kth_within : nat_le k (limit q) ≡ true → kth q k test room p s ≡ p s
  kth_within h = rw h refl

  pub kth_past : (fault : Fault) → nat_le k (limit q) ≡ false → fault ≡ limit_fault (first_is test s.left) room q → kth q k test room p s ≡ Stopped fault s.left
  kth_past fault h is = rw (h, is) (by_test (first_is test s.left) refl)
    where
      by_test : (b : Bool) → first_is test s.left ≡ b → passed {A = A} test (deepest room q) s ≡ Stopped (limit_fault b room q) s.left
      by_test true e = rw e refl
      by_test false e = rw e refl
