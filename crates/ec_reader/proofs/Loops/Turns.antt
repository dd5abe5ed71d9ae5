-- Loops that read turns.
use Rattle.std.proofs.Common.{◌≡◌, refl, ◌∙◌, ap, ℕ, zero, suc, ◌≤◌, ◌<◌, Bool, true, false, List, [], ◌∷◌, length, arith}
use Rattle.ec_base.specs.declared.token.Token.{Token}
use Rattle.ec_syntax.specs.declared.quantity.Fault.{Fault}
use Rattle.ec_syntax.specs.Grammar.State.{State}
use Rattle.ec_syntax.specs.Grammar.Language.{first_is}
use Rattle.ec_syntax.specs.Descent.Reader.{Reader, Outcome, and_then, turns, turns_by}
use Rattle.ec_syntax.specs.Descent.Reader.Outcome.{Done, Stopped}
use Rattle.ec_reader.specs.Going.{Going}

module _ {A : Type 0} (test : Token → Bool) (turn : A → Reader A) where
  pub going_first : (a : A) (s : State) → Going test turn (turns test turn a s) a s
  going_first a s = record { fuel = length s.left; enough = omega arith; goes = refl }

  over_by : (fuel : ℕ) (a : A) (s : State) → first_is test s.left ≡ false → turns_by fuel test turn a s ≡ Done a s
  over_by zero a s h = refl
  over_by (suc fuel) a s h = rw h

  pub going_over : {o : Outcome A} {a : A} {s : State} → Going test turn o a s → first_is test s.left ≡ false → o ≡ Done a s
  going_over {a = a} {s = s} g h = g.goes ∙ over_by g.fuel a s h

  one_left : (ts : List Token) → first_is test ts ≡ true → 0 < length ts
  one_left [] h = absurd (cc)
  one_left (x ∷ rest) h = omega arith

  more_by : (fuel : ℕ) (a : A) (s : State) → first_is test s.left ≡ true → length s.left ≤ fuel → (n : ℕ) × (fuel ≡ suc n) × (turns_by fuel test turn a s ≡ and_then (turn a s) (turns_by n test turn))
  more_by zero a s h within = let there = one_left s.left h in absurd (omega arith)
  more_by (suc fuel) a s h within = (fuel, refl, rw h)

  pub going_more : {o : Outcome A} {a : A} {s : State} (b : A) (m : State) → Going test turn o a s → first_is test s.left ≡ true → turn a s ≡ Done b m → length m.left < length s.left → Going test turn o b m
  going_more {a = a} {s = s} b m g h read less =
      let next = more_by g.fuel a s h g.enough in
      record { fuel = next.0; enough = (let e = next.1 in let within = g.enough in omega arith); goes = g.goes ∙ next.2 ∙ ap (λ o. and_then o (turns_by next.0 test turn)) read }

  pub going_stops : {o : Outcome A} {a : A} {s : State} (fault : Fault) (left : List Token) → Going test turn o a s → first_is test s.left ≡ true → turn a s ≡ Stopped fault left → o ≡ Stopped fault left
  going_stops {a = a} {s = s} fault left g h read =
      let next = more_by g.fuel a s h g.enough in
      g.goes ∙ next.2 ∙ ap (λ o. and_then o (turns_by next.0 test turn)) read
