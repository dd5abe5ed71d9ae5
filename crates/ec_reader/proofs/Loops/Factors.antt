-- The loop that reads the count of a `malloc`.
use Rattle.std.proofs.Common.{◌≡◌, refl, ◌∙◌, ap, ℕ, zero, suc, ◌<◌, ◌&&◌, Bool, true, false, codes, length, arith}
use Rattle.std.specs.Prelude.{Err}
use Rattle.ec_base.specs.declared.fail.Fail.{Fail}
use Rattle.ec_base.specs.declared.fail.Fail.TheVariants.{Memory, Refused}
use Rattle.ec_reader.specs.Answers.{Told, ToldBy}
use Rattle.ec_syntax.specs.declared.expression.Expr.{Expr}
use Rattle.ec_syntax.specs.declared.expression.ExprKind.{ExprKind}
use Rattle.ec_syntax.specs.declared.quantity.Fault.{Fault}
use Rattle.ec_syntax.specs.Grammar.State.{State}
use Rattle.ec_syntax.specs.Grammar.Language.{first_is}
use Rattle.ec_syntax.specs.Grammar.Tokens.{is_word}
use Rattle.ec_syntax.specs.Grammar.Expressions.{joined}
use Rattle.ec_syntax.specs.Descent.Reader.{Reader, Outcome, and_then, give, ◌>>◌}
use Rattle.ec_syntax.specs.Descent.Reader.Outcome.{Done, Stopped}
use Rattle.ec_syntax.specs.Descent.Tokens.{operator, word}
use Rattle.ec_syntax.specs.Descent.Expressions.{factor, counted, count_by, count}
use Rattle.ec_reader.specs.Counting.{Counting}
use Rattle.ec_reader.specs.declared.operators.Infix.{Infix}
use Rattle.ec_reader.specs.Operators.{makes, of_factor}

-- ---- behind an operator

module _ (operand : Reader Expr) where
  pub counting_first : (a : Expr) (s m : State) → operand s ≡ Done a m → Counting operand (count operand s) a m
  counting_first a s m read = record { fuel = suc (length m.left); enough = omega arith; goes = rw read refl }

  -- one turn
  turn : (o : Outcome Expr) (a : Expr) (s : State) → (g : Counting operand o a s) → (n : ℕ) × (g.fuel ≡ suc n) × (o ≡ and_then (operator factor s) (counted operand (count_by n operand) a))
  turn o a s g = by_fuel g.fuel g.enough g.goes
    where
      by_fuel : (fuel : ℕ) → length s.left < fuel → o ≡ count_by fuel operand a s → (n : ℕ) × (fuel ≡ suc n) × (o ≡ and_then (operator factor s) (counted operand (count_by n operand) a))
      by_fuel zero h goes = absurd (omega arith)
      by_fuel (suc n) h goes = (n, refl, goes)

  -- behind the operator, `sizeof`
  sized : (a : Expr) (next : Expr → Reader Expr) (star : Bool) (make : Expr → Expr → ExprKind) (m : State) → (star && first_is (is_word (codes "sizeof")) m.left) ≡ true → counted operand next a (star, make) m ≡ (word (codes "sizeof") >> give a) m
  sized a next true make m h = rw h refl
  sized a next false make m h = absurd (cc)

  -- behind the operator, another factor
  further : (a : Expr) (next : Expr → Reader Expr) (star : Bool) (make : Expr → Expr → ExprKind) (m : State) → (star && first_is (is_word (codes "sizeof")) m.left) ≡ false → counted operand next a (star, make) m ≡ and_then (operand m) (λ b. next (joined make a b))
  further a next true make m h = rw h refl
  further a next false make m h = refl

  module _ {o : Outcome Expr} {a : Expr} {s : State} where
    pub counting_stops : (fault : Fault) (m : State) → Counting operand o a s → operator factor s ≡ Stopped fault m.left → o ≡ Stopped fault m.left
    counting_stops fault m g read =
        let t = turn o a s g in
        t.2 ∙ ap (λ p. and_then p (counted operand (count_by t.0 operand) a)) read

    pub counting_size : (star : Bool) (op : Infix) (m : State) → Counting operand o a s → operator factor s ≡ Done (of_factor (star, op)) m → (star && first_is (is_word (codes "sizeof")) m.left) ≡ true → o ≡ (word (codes "sizeof") >> give a) m
    counting_size star op m g read h =
        let t = turn o a s g in
        t.2 ∙ ap (λ p. and_then p (counted operand (count_by t.0 operand) a)) read ∙ sized a (count_by t.0 operand) star (makes op) m h

    pub counting_operand : (star : Bool) (op : Infix) (m : State) (fault : Fault) (n : State) → Counting operand o a s → operator factor s ≡ Done (of_factor (star, op)) m → (star && first_is (is_word (codes "sizeof")) m.left) ≡ false → operand m ≡ Stopped fault n.left → o ≡ Stopped fault n.left
    counting_operand star op m fault n g read h stops =
        let t = turn o a s g in
        t.2 ∙ ap (λ p. and_then p (counted operand (count_by t.0 operand) a)) read ∙ further a (count_by t.0 operand) star (makes op) m h
        ∙ ap (λ p. and_then p (λ b. count_by t.0 operand (joined (makes op) a b))) stops

    pub counting_more : (star : Bool) (op : Infix) (m : State) (b : Expr) (n : State) → Counting operand o a s → operator factor s ≡ Done (of_factor (star, op)) m → (star && first_is (is_word (codes "sizeof")) m.left) ≡ false → operand m ≡ Done b n → length n.left < length s.left → Counting operand o (joined (makes op) a b) n
    counting_more star op m b n g read h goes less =
        let t = turn o a s g in
        record {
          fuel = t.0;
          enough = (let e = t.1 in let within = g.enough in omega arith);
          goes =
              t.2 ∙ ap (λ p. and_then p (counted operand (count_by t.0 operand) a)) read ∙ further a (count_by t.0 operand) star (makes op) m h
              ∙ ap (λ p. and_then p (λ b. count_by t.0 operand (joined (makes op) a b))) goes;
        }

    -- the same, as answers
    pub told_factor : (e : Fail Fault) (m : State) → Counting operand o a s → ToldBy of_factor (operator factor s) (Err e) m → Told o (Err e) m
    told_factor Memory m g told = tt
    told_factor (Refused fault) m g told = counting_stops fault m g told

    pub told_size : (star : Bool) (op : Infix) (m : State) (u : Unit {0}) (n : State) → Counting operand o a s → operator factor s ≡ Done (of_factor (star, op)) m → (star && first_is (is_word (codes "sizeof")) m.left) ≡ true → word (codes "sizeof") m ≡ Done u n → o ≡ Done a n
    told_size star op m u n g read h size = counting_size star op m g read h ∙ ap (λ p. and_then p (λ x. give a)) size

    pub told_operand : (star : Bool) (op : Infix) (m : State) (e : Fail Fault) (n : State) → Counting operand o a s → operator factor s ≡ Done (of_factor (star, op)) m → (star && first_is (is_word (codes "sizeof")) m.left) ≡ false → Told (operand m) (Err e) n → Told o (Err e) n
    told_operand star op m Memory n g read h told = tt
    told_operand star op m (Refused fault) n g read h told = counting_operand star op m fault n g read h told
