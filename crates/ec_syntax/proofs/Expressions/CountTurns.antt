-- Factors of a count are read in as many turns as there are.
use Rattle.std.proofs.Common.{◌≡◌, refl, ◌⊎◌, inl, inr, ◌<◌, ℕ, Bool, true, false, List, [], ◌∷◌, length, codes, Option, Some, None, arith, if◌then◌else◌}
use Rattle.ec_base.specs.declared.token.Mark.TheVariants as m
use Rattle.ec_base.specs.declared.token.Token.{Token}
use Rattle.ec_syntax.specs.declared.expression.Expr.{Expr}
use Rattle.ec_syntax.specs.Grammar.State.{State, Asked}
use Rattle.ec_syntax.specs.declared.quantity.Quantity.{Quantity}
use Rattle.ec_syntax.specs.Grammar.Language as L
use Rattle.ec_syntax.specs.Grammar.Language.{Language, first_is}
use Rattle.ec_syntax.specs.Descent.Reader as R
use Rattle.ec_syntax.specs.Descent.Reader.{Reader, Outcome}
use Rattle.ec_syntax.specs.Descent.Reader.Outcome.{Done, Stopped}
use Rattle.ec_syntax.specs.Grammar.Tokens as T
use Rattle.ec_syntax.specs.Grammar.Tokens.{is_mark, is_word, next_mark, with_mark}
use Rattle.ec_syntax.specs.Grammar.Expressions.{of_mark, at_level, joined}
use Rattle.ec_syntax.specs.Descent.Tokens as RT
use Rattle.ec_syntax.specs.Descent.Tokens.{begins_expr}
use Rattle.ec_syntax.specs.Descent.Expressions as RE
use Rattle.ec_syntax.specs.Descent.Expressions.{starred, factor}
use Rattle.ec_syntax.proofs.Lookahead.FirstTokens.{Into}
use Rattle.ec_syntax.proofs.Expressions.CountFactors.{Join, star, other, where_so, where_not, read_count}

-- ---- the language

-- factors behind the first, up to `sizeof`
pub data Counting (d : ℕ) (l : Language Expr) (asked : Asked) : State → Expr → Expr → State → Type 0 where
  last : {s m s' : State} {a c : Expr} {make : Join} → T.operator d star asked s make m →
      L.◌>>◌ (T.word d (codes "sizeof")) (L.give a) asked m c s' → Counting d l asked s a c s'
  more : {s m m' s' : State} {a b c : Expr} {make : Join} → T.operator d (of_mark (at_level 0)) asked s make m →
      l asked m b m' → Counting d l asked m' (joined make a b) c s' → Counting d l asked s a c s'

abbrev pub counting : ℕ → Language Expr → Expr → Language Expr
counting d l a asked s c s' = Counting d l asked s a c s'

-- ---- operators of the closest level, and `*` among them

so_some : {make : Join} (b : Bool) (o : Option Join) → where_so b o ≡ Some make → o ≡ Some make
so_some true o h = h
so_some false None h = h
so_some false (Some other) h = cc

not_some : {make : Join} (b : Bool) (o : Option Join) → where_not b o ≡ Some make → o ≡ Some make
not_some true None h = h
not_some true (Some other) h = cc
not_some false o h = h

some_either : {make : Join} (b : Bool) (o : Option Join) → o ≡ Some make →
    (where_so b o ≡ Some make) ⊎ (where_not b o ≡ Some make)
some_either true o h = inl h
some_either false o h = inr h

pub star_in : (d : ℕ) → Into (T.operator d star) (T.operator d (of_mark (at_level 0)))
star_in d asked s make n h = record { token = h.token; rest = h.rest; stands = h.stands; picked = so_some (is_mark m.Star h.token) _ h.picked; nested = h.nested; within = h.within; next = h.next }

pub other_in : (d : ℕ) → Into (T.operator d other) (T.operator d (of_mark (at_level 0)))
other_in d asked s make n h = record { token = h.token; rest = h.rest; stands = h.stands; picked = not_some (is_mark m.Star h.token) _ h.picked; nested = h.nested; within = h.within; next = h.next }

pub star_or_other : (d : ℕ) (asked : Asked) (s : State) (make : Join) (m : State) →
    T.operator d (of_mark (at_level 0)) asked s make m →
    T.operator d star asked s make m ⊎ T.operator d other asked s make m
star_or_other d asked s make n h = by (some_either (is_mark m.Star h.token) (of_mark (at_level 0) h.token) h.picked)
  where
    by : (star h.token ≡ Some make) ⊎ (other h.token ≡ Some make) →
        T.operator d star asked s make n ⊎ T.operator d other asked s make n
    by (inl e) = inl (record { token = h.token; rest = h.rest; stands = h.stands; picked = e; nested = h.nested; within = h.within; next = h.next })
    by (inr e) = inr (record { token = h.token; rest = h.rest; stands = h.stands; picked = e; nested = h.nested; within = h.within; next = h.next })

-- an operator is a token
pub operator_takes : (d : ℕ) (asked : Asked) (s : State) (make : Join) (m : State) →
    T.operator d (of_mark (at_level 0)) asked s make m → length m.left < length s.left
operator_takes d asked s make m h = rw (h.stands, h.next) (omega arith)

-- ---- what is read is told by the next token

module _ (p : Reader Expr) (next : Expr → Reader Expr) (a : Expr) where
  behind_star : Join → Reader Expr
  behind_star make = R.when (is_word (codes "sizeof")) (R.◌>>◌ (RT.word (codes "sizeof")) (R.give a)) (R.◌>>=◌ p (λ b. next (joined make a b)))

  behind_other : Join → Reader Expr
  behind_other make = R.◌>>=◌ p (λ b. next (joined make a b))

  counted_star : (s : State) (x : Token) (rest : List Token) (make : Join) (q : Option Quantity) →
      R.and_then (R.counting with_mark s x rest make q) behind_star
      ≡ R.and_then (R.counting with_mark s x rest (true, make) q) (RE.counted p next a)
  unfolding behind_star
  counted_star s x rest make None = refl
  counted_star s x rest make (Some q) = refl

  counted_other : (s : State) (x : Token) (rest : List Token) (make : Join) (q : Option Quantity) →
      R.and_then (R.counting with_mark s x rest make q) behind_other
      ≡ R.and_then (R.counting with_mark s x rest (false, make) q) (RE.counted p next a)
  unfolding behind_other
  counted_other s x rest make None = refl
  counted_other s x rest make (Some q) = refl

  picked : (s : State) (x : Token) (rest : List Token) (b : Bool) (o : Option Join) →
      (if b then R.and_then (R.picking next_mark with_mark s x rest (where_so b o)) behind_star else R.and_then
      (R.picking next_mark with_mark s x rest (where_not b o)) behind_other)
      ≡ R.and_then (R.picking next_mark with_mark s x rest (starred b o)) (RE.counted p next a)
  picked s x rest true None = refl
  picked s x rest true (Some make) = counted_star s x rest make (R.excess (next_mark s make))
  picked s x rest false None = refl
  picked s x rest false (Some make) = counted_other s x rest make (R.excess (next_mark s make))

  fronts : (s : State) (ts : List Token) →
      (if first_is (is_mark m.Star) ts then R.and_then (R.at_front star next_mark with_mark s ts) behind_star else
      R.and_then (R.at_front other next_mark with_mark s ts) behind_other)
      ≡ R.and_then (R.at_front factor next_mark with_mark s ts) (RE.counted p next a)
  fronts s [] = refl
  fronts s (x ∷ rest) = picked s x rest (is_mark m.Star x) (of_mark (at_level 0) x)

  pub read_same : (s : State) → read_count p next a s ≡ R.◌>>=◌ (RT.operator factor) (RE.counted p next a) s
  unfolding behind_star behind_other
  read_same s = fronts s s.left
