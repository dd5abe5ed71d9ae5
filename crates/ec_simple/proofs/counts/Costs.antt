-- What a value weighs, where a token that was read pays for each unit: a rule for each way to put languages together.
use Rattle.std.proofs.Common.{◌≡◌, sym, ◌∙◌, ap, subst, inl, inr, ℕ, suc, ◌+◌, ◌≤◌, length, Option, arith}
use Rattle.ec_base.specs.declared.token.Mark.{Mark}
use Rattle.ec_base.specs.declared.token.Mark.TheVariants as m
use Rattle.ec_base.specs.declared.token.Span.{Span}
use Rattle.ec_base.specs.declared.token.Token.{Token}
use Rattle.ec_syntax.specs.declared.quantity.Quantity.{Quantity}
use Rattle.ec_syntax.specs.Grammar.Expressions as E
use Rattle.ec_syntax.specs.Grammar.Language as L
use Rattle.ec_syntax.specs.Grammar.Language.{Language, Turns, span}
use Rattle.ec_syntax.specs.Grammar.State.{State, Counts, limit, limits}
use Rattle.ec_syntax.specs.Grammar.Statements as S
use Rattle.ec_syntax.specs.Grammar.Tokens as T
use Rattle.ec_simple.proofs.counts.Steady.{Steady, token_read}
use Rattle.ec_simple.proofs.counts.Grammar.{mark_steady, sign_steady}

-- What is read behind so much weight makes a value of which this holds, and weighs no more with the tokens left.
pub record Costs {A : Type 0} (l : Language A) (before : ℕ) (weight : A → ℕ) (Holds : A → Type 0) : Type 0 where
  pub each : (s : State) (a : A) (m : State) → l limits s a m →
      Holds a × (weight a + length m.left ≤ before + length s.left)

-- ---- rules

pub steady_costs : {A : Type 0} {l : Language A} → Steady l → (w : ℕ) → Costs l w (λ _. w) (λ _. Unit {0})
steady_costs k w = record {
  each = λ s a m r. let h : length m.left ≤ length s.left = (k.each s a m r).shorter in (tt, omega (arith, h));
}

pub given_costs :
    {A : Type 0} {a : A} {w : ℕ} {v : A → ℕ} {H : A → Type 0} → v a ≤ w → H a → Costs (L.give a) w v H
given_costs {A} {a} {w} {v} {H} e h = record {
  each = λ s b m r.
      let weighs : v b ≡ v a = ap v r.0 in
      let left : length m.left ≡ length s.left = ap (λ z. length z.left) r.1 in
      (subst H (sym r.0) h, omega (arith, e, weighs, left));
}

-- a token that pays
pub token_costs :
    {A : Type 0} {d : ℕ} {pick : Token → Option A} {counts : State → A → Counts} {counted : State → State} (w : ℕ) →
    Costs (L.one d pick counts counted) w (λ _. suc w) (λ _. Unit {0})
token_costs w = record {
  each = λ s a m r.
      let h : suc (length m.left) ≡ length s.left = (token_read s a m r).shorter in
      (tt, omega (arith, h));
}

pub then_costs :
    {A B : Type 0} {p : Language A} {q : A → Language B} {w : ℕ} {v : A → ℕ} {H : A → Type 0} {u : B → ℕ}
    {K : B → Type 0} →
    Costs p w v H → ((a : A) → H a → Costs (q a) (v a) u K) → Costs (L.◌>>=◌ p q) w u K
then_costs h k = record {
  each = λ s b n r.
      let one = h.each s r.0 r.1 r.2 in
      let other = (k r.0 one.0).each r.1 b n r.3 in
      (other.0, omega (arith, one.1, other.1));
}

pub either_costs :
    {A : Type 0} {p q : Language A} {w : ℕ} {v : A → ℕ} {H : A → Type 0} → Costs p w v H → Costs q w v H →
    Costs (L.◌or◌ p q) w v H
either_costs {A} {p} {q} {w} {v} {H} h k = record { each = by }
  where
    by : (s : State) (a : A) (m : State) → L.◌or◌ p q limits s a m → H a × (v a + length m.left ≤ w + length s.left)
    by s a m (inl r) = h.each s a m r
    by s a m (inr r) = k.each s a m r

pub never_costs : {A : Type 0} {w : ℕ} {v : A → ℕ} {H : A → Type 0} → Costs L.never w v H
never_costs = record { each = λ s a m r. absurd r }

module _ {A : Type 0} {turn : A → Language A} {v : A → ℕ} {H : A → Type 0}
    (h : (a : A) → H a → Costs (turn a) (v a) v H) where
  each_turn : (s : State) (a c : A) (n : State) → Turns turn limits s a c n → H a →
      H c × (v c + length n.left ≤ v a + length s.left)
  each_turn s a c n Turns.over k = (k, omega arith)
  each_turn s a c n (Turns.more {m = m} {b = b} r rs) k =
      let one = (h a k).each s b m r in
      let rest = each_turn m b c n rs one.0 in
      (rest.0, omega (arith, one.1, rest.1))

  pub turns_cost : {a : A} {w : ℕ} → H a → v a ≤ w → Costs (L.turns turn a) w v H
  turns_cost {a} {w} k e = record {
    each = λ s c n r. let x = each_turn s a c n r k in (x.0, omega (arith, x.1, e));
  }

pub part_costs :
    {A : Type 0} {p : Language A} {w : ℕ} {v : A → ℕ} {H : A → Type 0} → Costs p w v H → Costs (L.part p) w v H
part_costs h = record { each = λ s a m r. h.each (record s { marks = 0 }) a m r }

pub kth_costs :
    {A : Type 0} {p : Language A} {w : ℕ} {v : A → ℕ} {H : A → Type 0} (q : Quantity) (k : ℕ) → Costs p w v H →
    Costs (L.kth q k p) w v (λ a. (k ≤ limit q) × H a)
kth_costs q k h = record { each = λ s a m r. let x = h.each s a m r.1 in ((r.0, x.0), x.1) }

-- a value at its place, whichever that is
pub placed_costs :
    {A B : Type 0} {p : Language A} (make : A → Span → B) {w : ℕ} {v : Span → A → ℕ} {H : Span → A → Type 0}
    {u : B → ℕ} {K : B → Type 0} →
    ((at : Span) → Costs p w (v at) (H at)) →
    ((a : A) (at : Span) → H at a → (u (make a at) ≤ v at a) × K (make a at)) → Costs (L.placed make p) w u K
placed_costs {A} {B} {p} make {w} {v} {H} {u} {K} h k = record { each = by }
  where
    by : (s : State) (b : B) (n : State) → L.placed make p limits s b n →
        K b × (u b + length n.left ≤ w + length s.left)
    by s b n (from, s₁, (e₁, e₂), (a, m, r, (to, m₁, (e₃, e₄), (e₅, e₆)))) =
        let at = span from to in
        let one = (h at).each s a m (subst (λ z. p limits z a m) e₂ r) in
        let two = k a at one.0 in
        let weighs : u b ≡ u (make a at) = ap u e₅ in
        let left : length n.left ≡ length m.left = ap (λ z. length z.left) (e₆ ∙ e₄) in
        (subst K (sym e₅) two.1, omega (arith, one.1, two.0, weighs, left))

-- what is made of a value
pub made_costs :
    {A B : Type 0} {p : Language A} (make : A → B) {w : ℕ} {v : A → ℕ} {H : A → Type 0} {u : B → ℕ} {K : B → Type 0} →
    Costs p w v H → ((a : A) → H a → (u (make a) ≤ v a) × K (make a)) →
    Costs (L.◌>>=◌ p (λ a. L.give (make a))) w u K
made_costs make h k = then_costs h (λ a x. given_costs (k a x).0 (k a x).1)

-- before a token that pays nothing
pub before_mark :
    {A : Type 0} {p : Language A} {w : ℕ} {v : A → ℕ} {H : A → Type 0} (d : ℕ) (k : Mark) → Costs p w v H →
    Costs (L.◌>>=◌ p (λ a. L.◌>>◌ (T.mark d k) (L.give a))) w v H
before_mark {v = v} d k h =
    then_costs h (λ a x. then_costs (steady_costs (mark_steady d k) (v a)) (λ _ _. given_costs (omega arith) x))

pub bracketed_costs :
    {A : Type 0} {p : Language A} {w : ℕ} {v : A → ℕ} {H : A → Type 0} (d : ℕ) → Costs p w v H →
    Costs (E.bracketed d p) w v H
bracketed_costs {w = w} {v = v} d h =
    then_costs (steady_costs (sign_steady d m.OpenParen) w) (λ _ _. then_costs h (λ a x.
    then_costs (steady_costs (sign_steady (suc d) m.CloseParen) (v a)) (λ _ _. given_costs (omega arith) x)))

pub header_costs :
    {A : Type 0} {p : Language A} {w : ℕ} {v : A → ℕ} {H : A → Type 0} (d : ℕ) → Costs p w v H →
    Costs (S.header d p) w v H
header_costs {w = w} d h =
    then_costs (steady_costs (mark_steady d m.OpenParen) w) (λ _ _. before_mark (suc d) m.CloseParen h)
