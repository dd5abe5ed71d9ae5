-- What rules of the grammar keep: no more tokens are left than there were, a text can give those that are left if it
-- can give all, and no struct is counted.
use Rattle.std.proofs.Common.{◌≡◌, refl, sym, ◌∙◌, ap, subst, inl, inr, ℕ, suc, ◌≤◌, Bool, true, List, map, length, Option, arith}
use Rattle.std.proofs.lemmas.Bool.{and_parts}
use Rattle.std.specs.List.{list_all}
use Rattle.ec_base.specs.Lexical.{is_lexical}
use Rattle.ec_base.specs.declared.token.Span.{Span}
use Rattle.ec_base.specs.declared.token.Token.{Token}
use Rattle.ec_syntax.specs.declared.quantity.Quantity.{Quantity}
use Rattle.ec_syntax.specs.Grammar.State.{State, Counts, limits}
use Rattle.ec_syntax.specs.Grammar.Language as L
use Rattle.ec_syntax.specs.Grammar.Language.{Language, Turns}

abbrev pub are_lexical : List Token → Bool
are_lexical ts = list_all is_lexical (map (λ x. x.kind) ts)

-- what stands between two states
pub record Less (s m : State) : Type 0 where
  pub shorter : length m.left ≤ length s.left
  pub lexical : are_lexical s.left ≡ true → are_lexical m.left ≡ true
  pub structs : m.structs ≡ s.structs

pub unchanged : (s m : State) → m ≡ s → Less s m
unchanged s m e =
    subst (λ z. Less s z) (sym e) (record { shorter = omega arith; lexical = λ h. h; structs = refl })

pub both_less : (s m n : State) → Less s m → Less m n → Less s n
both_less s m n h k = record {
  shorter = omega (arith, h.shorter, k.shorter);
  lexical = λ x. k.lexical (h.lexical x);
  structs = k.structs ∙ h.structs;
}

-- one token
pub record OneRead (s m : State) (x : Token) : Type 0 where
  pub shorter : suc (length m.left) ≡ length s.left
  pub token : are_lexical s.left ≡ true → is_lexical x.kind ≡ true
  pub lexical : are_lexical s.left ≡ true → are_lexical m.left ≡ true

pub token_read :
    {A : Type 0} {d : ℕ} {pick : Token → Option A} {counts : State → A → Counts} {counted : State → State} →
    (s : State) (a : A) (m : State) → (g : L.one d pick counts counted limits s a m) → OneRead s m g.token
token_read s a m g =
    let e : m.left ≡ g.rest = ap (λ z. z.left) g.next in
    let n : length m.left ≡ length g.rest = ap length e in
    let k : length s.left ≡ suc (length g.rest) = ap length g.stands in
    let parts = λ (h : are_lexical s.left ≡ true).
    and_parts (is_lexical g.token.kind) (are_lexical g.rest) (sym (ap are_lexical g.stands) ∙ h) in
    record {
      shorter = omega (arith, n, k);
      token = λ h. (parts h).0;
      lexical = λ h. subst (λ ts. are_lexical ts ≡ true) (sym e) (parts h).1;
    }

-- ---- rules

pub record Steady {A : Type 0} (l : Language A) : Type 0 where
  pub each : (s : State) (a : A) (m : State) → l limits s a m → Less s m

pub steady_look : {A : Type 0} {f : State → A} → Steady (L.look f)
steady_look = record { each = λ s a m h. unchanged s m h.1 }

pub steady_bind :
    {A B : Type 0} {p : Language A} {f : A → Language B} → Steady p → ((a : A) → Steady (f a)) →
    Steady (L.◌>>=◌ p f)
steady_bind h k = record {
  each = λ s b m g. both_less s g.1 m (h.each s g.0 g.1 g.2) ((k g.0).each g.1 b m g.3);
}

pub steady_or : {A : Type 0} {p q : Language A} → Steady p → Steady q → Steady (L.◌or◌ p q)
steady_or {A} {p} {q} h k = record { each = by }
  where
    by : (s : State) (a : A) (m : State) → L.◌or◌ p q limits s a m → Less s m
    by s a m (inl g) = h.each s a m g
    by s a m (inr g) = k.each s a m g

pub steady_never : {A : Type 0} → Steady (L.never {A = A})
steady_never = record { each = λ s a m h. absurd h }

module _ {A : Type 0} {turn : A → Language A} (h : (a : A) → Steady (turn a)) where
  turns_less : (s : State) (a b : A) (m : State) → Turns turn limits s a b m → Less s m
  turns_less s a b m Turns.over = unchanged s s refl
  turns_less s a b m (Turns.more {m = k} {b = c} g rest) =
      both_less s k m ((h a).each s c k g) (turns_less k c b m rest)

pub steady_turns : {A : Type 0} {turn : A → Language A} {a : A} → ((a : A) → Steady (turn a)) → Steady (L.turns turn a)
steady_turns {a = a} h = record { each = λ s b m g. turns_less h s a b m g }

pub steady_maybe : {A : Type 0} {p : Language A} → Steady p → Steady (L.maybe p)
steady_maybe h = steady_or (steady_bind h (λ a. steady_look)) steady_look

-- from a state of other counts on
less_from :
    (s k m : State) → s.left ≡ k.left → s.structs ≡ k.structs → Less k m → Less s m
less_from s k m e f h =
    let n : length s.left ≡ length k.left = ap length e in
    record {
      shorter = omega (arith, n, h.shorter);
      lexical = λ x. h.lexical (sym (ap are_lexical e) ∙ x);
      structs = h.structs ∙ sym f;
    }

pub steady_part : {A : Type 0} {p : Language A} → Steady p → Steady (L.part p)
steady_part h = record {
  each = λ s a m g. let k : State = record s { marks = 0 } in less_from s k m refl refl (h.each k a m g);
}

pub steady_kth : {A : Type 0} {q : Quantity} {n : ℕ} {p : Language A} → Steady p → Steady (L.kth q n p)
steady_kth h = record { each = λ s a m g. h.each s a m g.1 }

pub steady_lacks : {test : Token → Bool} → Steady (L.lacks test)
steady_lacks = record { each = λ s a m h. unchanged s m h.1 }

pub steady_one :
    {A : Type 0} {d : ℕ} {pick : Token → Option A} {counts : State → A → Counts} {counted : State → State} →
    ((s : State) → (counted s).structs ≡ s.structs) → Steady (L.one d pick counts counted)
steady_one h = record {
  each = λ s a m g.
      let k = token_read s a m g in
      record { shorter = omega (arith, k.shorter); lexical = k.lexical; structs = ap (λ z. z.structs) g.next ∙ h s };
}

pub steady_placed : {A B : Type 0} (make : A → Span → B) {p : Language A} → Steady p → Steady (L.placed make p)
steady_placed make h =
    steady_bind steady_look (λ from. steady_bind h (λ a. steady_bind steady_look (λ to. steady_look)))
