-- What all languages of the grammar keep: the end of a text stands in none of their words, and what is asked may be less.
use Rattle.std.proofs.Common.{◌≡◌, refl, ap, sym, ◌∙◌, ℕ, Bool, true, false, not, ◌&&◌, List, [], ◌∷◌, ◌++◌, Option, Some, append_assoc, inl, inr}
use Rattle.std.specs.List.{list_all}
use Rattle.ec_base.specs.declared.token.Span.{Span}
use Rattle.ec_base.specs.declared.token.Token.{Token}
use Rattle.ec_syntax.specs.declared.quantity.Quantity.{Quantity}
use Rattle.ec_syntax.specs.declared.quantity.Quantity.TheVariants.{Nesting}
use Rattle.ec_syntax.specs.Grammar.State.{State, Asked, Counts, AskedAll}
use Rattle.ec_syntax.specs.Grammar.Language.{Language, look, ◌>>=◌, ◌or◌, never, Turns, turns, maybe, part, function, kth, lacks, one, placed}
use Rattle.ec_syntax.specs.Grammar.Tokens.{is_end}

-- tokens of which none is the end of a text
abbrev pub no_end : List Token → Bool
no_end = list_all (λ x. not (is_end x))

-- what stands between two states
pub record Spent (s m : State) : Type 0 where
  pub word : List Token
  pub is : s.left ≡ word ++ m.left
  pub inner : no_end word ≡ true

nothing_spent : (s m : State) → m ≡ s → Spent s m
nothing_spent s m e = record { word = []; is = ap (λ z. z.left) (sym e); inner = refl }

no_end-append : (us vs : List Token) → no_end us ≡ true → no_end vs ≡ true → no_end (us ++ vs) ≡ true
no_end-append [] vs h k = k
no_end-append (x ∷ us) vs h k = by (is_end x) (λ g. no_end-append us vs g k) h
  where
    by : (b : Bool) → (no_end us ≡ true → no_end (us ++ vs) ≡ true) → (not b && no_end us) ≡ true →
        (not b && no_end (us ++ vs)) ≡ true
    by true f g = g
    by false f g = f g

both_spent : (s m l : State) → Spent s m → Spent m l → Spent s l
both_spent s m l h k = record {
  word = h.word ++ k.word;
  is = h.is ∙ ap (λ ts. h.word ++ ts) k.is ∙ sym (append_assoc h.word k.word l.left);
  inner = no_end-append h.word k.word h.inner k.inner;
}

-- what is asked by the one is enough for the other
abbrev pub Asks : Asked → Asked → Type 0
Asks asked other = (left : List Token) (q : Quantity) (count : ℕ) → asked left q count → other left q count

-- a language in whose words the end of a text doesn't stand, and of whose words less may be asked
pub record Inner {A : Type 0} (l : Language A) : Type 1 where
  pub spent : (asked : Asked) (s : State) (a : A) (m : State) → l asked s a m → Spent s m
  pub grown : (asked other : Asked) → Asks asked other → (s : State) (a : A) (m : State) → l asked s a m → l other s a m

pub inner_look : {A : Type 0} {f : State → A} → Inner (look f)
inner_look = record { spent = λ asked s a m h. nothing_spent s m h.1; grown = λ asked other e s a m h. h }

pub inner_bind : {A B : Type 0} {p : Language A} {f : A → Language B} → Inner p → ((a : A) → Inner (f a)) →
    Inner (p >>= f)
inner_bind h k = record {
  spent = λ asked s b m g. both_spent s g.1 m (h.spent asked s g.0 g.1 g.2) ((k g.0).spent asked g.1 b m g.3);
  grown = λ asked other e s b m g. (g.0, g.1, h.grown asked other e s g.0 g.1 g.2, (k g.0).grown asked other e g.1 b m g.3);
}

pub inner_or : {A : Type 0} {p q : Language A} → Inner p → Inner q → Inner (p or q)
inner_or {A} {p} {q} h k = record { spent = by; grown = grows }
  where
    by : (asked : Asked) (s : State) (a : A) (m : State) → (p or q) asked s a m → Spent s m
    by asked s a m (inl g) = h.spent asked s a m g
    by asked s a m (inr g) = k.spent asked s a m g

    grows : (asked other : Asked) → Asks asked other → (s : State) (a : A) (m : State) → (p or q) asked s a m →
        (p or q) other s a m
    grows asked other e s a m (inl g) = inl (h.grown asked other e s a m g)
    grows asked other e s a m (inr g) = inr (k.grown asked other e s a m g)

pub inner_never : {A : Type 0} → Inner (never {A = A})
inner_never = record { spent = λ asked s a m h. absurd h; grown = λ asked other e s a m h. h }

module _ {A : Type 0} {turn : A → Language A} (h : (a : A) → Inner (turn a)) where
  turns_spent : (asked : Asked) (s : State) (a b : A) (m : State) → Turns turn asked s a b m → Spent s m
  turns_spent asked s a b m Turns.over = nothing_spent s s refl
  turns_spent asked s a b m (Turns.more {m = k} {b = c} g rest) = both_spent s k m ((h a).spent asked s c k g) (turns_spent asked k c b m rest)

  turns_grown : (asked other : Asked) → Asks asked other → (s : State) (a b : A) (m : State) →
      Turns turn asked s a b m → Turns turn other s a b m
  turns_grown asked other e s a b m Turns.over = Turns.over
  turns_grown asked other e s a b m (Turns.more {m = k} {b = c} g rest) = Turns.more ((h a).grown asked other e s c k g) (turns_grown asked other e k c b m rest)

pub inner_turns : {A : Type 0} {turn : A → Language A} {a : A} → ((a : A) → Inner (turn a)) → Inner (turns turn a)
inner_turns {a = a} h = record { spent = λ asked s b m g. turns_spent h asked s a b m g; grown = λ asked other e s b m g. turns_grown h asked other e s a b m g }

pub inner_maybe : {A : Type 0} {p : Language A} → Inner p → Inner (maybe p)
inner_maybe h = inner_or (inner_bind h (λ a. inner_look)) inner_look

pub inner_part : {A : Type 0} {p : Language A} → Inner p → Inner (part p)
inner_part h = record {
  spent = λ asked s a m g. let k = h.spent asked (record s { marks = 0 }) a m g in record { word = k.word; is = k.is; inner = k.inner };
  grown = λ asked other e s a m g. h.grown asked other e (record s { marks = 0 }) a m g;
}

pub inner_function : {A : Type 0} {p : Language A} → Inner p → Inner (function p)
inner_function h = record {
  spent = λ asked s a m g. let k = h.spent asked (record s { variables = 0 }) a m g in record { word = k.word; is = k.is; inner = k.inner };
  grown = λ asked other e s a m g. h.grown asked other e (record s { variables = 0 }) a m g;
}

pub inner_kth : {A : Type 0} {q : Quantity} {n : ℕ} {p : Language A} → Inner p → Inner (kth q n p)
inner_kth {q = q} {n = n} h = record {
  spent = λ asked s a m g. h.spent asked s a m g.1;
  grown = λ asked other e s a m g. (e s.left q n g.0, h.grown asked other e s a m g.1);
}

pub inner_lacks : {test : Token → Bool} → Inner (lacks test)
inner_lacks = record { spent = λ asked s a m h. nothing_spent s m h.1; grown = λ asked other e s a m h. h }

asked_grown : (asked other : Asked) → Asks asked other → (left : List Token) (cs : Counts) → AskedAll asked left cs →
    AskedAll other left cs
asked_grown asked other e left [] h = h
asked_grown asked other e left (c ∷ cs) h = (e left c.0 c.1 h.0, asked_grown asked other e left cs h.1)

-- a token that isn't the end
abbrev pub Inside : {A : Type 0} → (Token → Option A) → Type 0
Inside {A} pick = (x : Token) (a : A) → pick x ≡ Some a → is_end x ≡ false

-- less asked at a token
pub one_grown : {A : Type 0} {d : ℕ} {pick : Token → Option A} {counts : State → A → Counts} {counted : State → State}
    (asked other : Asked) → Asks asked other →
    (s : State) (a : A) (m : State) → one d pick counts counted asked s a m → one d pick counts counted other s a m
one_grown {d = d} {counts = counts} asked other e s a m g = record {
  token = g.token;
  rest = g.rest;
  stands = g.stands;
  picked = g.picked;
  nested = e s.left Nesting d g.nested;
  within = asked_grown asked other e s.left (counts s a) g.within;
  next = g.next;
}

pub inner_one : {A : Type 0} {d : ℕ} {pick : Token → Option A} {counts : State → A → Counts} {counted : State → State} →
    Inside pick → Inner (one d pick counts counted)
inner_one h = record {
  spent = λ asked s a m g. record {
    word = g.token ∷ [];
    is = g.stands ∙ ap (λ z. g.token ∷ z.left) (sym g.next);
    inner = ap (λ b. not b && true) (h g.token a g.picked);
  };
  grown = one_grown;
}

pub inner_placed : {A B : Type 0} (make : A → Span → B) {p : Language A} → Inner p → Inner (placed make p)
inner_placed make h = inner_bind inner_look (λ from. inner_bind h (λ a. inner_bind inner_look (λ to. inner_look)))
