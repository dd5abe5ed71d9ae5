-- Languages ask at the tokens of their words and nowhere else, and most of them never ask how many structs there are.
use Rattle.std.proofs.Common.{◌≡◌, ◌≤◌, refl, ap, ℕ, suc, Bool, false, List, [], ◌∷◌, length, Option, inl, inr, le_refl, arith}
use Rattle.ec_base.specs.declared.token.Span.{Span}
use Rattle.ec_base.specs.declared.token.Token.{Token}
use Rattle.ec_syntax.specs.declared.quantity.Fault.TheVariants.{Passes}
use Rattle.ec_syntax.specs.declared.quantity.Quantity.{Quantity}
use Rattle.ec_syntax.specs.declared.quantity.Quantity.TheVariants.{Nesting, Arguments, Branches}
use Rattle.ec_syntax.specs.Grammar.State.{State, Asked, Counts, AskedAll}
use Rattle.ec_syntax.specs.Grammar.Language.{Language, look, ◌>>=◌, ◌or◌, never, Turns, turns, maybe, part, function, kth, lacks, one, placed}
use Rattle.ec_reader.specs.Refusals.{is_told_before}

-- a quantity that is told at the token itself, or any where structs are counted
abbrev pub Counted : Bool → Quantity → Type 0
Counted structs q = structs ≡ false → is_told_before (Passes q) ≡ false

-- what the one asks of these quantities is enough for the other, while so many tokens are left or fewer, down to so many
abbrev pub AsksWithin : Bool → ℕ → ℕ → Asked → Asked → Type 0
AsksWithin structs from to asked other =
    (left : List Token) (q : Quantity) (count : ℕ) → Counted structs q → length left ≤ from → to ≤ length left → asked left q count → other left q count

-- what is asked of a word is asked at its tokens
pub record Local (structs : Bool) {A : Type 0} (l : Language A) : Type 1 where
  pub shorter : (asked : Asked) (s : State) (a : A) (m : State) → l asked s a m → length m.left ≤ length s.left
  pub moved : (asked other : Asked) (s : State) (a : A) (m : State) → AsksWithin structs (length s.left) (length m.left) asked other → l asked s a m → l other s a m

-- ---- rules

narrowed : (structs : Bool) (from to high low : ℕ) (asked other : Asked) → high ≤ from → to ≤ low → AsksWithin structs from to asked other → AsksWithin structs high low asked other
narrowed structs from to high low asked other h k e left q count counted below above g = e left q count counted (omega arith) (omega arith) g

pub local_look : {structs : Bool} {A : Type 0} {f : State → A} → Local structs (look f)
local_look = record { shorter = λ asked s a m h. omega (arith, ap (λ z. length z.left) h.1); moved = λ asked other s a m e h. h }

pub local_bind : {structs : Bool} {A B : Type 0} {p : Language A} {f : A → Language B} → Local structs p → ((a : A) → Local structs (f a)) → Local structs (p >>= f)
local_bind {structs = structs} h k = record {
  shorter = λ asked s b m g. omega (arith, h.shorter asked s g.0 g.1 g.2, (k g.0).shorter asked g.1 b m g.3);
  moved = λ asked other s b m e g.
      let first = h.shorter asked s g.0 g.1 g.2 in
      let second = (k g.0).shorter asked g.1 b m g.3 in (
        g.0,
        g.1,
        h.moved asked other s g.0 g.1 (narrowed structs (length s.left) (length m.left) (length s.left) (length g.1.left) asked other (le_refl _) second e) g.2,
        (k g.0).moved asked other g.1 b m (narrowed structs (length s.left) (length m.left) (length g.1.left) (length m.left) asked other first (le_refl _) e) g.3,
      );
}

pub local_or : {structs : Bool} {A : Type 0} {p q : Language A} → Local structs p → Local structs q → Local structs (p or q)
local_or {structs} {A} {p} {q} h k = record { shorter = by; moved = moves }
  where
    by : (asked : Asked) (s : State) (a : A) (m : State) → (p or q) asked s a m → length m.left ≤ length s.left
    by asked s a m (inl g) = h.shorter asked s a m g
    by asked s a m (inr g) = k.shorter asked s a m g

    moves : (asked other : Asked) (s : State) (a : A) (m : State) → AsksWithin structs (length s.left) (length m.left) asked other → (p or q) asked s a m → (p or q) other s a m
    moves asked other s a m e (inl g) = inl (h.moved asked other s a m e g)
    moves asked other s a m e (inr g) = inr (k.moved asked other s a m e g)

pub local_never : {structs : Bool} {A : Type 0} → Local structs (never {A = A})
local_never = record { shorter = λ asked s a m h. absurd h; moved = λ asked other s a m e h. h }

module _ (structs : Bool) {A : Type 0} {turn : A → Language A} (h : (a : A) → Local structs (turn a)) where
  turns_shorter : (asked : Asked) (s : State) (a b : A) (m : State) → Turns turn asked s a b m → length m.left ≤ length s.left
  turns_shorter asked s a b m Turns.over = le_refl _
  turns_shorter asked s a b m (Turns.more {m = k} {b = c} g rest) = omega (arith, (h a).shorter asked s c k g, turns_shorter asked k c b m rest)

  turns_moved : (asked other : Asked) (s : State) (a b : A) (m : State) → AsksWithin structs (length s.left) (length m.left) asked other → Turns turn asked s a b m → Turns turn other s a b m
  turns_moved asked other s a b m e Turns.over = Turns.over
  turns_moved asked other s a b m e (Turns.more {m = k} {b = c} g rest) =
      let first = (h a).shorter asked s c k g in
      let second = turns_shorter asked k c b m rest in
      Turns.more ((h a).moved asked other s c k (narrowed structs (length s.left) (length m.left) (length s.left) (length k.left) asked other (le_refl _) second e) g)
      (turns_moved asked other k c b m (narrowed structs (length s.left) (length m.left) (length k.left) (length m.left) asked other first (le_refl _) e) rest)

pub local_turns : {structs : Bool} {A : Type 0} {turn : A → Language A} {a : A} → ((a : A) → Local structs (turn a)) → Local structs (turns turn a)
local_turns {structs = structs} {a = a} h =
    record { shorter = λ asked s b m g. turns_shorter structs h asked s a b m g; moved = λ asked other s b m e g. turns_moved structs h asked other s a b m e g }

pub local_maybe : {structs : Bool} {A : Type 0} {p : Language A} → Local structs p → Local structs (maybe p)
local_maybe h = local_or (local_bind h (λ a. local_look)) local_look

pub local_part : {structs : Bool} {A : Type 0} {p : Language A} → Local structs p → Local structs (part p)
local_part h = record {
  shorter = λ asked s a m g. h.shorter asked (record s { marks = 0 }) a m g;
  moved = λ asked other s a m e g. h.moved asked other (record s { marks = 0 }) a m e g;
}

pub local_function : {structs : Bool} {A : Type 0} {p : Language A} → Local structs p → Local structs (function p)
local_function h = record {
  shorter = λ asked s a m g. h.shorter asked (record s { variables = 0 }) a m g;
  moved = λ asked other s a m e g. h.moved asked other (record s { variables = 0 }) a m e g;
}

local_kth : {structs : Bool} {A : Type 0} {q : Quantity} {n : ℕ} {p : Language A} → Counted structs q → Local structs p → Local structs (kth q n p)
local_kth {q = q} {n = n} counted h = record {
  shorter = λ asked s a m g. h.shorter asked s a m g.1;
  moved = λ asked other s a m e g. (e s.left q n counted (le_refl _) (h.shorter asked s a m g.1) g.0, h.moved asked other s a m e g.1);
}

pub local_argument : {structs : Bool} {A : Type 0} {n : ℕ} {p : Language A} → Local structs p → Local structs (kth Arguments n p)
local_argument h = local_kth (λ e. refl) h

pub local_branch : {structs : Bool} {A : Type 0} {n : ℕ} {p : Language A} → Local structs p → Local structs (kth Branches n p)
local_branch h = local_kth (λ e. refl) h

pub local_lacks : {structs : Bool} {test : Token → Bool} → Local structs (lacks test)
local_lacks = record { shorter = λ asked s a m h. omega (arith, ap (λ z. length z.left) h.1); moved = λ asked other s a m e h. h }

-- ---- tokens

-- all of these are quantities that are counted
abbrev pub AllCounted : Bool → Counts → Type 0
AllCounted structs [] = Unit {0}
AllCounted structs (c ∷ cs) = Counted structs c.0 × AllCounted structs cs

asked_moved : (structs : Bool) (asked other : Asked) (left : List Token) (cs : Counts) → ((q : Quantity) (count : ℕ) → Counted structs q → asked left q count → other left q count) →
    AllCounted structs cs → AskedAll asked left cs → AskedAll other left cs
asked_moved structs asked other left [] e h g = g
asked_moved structs asked other left (c ∷ cs) e h g = (e c.0 c.1 h.0 g.0, asked_moved structs asked other left cs e h.1 g.1)

all_asked : (asked other : Asked) (left : List Token) (cs : Counts) → ((q : Quantity) (count : ℕ) → asked left q count → other left q count) → AskedAll asked left cs → AskedAll other left cs
all_asked asked other left [] e g = g
all_asked asked other left (c ∷ cs) e g = (e c.0 c.1 g.0, all_asked asked other left cs e g.1)

module _ {A : Type 0} {d : ℕ} {pick : Token → Option A} {counts : State → A → Counts} {counted : State → State} where
  pub one_length : (asked : Asked) (s : State) (a : A) (m : State) → one d pick counts counted asked s a m → length s.left ≡ suc (length m.left)
  one_length asked s a m g = omega (arith, ap length g.stands, ap (λ z. length z.left) g.next)

  -- at a token all that is asked is asked there
  pub one_moved : (asked other : Asked) (s : State) (a : A) (m : State) → ((q : Quantity) (count : ℕ) → asked s.left q count → other s.left q count) →
      one d pick counts counted asked s a m → one d pick counts counted other s a m
  one_moved asked other s a m e g = record {
    token = g.token;
    rest = g.rest;
    stands = g.stands;
    picked = g.picked;
    nested = e Nesting d g.nested;
    within = all_asked asked other s.left (counts s a) e g.within;
    next = g.next;
  }

  pub local_one : {structs : Bool} → ((s : State) (a : A) → AllCounted structs (counts s a)) → Local structs (one d pick counts counted)
  local_one {structs = structs} all = record {
    shorter = λ asked s a m g. omega (arith, one_length asked s a m g);
    moved = λ asked other s a m e g.
        let reach : length m.left ≤ length s.left = omega (arith, one_length asked s a m g) in
        record {
          token = g.token;
          rest = g.rest;
          stands = g.stands;
          picked = g.picked;
          nested = e s.left Nesting d (λ _. refl) (le_refl _) reach g.nested;
          within = asked_moved structs asked other s.left (counts s a) (λ q count c h. e s.left q count c (le_refl _) reach h) (all s a) g.within;
          next = g.next;
        };
  }

pub local_placed : {structs : Bool} {A B : Type 0} (make : A → Span → B) {p : Language A} → Local structs p → Local structs (placed make p)
local_placed make h = local_bind local_look (λ from. local_bind h (λ a. local_bind local_look (λ to. local_look)))
