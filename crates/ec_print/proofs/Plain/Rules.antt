-- Where plain tokens are read as a value, they are the tokens of its phrase. These rules say so of the grammar's combinators.
use Rattle.std.proofs.Common.{◌≡◌, ◌<◌, refl, sym, ◌∙◌, ap, subst, inl, inr, arith, ℕ, Bool, [], ◌∷◌, ◌++◌, append_assoc, append-nil, Option, Some, None}
use Rattle.ec_base.specs.declared.token.Mark.TheVariants as m
use Rattle.ec_base.specs.declared.token.Span.{Span}
use Rattle.ec_base.specs.declared.token.Token.{Token}
use Rattle.ec_base.specs.declared.token.TokenKind.{TokenKind}
use Rattle.ec_base.specs.declared.token.TokenKind.TheVariants as t
use Rattle.ec_syntax.specs.Grammar.Language as L
use Rattle.ec_syntax.specs.Grammar.Language.{Language, Turns}
use Rattle.ec_syntax.specs.Grammar.Language.Turns.{over, more}
use Rattle.ec_syntax.specs.Grammar.State.{State, Counts, limits}
use Rattle.ec_syntax.specs.declared.quantity.Quantity.{Quantity}
use Rattle.ec_print.specs.Layout.{depth_after}
use Rattle.ec_print.specs.Phrase.{Phrase, tokens}
use Rattle.ec_print.specs.Plain.{IsPlain, depth_behind}
use Rattle.ec_print.proofs.Again.Readings.{Kinds, kinds_of}

-- ---- what is left of plain tokens

depth-snoc : (depth : ℕ) (ks : Kinds) (k : TokenKind) → depth_behind depth (ks ++ k ∷ []) ≡ depth_after (depth_behind depth ks) k
depth-snoc depth [] k = refl
depth-snoc depth (j ∷ ks) k = depth-snoc (depth_after depth j) ks k

-- they stand among plain tokens behind so many open parentheses
pub record Clean (o : ℕ) (ks : Kinds) : Type 0 where
  pub before : Kinds
  pub depth : depth_behind 0 before ≡ o
  pub plain : IsPlain (before ++ ks)

-- one token further
pub next_clean : (o : ℕ) (k : TokenKind) (ks : Kinds) → Clean o (k ∷ ks) → Clean (depth_after o k) ks
next_clean o k ks c = record {
  before = c.before ++ k ∷ [];
  depth = depth-snoc 0 c.before k ∙ ap (λ d. depth_after d k) c.depth;
  plain = subst IsPlain (sym (append_assoc c.before (k ∷ []) ks)) c.plain;
}

pub no_increment : (o : ℕ) (ks : Kinds) → Clean o (t.Mark m.Increment ∷ ks) → ⊥
no_increment o ks c = c.plain.no_increment c.before (ks, refl)

pub no_decrement : (o : ℕ) (ks : Kinds) → Clean o (t.Mark m.Decrement ∷ ks) → ⊥
no_decrement o ks c = c.plain.no_decrement c.before (ks, refl)

pub no_comma : (ks : Kinds) → Clean 0 (t.Mark m.Comma ∷ ks) → ⊥
no_comma ks c = let inside : 0 < 0 = subst (λ d. 0 < d) c.depth (c.plain.commas c.before (ks, refl)) in omega (arith, inside)

-- ---- readings

-- the tokens that were read from s to n, of which this holds
pub record Read (p : ℕ) (s n : State) (good : Kinds → Type 0) : Type 0 where
  pub kinds : Kinds
  pub is : kinds_of s.left ≡ kinds ++ kinds_of n.left
  pub holds : good kinds
  pub clean : Clean p (kinds_of n.left)

-- Of what is read of plain tokens, and of these tokens, this holds; so many parentheses are open before and behind.
pub record Spelt (o p : ℕ) {A : Type 0} (l : Language A) (good : A → Kinds → Type 0) : Type 0 where
  pub each : (s : State) (a : A) (n : State) → l limits s a n → Clean o (kinds_of s.left) → Read p s n (good a)

-- these tokens are those of its phrase
abbrev pub Spells : {A : Type 0} → ℕ → (A → Phrase) → Language A → Type 0
Spells o phrase l = Spelt o o l (λ a ks. ks ≡ tokens (phrase a))

module _ {o p : ℕ} {A : Type 0} where
  pub weaker : {l : Language A} {good good' : A → Kinds → Type 0} → ((a : A) (ks : Kinds) → good a ks → good' a ks) → Spelt o p l good → Spelt o p l good'
  weaker f h = record {
    each = λ s a n r c. let w = h.each s a n r c in record { kinds = w.kinds; is = w.is; holds = f a w.kinds w.holds; clean = w.clean };
  }

  -- what holds of the tokens of the phrase holds of those that are read
  pub spelt : {l : Language A} {good : A → Kinds → Type 0} (phrase : A → Phrase) → Spelt o p l (λ a ks. ks ≡ tokens (phrase a)) → ((a : A) → good a (tokens (phrase a))) → Spelt o p l good
  spelt {good = good} phrase h f = weaker (λ a ks e. subst (λ z. good a z) (sym e) (f a)) h

  pub either : {l k : Language A} {good : A → Kinds → Type 0} → Spelt o p l good → Spelt o p k good → Spelt o p (L.◌or◌ l k) good
  either {l} {k} {good} h g = record { each = go }
    where
      go : (s : State) (a : A) (n : State) → L.◌or◌ l k limits s a n → Clean o (kinds_of s.left) → Read p s n (good a)
      go s a n (inl r) c = h.each s a n r c
      go s a n (inr r) c = g.each s a n r c

  pub never_spelt : {good : A → Kinds → Type 0} → Spelt o p L.never good
  never_spelt = record { each = λ s a n r c. absurd r }

  pub part_spelt : {l : Language A} {good : A → Kinds → Type 0} → Spelt o p l good → Spelt o p (L.part l) good
  part_spelt h = record { each = λ s a n r c. let w = h.each (record s { marks = 0 }) a n r c in record { kinds = w.kinds; is = w.is; holds = w.holds; clean = w.clean } }

  pub function_spelt : {l : Language A} {good : A → Kinds → Type 0} → Spelt o p l good → Spelt o p (L.function l) good
  function_spelt h = record { each = λ s a n r c. let w = h.each (record s { variables = 0 }) a n r c in record { kinds = w.kinds; is = w.is; holds = w.holds; clean = w.clean } }

  pub kth_spelt : {l : Language A} {good : A → Kinds → Type 0} (q : Quantity) (k : ℕ) → Spelt o p l good → Spelt o p (L.kth q k l) good
  kth_spelt q k h = record { each = λ s a n r c. h.each s a n r.1 c }

  -- one behind the other
  pub behind : {q : ℕ} {B : Type 0} {l : Language A} {f : A → Language B} {good : B → Kinds → Type 0} →
      Spelt o p l (λ a ks. Spelt p q (f a) (λ b ls. good b (ks ++ ls))) → Spelt o q (L.◌>>=◌ l f) good
  behind h = record {
    each = λ s b n r c.
        let (a, i, x, y) = r in
        let w = h.each s a i x c in
        let v = w.holds.each i b n y w.clean in
        record { kinds = w.kinds ++ v.kinds; is = w.is ∙ ap (λ z. w.kinds ++ z) v.is ∙ sym (append_assoc w.kinds v.kinds (kinds_of n.left)); holds = v.holds; clean = v.clean };
  }

  -- a value made of the last
  pub ends : {B : Type 0} {l : Language A} {good : B → Kinds → Type 0} (g : A → B) → Spelt o p l (λ a ks. good (g a) ks) → Spelt o p (L.◌>>=◌ l (λ a. L.give (g a))) good
  ends {good = good} g h = record {
    each = λ s b n r c.
        let (a, i, x, (e, f)) = r in
        let w = h.each s a i x c in
        record { kinds = w.kinds; is = w.is ∙ ap (λ z. w.kinds ++ kinds_of z.left) (sym f); holds = subst (λ z. good z w.kinds) (sym e) w.holds; clean = subst (λ z. Clean p (kinds_of z.left)) (sym f) w.clean };
  }

module _ {o : ℕ} {A : Type 0} where
  pub looked : {f : State → A} {good : A → Kinds → Type 0} → ((s : State) → good (f s) []) → Spelt o o (L.look f) good
  looked {f} {good} h = record {
    each = λ s a n r c. record { kinds = []; is = ap (λ z. kinds_of z.left) (sym r.1); holds = subst (λ z. good z []) (sym r.0) (h s); clean = subst (λ z. Clean o (kinds_of z.left)) (sym r.1) c };
  }

  pub given : {a : A} {good : A → Kinds → Type 0} → good a [] → Spelt o o (L.give a) good
  given {a} h = looked {f = λ _. a} (λ _. h)

  -- a value at its place
  pub placed_spelt : {B : Type 0} {l : Language A} {good : B → Kinds → Type 0} (make : A → Span → B) → Spelt o o l (λ a ks. (at : Span) → good (make a at) ks) → Spelt o o (L.placed make l) good
  placed_spelt {B} {l} {good} make h = record { each = go }
    where
      go : (s : State) (b : B) (n : State) → L.placed make l limits s b n → Clean o (kinds_of s.left) → Read o s n (good b)
      go s b n r c =
          let (from, s', (e, f), (a, i, x, (to, j, (g, k), (is, same)))) = r in
          let w = h.each s a i (subst (λ z. l limits z a i) f x) c in
          record {
            kinds = w.kinds;
            is = w.is ∙ ap (λ z. w.kinds ++ kinds_of z.left) (sym (same ∙ k));
            holds = subst (λ z. good z w.kinds) (sym is) (w.holds (L.span from to));
            clean = subst (λ z. Clean o (kinds_of z.left)) (sym (same ∙ k)) w.clean;
          }

pub lacks_spelt : {o : ℕ} (test : Token → Bool) {good : Unit {0} → Kinds → Type 0} → good tt [] → Spelt o o (L.lacks test) good
lacks_spelt {o} test h = record {
  each = λ s a n r c. record { kinds = []; is = ap (λ z. kinds_of z.left) (sym r.1); holds = h; clean = subst (λ z. Clean o (kinds_of z.left)) (sym r.1) c };
}

pub perhaps : {o : ℕ} {A : Type 0} {l : Language A} {good : Option A → Kinds → Type 0} → Spelt o o l (λ a ks. good (Some a) ks) → good None [] → Spelt o o (L.maybe l) good
perhaps h none = either (ends Some h) (given none)

-- ---- turns

module _ {o : ℕ} {A : Type 0} {turn : A → Language A} {good : A → Kinds → Type 0} (h : (a : A) (ks : Kinds) → good a ks → Spelt o o (turn a) (λ b ls. good b (ks ++ ls))) where
  each_turn : (s : State) (a c : A) (n : State) → Turns turn limits s a c n → (ks : Kinds) → good a ks → Clean o (kinds_of s.left) → Read o s n (λ ls. good c (ks ++ ls))
  each_turn s a c n over ks k clean = record { kinds = []; is = refl; holds = subst (λ z. good a z) (sym (append-nil ks)) k; clean = clean }
  each_turn s a c n (more {m = i} {b = b} r rs) ks k clean =
      let w = (h a ks k).each s b i r clean in
      let v = each_turn i b c n rs (ks ++ w.kinds) w.holds w.clean in
      record {
        kinds = w.kinds ++ v.kinds;
        is = w.is ∙ ap (λ z. w.kinds ++ z) v.is ∙ sym (append_assoc w.kinds v.kinds (kinds_of n.left));
        holds = subst (λ z. good c z) (append_assoc ks w.kinds v.kinds) v.holds;
        clean = v.clean;
      }

  -- behind tokens of which it holds before
  pub turned : (a : A) (ks : Kinds) → good a ks → Spelt o o (L.turns turn a) (λ c ls. good c (ks ++ ls))
  turned a ks k = record { each = λ s c n r clean. each_turn s a c n r ks k clean }

-- ---- tokens

module _ {A : Type 0} {d : ℕ} {pick : Token → Option A} {counts : State → A → Counts} {counted : State → State} where
  -- a token that was read stands before what is left
  pub stands : {s n : State} {a : A} {k : TokenKind} (h : L.one d pick counts counted limits s a n) → h.token.kind ≡ k → kinds_of s.left ≡ k ∷ kinds_of n.left
  stands {k = k} h has = ap kinds_of h.stands ∙ ap (λ z. z ∷ kinds_of h.rest) has ∙ ap (λ z. k ∷ kinds_of z.left) (sym h.next)

  module _ {o p : ℕ} {good : A → Kinds → Type 0} where
    -- a token that is picked is of a kind that is told by what it is picked as
    pub taken : ((x : Token) (a : A) → pick x ≡ Some a → (k : TokenKind) × (x.kind ≡ k) × (depth_after o k ≡ p) × good a (k ∷ [])) → Spelt o p (L.one d pick counts counted) good
    taken f = record {
      each = λ s a n r c.
          let (k, has, depth, holds) = f r.token a r.picked in
          let is = stands r has in
          let clean = next_clean o k (kinds_of n.left) (subst (λ z. Clean o z) is c) in
          record { kinds = k ∷ []; is = is; holds = holds; clean = subst (λ z. Clean z (kinds_of n.left)) depth clean };
    }

    -- a token that isn't there
    pub not_taken : (k : TokenKind) → ((x : Token) (a : A) → pick x ≡ Some a → x.kind ≡ k) → ((ks : Kinds) → Clean o (k ∷ ks) → ⊥) → Spelt o p (L.one d pick counts counted) good
    not_taken k f none = record { each = λ s a n r c. absurd (none (kinds_of n.left) (subst (λ z. Clean o z) (stands r (f r.token a r.picked)) c)) }
