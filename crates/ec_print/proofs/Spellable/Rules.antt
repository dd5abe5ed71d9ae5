-- What is read of tokens that a text can give is written with tokens that a text can give. These rules say so of the
-- grammar's combinators.
use Rattle.std.proofs.Common.{◌≡◌, refl, sym, subst, inl, inr, true≢false, ℕ, Bool, true, false, not, List, [], ◌∷◌, ◌++◌, map, Option, Some, None}
use Rattle.std.specs.List.{list_all}
use Rattle.std.proofs.lemmas.Bool.{and_parts, and_from}
use Rattle.std.proofs.lemmas.List.Folds.{list_all-append}
use Rattle.ec_base.specs.Lexical.{AllLexical, is_lexical, is_end}
use Rattle.ec_base.specs.declared.token.Span.{Span}
use Rattle.ec_base.specs.declared.token.Token.{Token}
use Rattle.ec_base.specs.declared.token.TokenKind.{TokenKind}
use Rattle.ec_base.specs.declared.token.TokenKind.TheVariants as t
use Rattle.ec_syntax.specs.Grammar.Language as L
use Rattle.ec_syntax.specs.Grammar.Language.{Language, Turns}
use Rattle.ec_syntax.specs.Grammar.Language.Turns.{over, more}
use Rattle.ec_syntax.specs.Grammar.State.{State, Counts, limits}
use Rattle.ec_syntax.specs.declared.quantity.Quantity.{Quantity}
use Rattle.ec_print.specs.Phrase.{Phrase, nothing, token, ◌then◌, tokens}
use Rattle.ec_print.specs.Relexed.{NoEnd}
use Rattle.ec_print.specs.Sentence as S
use Rattle.ec_print.proofs.Again.Readings.{kinds_of}
use Rattle.ec_print.proofs.Again.Marks.{anything}

-- ---- phrases

-- a token that a text can give, but its end
abbrev pub is_spellable : TokenKind → Bool
is_spellable t.End = false
is_spellable k = is_lexical k

-- so is each token of a phrase
abbrev pub Spellable : Phrase → Type 0
Spellable nothing = Unit {0}
Spellable (token k) = is_spellable k ≡ true
Spellable (a then b) = Spellable a × Spellable b

pub spellable_as : {x y : Phrase} → x ≡ y → Spellable y → Spellable x
spellable_as e h = subst (λ z. Spellable z) (sym e) h

-- phrases one behind the other
abbrev pub AllSpellable : {A : Type 0} → (A → Phrase) → List A → Type 0
AllSpellable phrase xs = Spellable (S.joined (map phrase xs))

pub one_more : {A : Type 0} (phrase : A → Phrase) (xs : List A) (x : A) → AllSpellable phrase xs → Spellable (phrase x) → AllSpellable phrase (xs ++ x ∷ [])
one_more phrase [] x h k = (k, tt)
one_more phrase (y ∷ xs) x h k = (h.0, one_more phrase xs x h.1 k)

pub further_spellable : (xs : List Phrase) → Spellable (S.joined xs) → Spellable (S.further xs)
further_spellable [] h = tt
further_spellable (x ∷ xs) h = (refl, (h.0, further_spellable xs h.1))

pub listed_spellable : (xs : List Phrase) → Spellable (S.joined xs) → Spellable (S.listed xs)
listed_spellable [] h = tt
listed_spellable (x ∷ xs) h = (h.0, further_spellable xs h.1)

-- ---- tokens of phrases

spellable_lexical : (k : TokenKind) → is_spellable k ≡ true → is_lexical k ≡ true
spellable_lexical t.End h = refl
spellable_lexical (t.Word w) h = h
spellable_lexical (t.Number n) h = h
spellable_lexical (t.Str s) h = h
spellable_lexical (t.Mark m) h = h

spellable_no_end : (k : TokenKind) → is_spellable k ≡ true → not (is_end k) ≡ true
spellable_no_end t.End h = absurd (true≢false (sym h))
spellable_no_end (t.Word w) h = refl
spellable_no_end (t.Number n) h = refl
spellable_no_end (t.Str s) h = refl
spellable_no_end (t.Mark m) h = refl

module _ (test : TokenKind → Bool) (passes : (k : TokenKind) → is_spellable k ≡ true → test k ≡ true) where
  all_pass : (x : Phrase) → Spellable x → list_all test (tokens x) ≡ true
  all_pass nothing h = refl
  all_pass (token k) h = and_from (test k) true (passes k h) refl
  all_pass (a then b) h =
      rw (list_all-append test (tokens a) (tokens b)) (and_from (list_all test (tokens a)) (list_all test (tokens b)) (all_pass a h.0) (all_pass b h.1))

pub phrase_lexical : (x : Phrase) → Spellable x → AllLexical (tokens x)
phrase_lexical = all_pass is_lexical spellable_lexical

pub phrase_no_end : (x : Phrase) → Spellable x → NoEnd (tokens x)
phrase_no_end = all_pass (λ k. not (is_end k)) spellable_no_end

-- ---- readings

abbrev pub Lexical : State → Type 0
Lexical s = AllLexical (kinds_of s.left)

-- Of tokens that a text can give only good values are read, and such tokens are left.
pub record Yields {A : Type 0} (l : Language A) (good : A → Type 0) : Type 0 where
  pub each : (s : State) (a : A) (m : State) → l limits s a m → Lexical s → good a × Lexical m

pub looked : {A : Type 0} {f : State → A} {good : A → Type 0} → ((s : State) → good (f s)) → Yields (L.look f) good
looked {f = f} {good = good} h = record { each = λ s a m r lexical. (subst good (sym r.0) (h s), subst (λ z. Lexical z) (sym r.1) lexical) }

pub given : {A : Type 0} {a : A} {good : A → Type 0} → good a → Yields (L.give a) good
given {a = a} h = looked {f = λ _. a} (λ _. h)

pub behind : {A B : Type 0} {p : Language A} {f : A → Language B} {good : A → Type 0} {good' : B → Type 0} → Yields p good → ((a : A) → good a → Yields (f a) good') → Yields (L.◌>>=◌ p f) good'
behind h k = record {
  each = λ s b n r lexical.
      let (a, m, q, rest) = r in
      let first = h.each s a m q lexical in
      (k a first.0).each m b n rest first.1;
}

pub as_good : {A : Type 0} {l : Language A} {good good' : A → Type 0} → ((a : A) → good a → good' a) → Yields l good → Yields l good'
as_good f h = record { each = λ s a m r lexical. let x = h.each s a m r lexical in (f a x.0, x.1) }

pub made : {A B : Type 0} {p : Language A} {good : A → Type 0} {good' : B → Type 0} (g : A → B) → ((a : A) → good a → good' (g a)) → Yields p good → Yields (L.◌>>=◌ p (λ a. L.give (g a))) good'
made g f h = behind h (λ a k. given (f a k))

pub either : {A : Type 0} {p q : Language A} {good : A → Type 0} → Yields p good → Yields q good → Yields (L.◌or◌ p q) good
either {A} {p} {q} {good} h k = record { each = go }
  where
    go : (s : State) (a : A) (m : State) → L.◌or◌ p q limits s a m → Lexical s → good a × Lexical m
    go s a m (inl r) lexical = h.each s a m r lexical
    go s a m (inr r) lexical = k.each s a m r lexical

pub never_yields : {A : Type 0} {good : A → Type 0} → Yields L.never good
never_yields = record { each = λ s a m r lexical. absurd r }

pub perhaps : {A : Type 0} {p : Language A} {good : A → Type 0} {good' : Option A → Type 0} → ((a : A) → good a → good' (Some a)) → good' None → Yields p good → Yields (L.maybe p) good'
perhaps f none h = either (made Some f h) (given none)

pub part_yields : {A : Type 0} {p : Language A} {good : A → Type 0} → Yields p good → Yields (L.part p) good
part_yields h = record { each = λ s a m r lexical. h.each (record s { marks = 0 }) a m r lexical }

pub function_yields : {A : Type 0} {p : Language A} {good : A → Type 0} → Yields p good → Yields (L.function p) good
function_yields h = record { each = λ s a m r lexical. h.each (record s { variables = 0 }) a m r lexical }

pub kth_yields : {A : Type 0} {p : Language A} {good : A → Type 0} (q : Quantity) (k : ℕ) → Yields p good → Yields (L.kth q k p) good
kth_yields q k h = record { each = λ s a m r lexical. h.each s a m r.1 lexical }

pub lacks_yields : (test : Token → Bool) → Yields (L.lacks test) anything
lacks_yields test = record { each = λ s a m r lexical. (tt, subst (λ z. Lexical z) (sym r.1) lexical) }

pub placed_yields : {A B : Type 0} {p : Language A} {good : A → Type 0} {good' : B → Type 0} (make : A → Span → B) → ((a : A) (at : Span) → good a → good' (make a at)) → Yields p good → Yields (L.placed make p) good'
placed_yields make f h = behind (looked {good = anything} (λ _. tt)) (λ from _. behind h (λ a k. behind (looked {good = anything} (λ _. tt)) (λ to _. given (f a (L.span from to) k))))

-- ---- turns

module _ {A : Type 0} {turn : A → Language A} {good : A → Type 0} (h : (a : A) → good a → Yields (turn a) good) where
  each_turn : (s : State) (a c : A) (n : State) → Turns turn limits s a c n → good a → Lexical s → good c × Lexical n
  each_turn s a c n over k lexical = (k, lexical)
  each_turn s a c n (more {m = m} {b = b} r rs) k lexical = let one = (h a k).each s b m r lexical in each_turn m b c n rs one.0 one.1

  pub turned : (a : A) → good a → Yields (L.turns turn a) good
  turned a k = record { each = λ s c n r lexical. each_turn s a c n r k lexical }

-- ---- tokens

pub taken : {A : Type 0} {d : ℕ} {pick : Token → Option A} {counts : State → A → Counts} {counted : State → State} {good : A → Type 0} →
    ((x : Token) (a : A) → is_lexical x.kind ≡ true → pick x ≡ Some a → good a) → Yields (L.one d pick counts counted) good
taken f = record {
  each = λ s a m r lexical.
      let stands = subst (λ z. AllLexical (kinds_of z)) r.stands lexical in
      let both = and_parts (is_lexical r.token.kind) (list_all is_lexical (kinds_of r.rest)) stands in
      (f r.token a both.0 r.picked, subst (λ z. Lexical z) (sym r.next) both.1);
}

-- a token of which nothing is kept
pub token_yields : {A : Type 0} {d : ℕ} {pick : Token → Option A} {counts : State → A → Counts} {counted : State → State} → Yields (L.one d pick counts counted) anything
token_yields = taken (λ x a h e. tt)
