-- What it is to read something again: where tokens were read as a value, tokens of the kinds that are printed of that value
-- are read as a value that is like it. These rules put such readings together as the grammar puts its languages.
use Rattle.std.proofs.Common.{◌≡◌, refl, sym, ◌∙◌, ap, subst, Bool, true, false, List, [], ◌∷◌, ◌++◌, map, append_assoc}
use Rattle.ec_base.specs.declared.token.Token.{Token}
use Rattle.ec_base.specs.declared.token.TokenKind.{TokenKind}
use Rattle.ec_syntax.specs.Grammar.State.{State, limits}
use Rattle.ec_syntax.specs.Grammar.Language as L
use Rattle.ec_syntax.specs.Grammar.Language.{Language, first_is}
use Rattle.ec_syntax.specs.Grammar.Tokens.{is_word}
use Rattle.std.specs.Prelude.{codes}

-- ---- states

-- The counts of two states agree; those of operators and brackets are asked for within a part only.
pub record Agree (tight : Bool) (s t : State) : Type 0 where
  pub marks : tight ≡ true → t.marks ≡ s.marks
  pub variables : t.variables ≡ s.variables
  pub functions : t.functions ≡ s.functions
  pub structs : t.structs ≡ s.structs

abbrev pub is_else : Token → Bool
is_else = is_word (codes "else")

-- no `else` is the first of these
abbrev pub Quiet : List Token → Type 0
Quiet ts = first_is is_else ts ≡ false

abbrev pub Kinds : Type 0
Kinds = List TokenKind

abbrev pub kinds_of : List Token → Kinds
kinds_of = map (λ x. x.kind)

-- ---- readings

pub record Reading (tight : Bool) (m : State) {A : Type 0} (l : Language A) (like : A → Type 0) (t : State) (rest : List Token) : Type 0 where
  pub value : A
  pub after : State
  pub read : l limits t value after
  pub liked : like value
  pub left : after.left ≡ rest
  pub agrees : Agree tight m after

-- From a state that agrees with s, words of these kinds are read as a value of which `like` holds, behind which the state
-- agrees with m. Where no `else` came behind the word from s to m, none may come behind these.
pub record Again (tight : Bool) (s m : State) {A : Type 0} (l : Language A) (kinds : Kinds) (like : A → Type 0) : Type 0 where
  pub starts : (word rest : List Token) → kinds_of word ≡ kinds → (Quiet m.left → Quiet rest) → Quiet s.left → Quiet (word ++ rest)
  pub reads : (t : State) (word rest : List Token) → kinds_of word ≡ kinds → t.left ≡ word ++ rest → Agree tight s t → (Quiet m.left → Quiet rest) → Reading tight m l like t rest

-- ---- words

-- a word of no kinds is empty
pub no_word : (word : List Token) → kinds_of word ≡ [] → word ≡ []
no_word [] e = refl
no_word (x ∷ word) e = absurd (cc)

-- a word of two parts' kinds has two parts
pub record Parts (word : List Token) (ks ls : Kinds) : Type 0 where
  pub front : List Token
  pub back : List Token
  pub is : word ≡ front ++ back
  pub first : kinds_of front ≡ ks
  pub second : kinds_of back ≡ ls

pub parts : (word : List Token) (ks ls : Kinds) → kinds_of word ≡ ks ++ ls → Parts word ks ls
parts word [] ls e = record { front = []; back = word; is = refl; first = refl; second = e }
parts [] (k ∷ ks) ls e = absurd (cc)
parts (x ∷ word) (k ∷ ks) ls e =
    let head : x.kind ≡ k = cc in
    let tail : kinds_of word ≡ ks ++ ls = cc in
    let p : Parts word ks ls = parts word ks ls tail in
    let whole : x.kind ∷ kinds_of p.front ≡ k ∷ ks = ap (λ z. z ∷ kinds_of p.front) head ∙ ap (λ z. k ∷ z) p.first in
    record { front = x ∷ p.front; back = p.back; is = ap (λ z. x ∷ z) p.is; first = whole; second = p.second }

-- ---- the same told otherwise

module _ {tight : Bool} {A : Type 0} where
  pub as_kinds : {s m : State} {l : Language A} {ks ls : Kinds} {like : A → Type 0} → ks ≡ ls → Again tight s m l ks like → Again tight s m l ls like
  as_kinds {s} {m} {l} {like = like} e h = subst (λ z. Again tight s m l z like) e h

  pub to_state : {s m m' : State} {l : Language A} {ks : Kinds} {like : A → Type 0} → m' ≡ m → Again tight s m l ks like → Again tight s m' l ks like
  to_state {s} {l = l} {ks = ks} {like = like} e h = subst (λ z. Again tight s z l ks like) (sym e) h

  pub mapped : {B : Type 0} {s m : State} {l : Language A} {l' : Language B} {ks : Kinds} {like : A → Type 0} {like' : B → Type 0} →
      ((t : State) (b : A) (n : State) → l limits t b n → like b → (c : B) × l' limits t c n × like' c) → Again tight s m l ks like → Again tight s m l' ks like'
  mapped f h = record {
    starts = h.starts;
    reads = λ t word rest e is agrees quiet.
        let r = h.reads t word rest e is agrees quiet in
        let c = f t r.value r.after r.read r.liked in
        record { value = c.0; after = r.after; read = c.1; liked = c.2; left = r.left; agrees = r.agrees };
  }

  pub as_like : {s m : State} {l : Language A} {ks : Kinds} {like like' : A → Type 0} → ((b : A) → like b → like' b) → Again tight s m l ks like → Again tight s m l ks like'
  as_like f h = mapped (λ t b n r k. (b, r, f b k)) h

  pub as_language : {s m : State} {l l' : Language A} {ks : Kinds} {like : A → Type 0} → ((t : State) (b : A) (n : State) → l limits t b n → l' limits t b n) → Again tight s m l ks like → Again tight s m l' ks like
  as_language f h = mapped (λ t b n r k. (b, f t b n r, k)) h

-- ---- no tokens

module _ {tight : Bool} {A : Type 0} {s : State} where
  pub looked : {f : State → A} {like : A → Type 0} → ((t : State) → like (f t)) → Again tight s s (L.look f) [] like
  looked {f} {like} k = record {
    starts = λ word rest e quiet calm. subst (λ w. Quiet (w ++ rest)) (sym (no_word word e)) (quiet calm);
    reads = λ t word rest e is agrees quiet. record {
      value = f t;
      after = t;
      read = (refl, refl);
      liked = k t;
      left = is ∙ ap (λ w. w ++ rest) (no_word word e);
      agrees = agrees;
    };
  }

  pub given : {a : A} {like : A → Type 0} → like a → Again tight s s (L.give a) [] like
  given {a} k = looked {f = λ _. a} (λ _. k)

-- ---- one behind the other

module _ {tight : Bool} {A B : Type 0} {s m n : State} {p : Language A} {f : A → Language B} {ks ls : Kinds} {like : A → Type 0} {like' : B → Type 0} where
  behind_reads : Again tight s m p ks like → ((a : A) → like a → Again tight m n (f a) ls like') → (starts : (word rest : List Token) → kinds_of word ≡ ls → (Quiet n.left → Quiet rest) → Quiet m.left → Quiet (word ++ rest)) →
      (t : State) (word rest : List Token) → Parts word ks ls → t.left ≡ word ++ rest → Agree tight s t → (Quiet n.left → Quiet rest) → Reading tight n (L.◌>>=◌ p f) like' t rest
  behind_reads h k starts t word rest w is agrees quiet =
      let r = h.reads t w.front (w.back ++ rest) w.first (is ∙ ap (λ z. z ++ rest) w.is ∙ append_assoc w.front w.back rest) agrees (starts w.back rest w.second quiet) in
      let q = (k r.value r.liked).reads r.after w.back rest w.second r.left r.agrees quiet in
      record { value = q.value; after = q.after; read = (r.value, r.after, r.read, q.read); liked = q.liked; left = q.left; agrees = q.agrees }

  -- The kinds behind may not depend on the value that is read; some value tells how the rest starts.
  pub behind : (a : A) → like a → Again tight s m p ks like → ((a : A) → like a → Again tight m n (f a) ls like') → Again tight s n (L.◌>>=◌ p f) (ks ++ ls) like'
  behind a known h k = record {
    starts = λ word rest e quiet calm.
        let w = parts word ks ls e in
        subst (λ z. Quiet z) (sym (ap (λ z. z ++ rest) w.is ∙ append_assoc w.front w.back rest)) (h.starts w.front (w.back ++ rest) w.first ((k a known).starts w.back rest w.second quiet) calm);
    reads = λ t word rest e is agrees quiet. behind_reads h k (k a known).starts t word rest (parts word ks ls e) is agrees quiet;
  }
