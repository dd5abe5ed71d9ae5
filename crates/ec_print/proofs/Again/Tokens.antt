-- Single tokens, read again.
use Rattle.std.proofs.Common.{◌≡◌, refl, sym, ◌∙◌, ap, subst, ◌≤◌, ℕ, Bool, true, false, List, [], ◌∷◌, ◌++◌, Option, Some, None, if◌then◌else◌}
use Rattle.ec_base.specs.declared.token.Mark.{Mark}
use Rattle.ec_base.specs.declared.token.Span.{Span}
use Rattle.ec_base.specs.declared.token.Token.{Token}
use Rattle.ec_base.specs.declared.token.TokenKind.{TokenKind}
use Rattle.ec_base.specs.declared.token.TokenKind.TheVariants as t
use Rattle.ec_syntax.specs.Grammar.State.{State, Counts, AskedAll, limits}
use Rattle.ec_syntax.specs.Grammar.Language as L
use Rattle.ec_syntax.specs.Grammar.Tokens.{is_mark, is_word, only}
use Rattle.ec_syntax.proofs.Tokens.Classes as tests
use Rattle.ec_syntax.proofs.Tokens.Classes.{token_of}
use Rattle.ec_print.proofs.Again.Readings.{Again, Agree, Quiet, kinds_of, is_else}

-- ---- one token

record Single (word : List Token) (kind : TokenKind) : Type 0 where
  token : Token
  is : word ≡ token ∷ []
  has : token.kind ≡ kind

single : (word : List Token) (kind : TokenKind) → kinds_of word ≡ kind ∷ [] → Single word kind
single [] kind e = absurd (cc)
single (x ∷ []) kind e = record { token = x; is = refl; has = cc }
single (x ∷ (y ∷ word)) kind e = absurd (cc)

-- whether a token is an `else` is told by its kind
else_by_kind : (x y : Token) → y.kind ≡ x.kind → is_else y ≡ is_else x
else_by_kind x y e = ap (λ k. is_else (token_of k y.at)) e

-- what is left and where the last token ends is not counted
pub moved : {tight : Bool} {s t : State} (ts us : List Token) (e f : ℕ) → Agree tight s t → Agree tight (record s { left = ts; end = e }) (record t { left = us; end = f })
moved ts us e f a = record { marks = a.marks; variables = a.variables; functions = a.functions; structs = a.structs }

-- A token of a kind is picked as a value of which `like` holds, and keeps the limits where one before does.
pub record Picked {A : Type 0} (tight : Bool) (s : State) (pick : Token → Option A) (counts : State → A → Counts) (like : A → Type 0) (y : Token) : Type 0 where
  pub value : A
  pub picked : pick y ≡ Some value
  pub liked : like value
  pub within : (t : State) → Agree tight s t → AskedAll limits t.left (counts t value)

module _ {A : Type 0} {tight : Bool} {d : ℕ} {pick : Token → Option A} {counts : State → A → Counts} {counted : State → State} {kind : TokenKind} {like : A → Type 0} {s m : State} where
  -- any token of this kind, from any state that agrees with s
  pub taken : d ≤ 64 → ((y : Token) → y.kind ≡ kind → Quiet s.left → is_else y ≡ false) → ((y : Token) → y.kind ≡ kind → Picked tight s pick counts like y) →
      ((t : State) (rest : List Token) (end : ℕ) → Agree tight s t → Agree tight m (record (counted t) { left = rest; end = end })) → Again tight s m (L.one d pick counts counted) (kind ∷ []) like
  taken nested calm picks on = record {
    starts = λ word rest e quiet first. let w = single word kind e in subst (λ z. Quiet (z ++ rest)) (sym w.is) (calm w.token w.has first);
    reads = λ t word rest e is agrees quiet.
        let w = single word kind e in
        let p = picks w.token w.has in
        let read : L.one d pick counts counted limits t p.value (record (counted t) { left = rest; end = w.token.at.to }) =
        record { token = w.token; rest = rest; stands = is ∙ ap (λ z. z ++ rest) w.is; picked = p.picked; nested = nested; within = p.within t agrees; next = refl } in
        record { value = p.value; after = record (counted t) { left = rest; end = w.token.at.to }; read = read; liked = p.liked; left = refl; agrees = on t rest w.token.at.to agrees };
  }

  -- a token of the kind of one that was read
  pub retaken : {a : A} (h : L.one d pick counts counted limits s a m) → h.token.kind ≡ kind → ((y : Token) → y.kind ≡ kind → Picked tight s pick counts like y) →
      ((t : State) → Agree tight s t → Agree tight (counted s) (counted t)) → Again tight s m (L.one d pick counts counted) (kind ∷ []) like
  retaken h has picks on = taken h.nested
      (λ y e first. else_by_kind h.token y (e ∙ sym has) ∙ subst (λ z. Quiet z) h.stands first)
      picks
      (λ t rest end agrees. subst (λ z. Agree tight z (record (counted t) { left = rest; end = end })) (sym h.next) (moved h.rest rest h.token.at.to end (on t agrees)))

-- ---- marks and words

-- what passes a test and is picked by it
passed : (b : Bool) (u : Unit {0}) → (if b then Some (tt {0}) else None) ≡ Some u → b ≡ true
passed true u e = refl
passed false u e = absurd (cc)

pub mark_kind : (k : Mark) (x : Token) (u : Unit {0}) → only (is_mark k) x ≡ Some u → x.kind ≡ t.Mark k
mark_kind k x u h = tests.mark_kind k x (passed (is_mark k x) u h)

pub word_kind : (w : List ℕ) (x : Token) (u : Unit {0}) → only (is_word w) x ≡ Some u → x.kind ≡ t.Word w
word_kind w x u h = tests.word_kind w x (passed (is_word w x) u h)

-- what is picked by the kind alone
pub by_kind : {A : Type 0} (pick : Token → Option A) (a : A) (x y : Token) → ((k : TokenKind) (at bt : Span) → pick (token_of k at) ≡ pick (token_of k bt)) → y.kind ≡ x.kind → pick x ≡ Some a → pick y ≡ Some a
by_kind pick a x y f e h = ap (λ k. pick (token_of k y.at)) e ∙ f x.kind y.at x.at ∙ h
