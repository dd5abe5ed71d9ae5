-- The tokens of programs, read again.
use Rattle.std.proofs.Common.{◌≡◌, refl, sym, ◌∙◌, ap, subst, ◌≤◌, true≢false, ℕ, ℤ, suc, Bool, true, false, List, [], ◌∷◌, Option, Some, None, is_some, if◌then◌else◌}
use Rattle.ec_base.specs.declared.token.Mark.{Mark}
use Rattle.ec_base.specs.declared.token.Span.{Span}
use Rattle.ec_base.specs.declared.token.Token.{Token}
use Rattle.ec_base.specs.declared.token.TokenKind.{TokenKind}
use Rattle.ec_base.specs.declared.token.TokenKind.TheVariants as t
use Rattle.ec_syntax.specs.Grammar.State.{State, Counts, AskedAll, limits}
use Rattle.ec_syntax.specs.Grammar.Language as L
use Rattle.ec_syntax.specs.Grammar.Tokens as T
use Rattle.ec_syntax.specs.Grammar.Tokens.{is_mark, is_word, only, name_of, number_of, string_of}
use Rattle.ec_syntax.specs.Grammar.Expressions.{of_mark}
use Rattle.ec_syntax.specs.Grammar.Words.{is_name}
use Rattle.ec_syntax.specs.declared.name.Name.{Name}
use Rattle.ec_syntax.proofs.Tokens.Classes.{token_of, number_kind, string_kind}
use Rattle.ec_print.proofs.Again.Readings.{Again, Agree}
use Rattle.ec_print.proofs.Again.Tokens.{retaken, mark_kind, word_kind, by_kind}

abbrev pub anything : {A : Type 0} → A → Type 0
anything a = Unit {0}

-- ---- marks and words

module _ {tight : Bool} {d : ℕ} {s n : State} {u : Unit {0}} where
  pub mark_again : (k : Mark) → T.mark d k limits s u n → Again tight s n (T.mark d k) (t.Mark k ∷ []) anything
  mark_again k h =
      let has = mark_kind k h.token u h.picked in
      retaken h has
      (λ y e. record { value = u; picked = by_kind (only (is_mark k)) u h.token y (λ j at bt. refl) (e ∙ sym has) h.picked; liked = tt; within = λ t a. tt })
      (λ t a. a)

  pub word_again : (w : List ℕ) → T.word d w limits s u n → Again tight s n (T.word d w) (t.Word w ∷ []) anything
  word_again w h =
      let has = word_kind w h.token u h.picked in
      retaken h has
      (λ y e. record { value = u; picked = by_kind (only (is_word w)) u h.token y (λ j at bt. refl) (e ∙ sym has) h.picked; liked = tt; within = λ t a. tt })
      (λ t a. a)

marks_within : {A : Type 0} (s t : State) (a b : A) → t.marks ≡ s.marks → AskedAll limits s.left (T.next_mark s a) → AskedAll limits t.left (T.next_mark t b)
marks_within s t a b e h = (subst (λ k. suc k ≤ 256) (sym e) h.0, tt)

pub marks_agree : (s t : State) → Agree true s t → Agree true (T.with_mark s) (T.with_mark t)
marks_agree s t a = record { marks = λ e. ap suc (a.marks e); variables = a.variables; functions = a.functions; structs = a.structs }

module _ {d : ℕ} {s n : State} where
  pub sign_again : {u : Unit {0}} (k : Mark) → T.sign d k limits s u n → Again true s n (T.sign d k) (t.Mark k ∷ []) anything
  sign_again {u} k h =
      let has = mark_kind k h.token u h.picked in
      retaken h has
      (λ y e. record { value = u; picked = by_kind (only (is_mark k)) u h.token y (λ j at bt. refl) (e ∙ sym has) h.picked; liked = tt; within = λ t a. marks_within s t u u (a.marks refl) h.within })
      (λ t a. marks_agree s t a)

  -- an operator, which is the mark that its meaning is chosen by
  pub operator_again : {A : Type 0} (pick : Mark → Option A) (a : A) (h : T.operator d (of_mark pick) limits s a n) (k : Mark) → h.token.kind ≡ t.Mark k → Again true s n (T.operator d (of_mark pick)) (t.Mark k ∷ []) (λ b. b ≡ a)
  operator_again pick a h k has = retaken h has
      (λ y e. record { value = a; picked = by_kind (of_mark pick) a h.token y (λ j at bt. refl) (e ∙ sym has) h.picked; liked = refl; within = λ t b. marks_within s t a a (b.marks refl) h.within })
      (λ t a. marks_agree s t a)

-- ---- numbers and strings

module _ {tight : Bool} {d : ℕ} {s n : State} where
  pub number_again : {z : ℤ} → T.number d limits s z n → Again tight s n (T.number d) (t.Number z ∷ []) (λ b. b ≡ z)
  number_again {z} h =
      let has = number_kind h.token z h.picked in
      retaken h has
      (λ y e. record { value = z; picked = by_kind number_of z h.token y (λ j at bt. refl) (e ∙ sym has) h.picked; liked = refl; within = λ t a. tt })
      (λ t a. a)

  pub string_again : {z : List ℕ} → T.string d limits s z n → Again tight s n (T.string d) (t.Str z ∷ []) (λ b. b ≡ z)
  string_again {z} h =
      let has = string_kind h.token z h.picked in
      retaken h has
      (λ y e. record { value = z; picked = by_kind string_of z h.token y (λ j at bt. refl) (e ∙ sym has) h.picked; liked = refl; within = λ t a. h.within })
      (λ t a. a)

-- ---- names

named : (w : List ℕ) (at : Span) (a : Name) (b : Bool) → is_name w ≡ b → (if b then Some (let n : Name = record { text = w; at = at } in n) else None) ≡ Some a → (w ≡ a.text) × (is_name w ≡ true)
named w at a true e h = let same : (let n : Name = record { text = w; at = at } in n) ≡ a = cc in (ap (λ n. n.text) same, e)
named w at a false e h = absurd (true≢false (sym (ap is_some h)))

pub name_kind : (x : Token) (a : Name) → name_of x ≡ Some a → (x.kind ≡ t.Word a.text) × (is_name a.text ≡ true)
name_kind x a h = by x.kind refl h
  where
    by : (kind : TokenKind) → x.kind ≡ kind → name_of (token_of kind x.at) ≡ Some a → (x.kind ≡ t.Word a.text) × (is_name a.text ≡ true)
    by (t.Word w) e g = let k = named w x.at a (is_name w) refl g in (e ∙ ap t.Word k.0, subst (λ v. is_name v ≡ true) k.0 k.1)
    by _ e g = absurd (true≢false (sym (ap is_some g)))

abbrev pub name_at : List ℕ → Span → Name
name_at w at = record { text = w; at = at }

pub name_picked : (w : List ℕ) (y : Token) → is_name w ≡ true → y.kind ≡ t.Word w → name_of y ≡ Some (name_at w y.at)
name_picked w y free e = ap (λ k. name_of (token_of k y.at)) e ∙ ap (λ b. if b then Some (name_at w y.at) else None) free

-- a name with the counts that are kept at it
module _ {tight : Bool} {d : ℕ} {s n : State} {a : Name} {counts : State → Name → Counts} {counted : State → State} where
  pub some_name_again : (h : L.one d name_of counts counted limits s a n) → ((t : State) (at : Span) → Agree tight s t → AskedAll limits t.left (counts t (name_at a.text at))) →
      ((t : State) → Agree tight s t → Agree tight (counted s) (counted t)) → Again tight s n (L.one d name_of counts counted) (t.Word a.text ∷ []) (λ b. b.text ≡ a.text)
  some_name_again h within on =
      let has = name_kind h.token a h.picked in
      retaken h has.0 (λ y e. record { value = name_at a.text y.at; picked = name_picked a.text y has.1 e; liked = refl; within = λ t g. within t y.at g }) on

pub variables_on : {tight : Bool} (s t : State) → Agree tight s t → Agree tight (T.with_variable s) (T.with_variable t)
variables_on s t g = record { marks = g.marks; variables = ap suc g.variables; functions = g.functions; structs = g.structs }

functions_on : {tight : Bool} (s t : State) → Agree tight s t → Agree tight (T.with_function s) (T.with_function t)
functions_on s t g = record { marks = g.marks; variables = g.variables; functions = ap suc g.functions; structs = g.structs }

module _ {tight : Bool} {d : ℕ} {s n : State} {a : Name} where
  pub name_again : T.name d limits s a n → Again tight s n (T.name d) (t.Word a.text ∷ []) (λ b. b.text ≡ a.text)
  name_again h = some_name_again h (λ t at g. h.within) (λ t g. g)

  pub variable_again : T.variable_name d limits s a n → Again tight s n (T.variable_name d) (t.Word a.text ∷ []) (λ b. b.text ≡ a.text)
  variable_again h = some_name_again h (λ t at g. (subst (λ k. suc k ≤ 256) (sym g.variables) h.within.0, h.within.1)) (variables_on s)

  pub parameter_again : (before : ℕ) → T.parameter_name d before limits s a n → Again tight s n (T.parameter_name d before) (t.Word a.text ∷ []) (λ b. b.text ≡ a.text)
  parameter_again before h = some_name_again h (λ t at g. (h.within.0, (subst (λ k. suc k ≤ 256) (sym g.variables) h.within.1.0, h.within.1.1))) (variables_on s)

  pub function_again : T.function_name d limits s a n → Again tight s n (T.function_name d) (t.Word a.text ∷ []) (λ b. b.text ≡ a.text)
  function_again h = some_name_again h (λ t at g. (subst (λ k. suc k ≤ 4096) (sym g.functions) h.within.0, h.within.1)) (functions_on s)
