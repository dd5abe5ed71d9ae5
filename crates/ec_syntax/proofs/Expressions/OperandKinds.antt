-- What an operand is, told by its value: one that is a variable is a single name, and one that is a call is the call of a statement.
use Rattle.std.proofs.Common.{◌≡◌, refl, sym, ◌∙◌, ap, subst, ◌⊎◌, inl, inr, ℕ, suc, Bool, true, false, List, ◌∷◌, Option, Some, None, if◌then◌else◌, codes}
use Rattle.ec_base.specs.declared.token.Mark.TheVariants as mk
use Rattle.ec_base.specs.declared.token.Mark.{Mark}
use Rattle.ec_base.specs.declared.token.Span.{Span}
use Rattle.ec_base.specs.declared.token.Token.{Token}
use Rattle.ec_base.specs.declared.token.TokenKind.{TokenKind}
use Rattle.ec_base.specs.declared.token.TokenKind.TheVariants as t
use Rattle.ec_syntax.specs.declared.expression.Call.{Call}
use Rattle.ec_syntax.specs.declared.expression.Expr.{Expr}
use Rattle.ec_syntax.specs.declared.expression.ExprKind.{ExprKind}
use Rattle.ec_syntax.specs.declared.expression.ExprKind.TheVariants.{Number, Null, Var, Paren, Index, Arrow, Dot, Call as CallOf, ValueOf, Address}
use Rattle.ec_syntax.specs.declared.name.Name.{Name}
use Rattle.ec_syntax.specs.Grammar.State.{State, Asked}
use Rattle.ec_syntax.specs.Grammar.Language as L
use Rattle.ec_syntax.specs.Grammar.Language.{Language, begin, span}
use Rattle.ec_syntax.specs.Grammar.Tokens.{name, name_of, word, sign, operator, number}
use Rattle.ec_syntax.specs.Grammar.Words.{is_name}
use Rattle.ec_syntax.specs.Grammar.Expressions.{expression, prefix_of, of_mark, bracketed, called, call, malloc, primary, selected, postfix, unary, expr_of}

-- ---- places

pub placed_word : {A B : Type 0} (make : A → Span → B) (l : Language A) (asked : Asked) (s : State) (b : B)
    (m : State) →
    L.placed make l asked s b m → (a : A) × (b ≡ make a (span (begin s) m.end)) × l asked s a m
placed_word make l asked s b m (from, s₁, (ef, e₁), (a, m₁, h, (to, m₂, (et, e₂), (eb, em)))) =
    let e : m₁ ≡ m = sym (em ∙ e₂) in
    let told : to ≡ m.end = et ∙ ap (λ z. z.end) e in
    (a, eb ∙ ap (λ z. make a (span z to)) ef ∙ ap (λ z. make a (span (begin s) z)) told, subst (λ z. l asked z a m) e₁ (subst (λ z. l asked s₁ a z) e h))

pub word_placed : {A B : Type 0} (make : A → Span → B) (l : Language A) (asked : Asked) (s : State) (a : A)
    (m : State) →
    l asked s a m → L.placed make l asked s (make a (span (begin s) m.end)) m
word_placed make l asked s a m h = (begin s, s, (refl, refl), (a, m, h, (m.end, m, (refl, refl), (refl, refl))))

-- a word and a value made of it
pub give_word : {A B : Type 0} (l : Language A) (f : A → B) (asked : Asked) (s : State) (b : B) (m : State) →
    L.◌>>=◌ l (λ a. L.give (f a)) asked s b m → (a : A) × (b ≡ f a) × l asked s a m
give_word l f asked s b m (a, m₁, h, (eb, em)) = (a, eb, subst (λ z. l asked s a z) (sym em) h)

pub word_give : {A B : Type 0} (l : Language A) (f : A → B) (asked : Asked) (s : State) (a : A) (m : State) →
    l asked s a m → L.◌>>=◌ l (λ a. L.give (f a)) asked s (f a) m
word_give l f asked s a m h = (a, m, h, (refl, refl))

-- ---- names

NamedAt : Span → Option Name → Type 0
NamedAt at None = Unit {0}
NamedAt at (Some n) = n.at ≡ at

if_named : (b : Bool) (w : List ℕ) (at : Span) → NamedAt at (if b then Some (record { text = w; at = at }) else None)
unfolding NamedAt
if_named true w at = refl
if_named false w at = tt

kind_named : (k : TokenKind) (at : Span) → NamedAt at (name_of (record { kind = k; at = at }))
unfolding NamedAt
kind_named (t.Word w) at = if_named (is_name w) w at
kind_named _ at = tt

at_named : (x : Token) (n : Name) → name_of x ≡ Some n → n.at ≡ x.at
unfolding NamedAt
at_named x n e = subst (NamedAt x.at) e (kind_named x.kind x.at)

begin_at : (s : State) (x : Token) (rest : List Token) → s.left ≡ x ∷ rest → begin s ≡ x.at.from
begin_at s x rest e = ap (λ ts. begin (record s { left = ts })) e

-- a name stands where it says
pub name_at : (d : ℕ) (asked : Asked) (s : State) (n : Name) (m : State) → name d asked s n m →
    n.at ≡ span (begin s) m.end
name_at d asked s n m h =
    at_named h.token n h.picked ∙ ap (λ z. span z h.token.at.to) (sym (begin_at s h.token h.rest h.stands)) ∙ ap (λ z. span (begin s) z.end) (sym h.next)

-- ---- what an operand is

abbrev pub Told : ℕ → Language Expr → Asked → State → State → Span → ExprKind → Type 0
Told d inner asked s m at (Var w) = name d asked s (record { text = w; at = at }) m
Told d inner asked s m at (CallOf c) = call d inner asked s c m
Told d inner asked s m at _ = Unit {0}

abbrev pub Tells : ℕ → Language Expr → Asked → State → State → Expr → Type 0
Tells d inner asked s m e = Told d inner asked s m e.at e.kind

tells_same : (d : ℕ) (inner : Language Expr) (asked : Asked) (s m : State) (e e' : Expr) → e ≡ e' →
    Tells d inner asked s m e' → Tells d inner asked s m e
tells_same d inner asked s m e e' h k = subst (Tells d inner asked s m) (sym h) k

-- what isn't a variable or a call
abbrev pub Other : ExprKind → Type 0
Other (Var w) = ⊥
Other (CallOf c) = ⊥
Other _ = Unit {0}

other_told : (d : ℕ) (inner : Language Expr) (asked : Asked) (s m : State) (at : Span) (k : ExprKind) → Other k →
    Told d inner asked s m at k
other_told d inner asked s m at (Var w) h = absurd h
other_told d inner asked s m at (CallOf c) h = absurd h
other_told d inner asked s m at _ h = tt

give_other : {A : Type 0} (l : Language A) (f : A → ExprKind) → ((a : A) → Other (f a)) →
    (asked : Asked) (s : State) (k : ExprKind) (m : State) →
    L.◌>>=◌ l (λ a. L.give (f a)) asked s k m → Other k
give_other l f o asked s k m (a, m₁, h, (ek, em)) = subst Other (sym ek) (o a)

placed_other : (d : ℕ) (inner : Language Expr) (l : Language ExprKind) (asked : Asked) (s : State) (e : Expr)
    (m : State) →
    ((k : ExprKind) → l asked s k m → Other k) → L.placed expression l asked s e m → Tells d inner asked s m e
placed_other d inner l asked s e m o h =
    let w = placed_word expression l asked s e m h in
    tells_same d inner asked s m e _ w.1 (other_told d inner asked s m _ w.0 (o w.0 w.2))

PrefixOther : Option (Expr → ExprKind) → Type 0
PrefixOther None = Unit {0}
PrefixOther (Some make) = (e : Expr) → Other (make e)

prefix_mark_other : (k : Mark) → PrefixOther (prefix_of k)
unfolding PrefixOther
prefix_mark_other mk.Minus = λ e. tt
prefix_mark_other mk.Bang = λ e. tt
prefix_mark_other mk.Tilde = λ e. tt
prefix_mark_other mk.Star = λ e. tt
prefix_mark_other _ = tt

prefix_kind_other : (k : TokenKind) (at : Span) → PrefixOther (of_mark prefix_of (record { kind = k; at = at }))
unfolding PrefixOther
prefix_kind_other (t.Mark k) at = prefix_mark_other k
prefix_kind_other _ at = tt

prefix_other : (x : Token) (make : Expr → ExprKind) → of_mark prefix_of x ≡ Some make → (e : Expr) → Other (make e)
unfolding PrefixOther
prefix_other x make h = subst PrefixOther h (prefix_kind_other x.kind x.at)

malloc_other : (d : ℕ) (operand : Language Expr) (asked : Asked) (s : State) (k : ExprKind) (m : State) →
    malloc d operand asked s k m → Other k
malloc_other d operand asked s k m (t, m₁, h, (u, m₂, h₂, (c, m₃, h₃, (ek, em)))) = subst Other (sym ek) tt

abbrev field : ℕ → Expr → (Expr → List ℕ → ExprKind) → Language ExprKind
field d e make = L.◌>>=◌ (name d) (λ f. L.give (make e f.text))

abbrev index : ℕ → Language Expr → Expr → Language ExprKind
index d operand e = L.◌>>◌ (sign d mk.OpenBracket) (L.◌>>=◌ (expr_of (suc d) operand) (λ i. L.◌>>◌ (sign (suc d) mk.CloseBracket) (L.give (Index e i))))

abbrev selector : ℕ → Language Expr → Expr → Language ExprKind
selector d operand e = L.◌or◌ (index d operand e) (L.◌or◌ (L.◌>>◌ (sign d mk.Arrow) (field d e Arrow)) (L.◌>>◌ (sign d mk.Dot) (field d e Dot)))

field_other : (d : ℕ) (e : Expr) (make : Expr → List ℕ → ExprKind) → ((w : List ℕ) → Other (make e w)) →
    (asked : Asked) (s : State) (k : ExprKind) (m : State) → field d e make asked s k m → Other k
field_other d e make o asked s k m h = give_other (name d) (λ f. make e f.text) (λ f. o f.text) asked s k m h

selector_other : (d : ℕ) (operand : Language Expr) (e : Expr) (asked : Asked) (s : State) (k : ExprKind) (m : State) →
    selector d operand e asked s k m → Other k
selector_other d operand e asked s k m (inl (u, m₁, h, (i, m₂, h₂, (v, m₃, h₃, (ek, em))))) = subst Other (sym ek) tt
selector_other d operand e asked s k m (inr (inl (u, m₁, h, f))) = field_other d e Arrow (λ w. tt) asked m₁ k m f
selector_other d operand e asked s k m (inr (inr (u, m₁, h, f))) = field_other d e Dot (λ w. tt) asked m₁ k m f

selected_other : (d : ℕ) (operand : Language Expr) (a : Expr) (asked : Asked) (s : State) (e : Expr) (m : State) →
    selected d operand a asked s e m → Other e.kind
selected_other d operand a asked s e m (k, m₁, h, (to, m₂, (et, e₂), (eb, em))) = subst (λ z. Other z.kind) (sym eb) (selector_other d operand a asked s k m₁ h)

-- turns end where they begin, or at something selected
turned_other : (d : ℕ) (operand : Language Expr) (asked : Asked) (s : State) (a b : Expr) (m : State) →
    L.Turns (selected d operand) asked s a b m →
    ((b ≡ a) × (m ≡ s)) ⊎ Other b.kind
turned_other d operand asked s a b m L.over = inl (refl, refl)
turned_other d operand asked s a b m (L.more {m = m₁} {b = c} h t) = next (turned_other d operand asked m₁ c b m t)
  where
    next : ((b ≡ c) × (m ≡ m₁)) ⊎ Other b.kind → ((b ≡ a) × (m ≡ s)) ⊎ Other b.kind
    next (inl (e, _)) = inr (subst (λ z. Other z.kind) (sym e) (selected_other d operand a asked s c m₁ h))
    next (inr o) = inr o

-- ---- operands

named_told : (d : ℕ) (inner : Language Expr) (asked : Asked) (s : State) (e : Expr) (m : State) →
    L.placed expression (L.◌>>=◌ (name d) (λ n. L.give (Var n.text))) asked s e m → Tells d inner asked s m e
named_told d inner asked s e m h =
    let w = placed_word expression (L.◌>>=◌ (name d) (λ n. L.give (Var n.text))) asked s e m h in
    let v = give_word (name d) (λ n. Var n.text) asked s w.0 m w.2 in
    let kind : e.kind ≡ Var v.0.text = ap (λ z. z.kind) w.1 ∙ v.1 in
    let at : e.at ≡ v.0.at = ap (λ z. z.at) w.1 ∙ sym (name_at d asked s v.0 m v.2) in
    subst (λ z. Told d inner asked s m z e.kind) (sym at) (subst (Told d inner asked s m v.0.at) (sym kind) v.2)

called_told : (d : ℕ) (inner : Language Expr) (asked : Asked) (s : State) (e : Expr) (m : State) →
    L.placed (λ make at. expression (CallOf (make at)) at) (called d inner) asked s e m → Tells d inner asked s m e
called_told d inner asked s e m h =
    let w = placed_word (λ make at. expression (CallOf (make at)) at) (called d inner) asked s e m h in
    let kind : e.kind ≡ CallOf (w.0 (span (begin s) m.end)) = ap (λ z. z.kind) w.1 in
    subst (Told d inner asked s m e.at) (sym kind) (word_placed (λ make at. make at) (called d inner) asked s w.0 m w.2)

primary_told : (d : ℕ) (operand : Language Expr) (asked : Asked) (s : State) (e : Expr) (m : State) →
    primary d operand asked s e m → Tells d (expr_of (suc d) operand) asked s m e
primary_told d operand asked s e m (inl h) =
    placed_other d (expr_of (suc d) operand) (L.◌>>=◌ (number d) (λ n. L.give (Number n))) asked s e m (λ k. give_other (number d) Number (λ n. tt) asked s k m) h
primary_told d operand asked s e m (inr (inl h)) =
    placed_other d (expr_of (suc d) operand) (L.◌>>=◌ (word d (codes "NULL")) (λ u. L.give Null)) asked s e m (λ k. give_other (word d (codes "NULL")) (λ u. Null) (λ u. tt) asked s k m) h
primary_told d operand asked s e m (inr (inr (inl h))) = named_told d (expr_of (suc d) operand) asked s e m h
primary_told d operand asked s e m (inr (inr (inr (inl h)))) = called_told d (expr_of (suc d) operand) asked s e m h
primary_told d operand asked s e m (inr (inr (inr (inr (inl h))))) =
    let l = bracketed d (expr_of (suc d) operand) in
    placed_other d (expr_of (suc d) operand) (L.◌>>=◌ l (λ e. L.give (Paren e))) asked s e m (λ k. give_other l (λ e. Paren e) (λ e. tt) asked s k m) h
primary_told d operand asked s e m (inr (inr (inr (inr (inr (inl h)))))) =
    placed_other d (expr_of (suc d) operand) (malloc d operand) asked s e m (λ k. malloc_other d operand asked s k m) h
primary_told d operand asked s e m (inr (inr (inr (inr (inr (inr h)))))) =
    let l = bracketed d (expr_of (suc d) operand) in
    placed_other d (expr_of (suc d) operand) (L.◌>>◌ (word d (codes "valueof")) (L.◌>>=◌ l (λ e. L.give (ValueOf e)))) asked s e m
    (λ k v. give_other l (λ e. ValueOf e) (λ e. tt) asked v.1 k m v.3) h

postfix_told : (d : ℕ) (operand : Language Expr) (asked : Asked) (s : State) (e : Expr) (m : State) →
    postfix d operand asked s e m → Tells d (expr_of (suc d) operand) asked s m e
postfix_told d operand asked s e m (a, m₁, h, t) = ends_told (turned_other d operand asked m₁ a e m t)
  where
    ends_told : ((e ≡ a) × (m ≡ m₁)) ⊎ Other e.kind → Tells d (expr_of (suc d) operand) asked s m e
    ends_told (inl (ea, em)) = tells_same d (expr_of (suc d) operand) asked s m e a ea (subst (λ z. Tells d (expr_of (suc d) operand) asked s z a) (sym em) (primary_told d operand asked s a m₁ h))
    ends_told (inr o) = other_told d (expr_of (suc d) operand) asked s m e.at e.kind o

-- what an operand is at a depth, where so many are nested
pub unary_told : (nested d : ℕ) (asked : Asked) (s : State) (e : Expr) (m : State) → unary (suc nested) d asked s e m →
    Tells d (expr_of (suc d) (unary nested (suc d))) asked s m e
unary_told nested d asked s e m (inl h) =
    placed_other d (expr_of (suc d) (unary nested (suc d))) (L.◌>>=◌ (operator d (of_mark prefix_of)) (λ make. L.◌>>=◌ (unary nested (suc d)) (λ e. L.give (make e)))) asked s e m
    (λ k v. give_other (unary nested (suc d)) v.0 (prefix_other v.2.token v.0 v.2.picked) asked v.1 k m v.3) h
unary_told nested d asked s e m (inr (inl h)) =
    placed_other d (expr_of (suc d) (unary nested (suc d))) (L.◌>>◌ (sign d mk.And) (L.◌>>=◌ (name (suc d)) (λ n. L.give (Address n.text)))) asked s e m
    (λ k v. give_other (name (suc d)) (λ n. Address n.text) (λ n. tt) asked v.1 k m v.3) h
unary_told nested d asked s e m (inr (inr h)) = postfix_told d (unary nested (suc d)) asked s e m h

-- ---- names and calls are operands

pub name_unary : (nested d : ℕ) (asked : Asked) (s : State) (n : Name) (m : State) → name d asked s n m →
    unary (suc nested) d asked s (expression (Var n.text) n.at) m
name_unary nested d asked s n m h =
    let l = L.◌>>=◌ (name d) (λ n. L.give (Var n.text)) in
    let v : l asked s (Var n.text) m = word_give (name d) (λ n. Var n.text) asked s n m h in
    let w = word_placed expression l asked s (Var n.text) m v in
    let at : n.at ≡ span (begin s) m.end = name_at d asked s n m h in
    inr (inr (expression (Var n.text) n.at, m, inr (inr (inl (subst (λ z. L.placed expression l asked s (expression (Var n.text) z) m) (sym at) w))), L.over))

pub call_unary : (nested d : ℕ) (asked : Asked) (s : State) (c : Call) (m : State) →
    call d (expr_of (suc d) (unary nested (suc d))) asked s c m →
    (e : Expr) × (e.kind ≡ CallOf c) × unary (suc nested) d asked s e m
call_unary nested d asked s c m h =
    let inner = expr_of (suc d) (unary nested (suc d)) in
    let make_call : (Span → Call) → Span → Expr = λ make at. expression (CallOf (make at)) at in
    let w = placed_word (λ make at. make at) (called d inner) asked s c m h in
    let e : Expr = make_call w.0 (span (begin s) m.end) in
    (e, ap CallOf (sym w.1), inr (inr (e, m, inr (inr (inr (inl (word_placed make_call (called d inner) asked s w.0 m w.2)))), L.over)))
