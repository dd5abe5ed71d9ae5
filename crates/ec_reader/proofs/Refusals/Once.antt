-- Tokens are refused once: the refused token is one, and so is what it is refused for, but for quantities that are told alike.
use Rattle.std.proofs.Common.{◌≡◌, ◌⊎◌, inl, inr, refl, ap, sym, ◌∙◌, subst, ℕ, Bool, true, false, List, [], ◌∷◌, ◌++◌, if◌then◌else◌}
use Rattle.ec_base.specs.declared.token.Token.{Token}
use Rattle.ec_syntax.specs.declared.item.Program.{Program}
use Rattle.ec_syntax.specs.declared.quantity.Fault.{Fault}
use Rattle.ec_syntax.specs.declared.quantity.Fault.TheVariants.{Expected, Passes}
use Rattle.ec_syntax.specs.declared.quantity.Quantity.{Quantity}
use Rattle.ec_syntax.specs.declared.quantity.Quantity.TheVariants.{Nesting, Marks, Variables, Parameters, Functions, Structs, Arguments, Branches, NameBytes, StringBytes}
use Rattle.ec_syntax.specs.Grammar.Reading.{IsRefused, Refusal, Reads, IsProgram, asked_first, limit_at}
use Rattle.ec_syntax.specs.Laws as syntax
use Rattle.ec_syntax.specs.Grammar.State.{nothing}
use Rattle.ec_syntax.proofs.EndOfText.Inside.{Asks}
use Rattle.ec_syntax.proofs.EndOfText.Texts.{grows, same_head, same_tail}
use Rattle.ec_reader.specs.declared.refusal.ReadRefusal.{ReadRefusal}
use Rattle.ec_reader.specs.Laws.{OneRefusal, RefusedIsNoProgram}
use Rattle.ec_reader.specs.Refusals.{Refuses, number_of, is_told_before, last_at, named}
use Rattle.ec_reader.proofs.Refusals.Brace.{keeps_one}

-- ---- of one token

-- a token that passes a limit goes on in some program
not_expected : (q : Quantity) (before : List Token) (here : Token) → IsRefused Expected before here → IsRefused (Passes q) before here → ⊥
not_expected q before here e p =
    let b = p.begins in
    e.stops (b.0, b.1, grows (asked_first q (here ∷ b.0)) nothing (λ left k count h. tt) ((before ++ here ∷ []) ++ b.0) b.1 b.2)

-- a quantity is that of nesting, or is told by 12 and asked where the limit of nesting is kept
abbrev Kind : Quantity → Type 0
Kind q = (Nesting ≡ q) ⊎ ((number_of (Passes q) ≡ 12) × ((these : List Token) → Asks (asked_first q these) (limit_at Nesting these)))

kind : (q : Quantity) → Kind q
kind Nesting = inl refl
kind Marks = inr (refl, λ these left k count h. h.1)
kind Variables = inr (refl, λ these left k count h. h.1)
kind Parameters = inr (refl, λ these left k count h. h.1)
kind Functions = inr (refl, λ these left k count h. h.1)
kind Structs = inr (refl, λ these left k count h. h.1)
kind Arguments = inr (refl, λ these left k count h. h.1)
kind Branches = inr (refl, λ these left k count h. h.1)
kind NameBytes = inr (refl, λ these left k count h. h.1)
kind StringBytes = inr (refl, λ these left k count h. h.1)

-- so a token that passes another limit doesn't pass that of nesting
not_nested : (q : Quantity) (before : List Token) (here : Token) → ((these : List Token) → Asks (asked_first q these) (limit_at Nesting these)) →
    IsRefused (Passes Nesting) before here → IsRefused (Passes q) before here → ⊥
not_nested q before here asks n p =
    let b = p.begins in
    n.passes (b.0, b.1, grows (asked_first q (here ∷ b.0)) (limit_at Nesting (here ∷ b.0)) (asks (here ∷ b.0)) ((before ++ here ∷ []) ++ b.0) b.1 b.2)

-- nor does one that passes the limit of structs pass another
not_structs : (q : Quantity) (before : List Token) (here : Token) → is_told_before (Passes q) ≡ false → IsRefused (Passes Structs) before here → IsRefused (Passes q) before here → ⊥
not_structs q before here other s p =
    let b = s.begins in
    let tokens = (before ++ here ∷ []) ++ b.0 in
    by b.0 b.1 (keeps_one q other (here ∷ b.0) tokens b.1 (grows (asked_first Structs (here ∷ b.0)) nothing (λ left k count h. tt) tokens b.1 b.2))
  where
    by : (others : List Token) (tree : Program) →
        IsProgram (limit_at Structs (here ∷ others)) ((before ++ here ∷ []) ++ others) tree ⊎ IsProgram (limit_at q (here ∷ others)) ((before ++ here ∷ []) ++ others) tree → ⊥
    by others tree (inl k) = s.passes (others, tree, k)
    by others tree (inr k) = p.passes (others, tree, k)

same_number : (p q : Quantity) (before : List Token) (here : Token) → IsRefused (Passes p) before here → IsRefused (Passes q) before here → number_of (Passes p) ≡ number_of (Passes q)
same_number p q before here a b = by (kind p) (kind q)
  where
    by : Kind p → Kind q → number_of (Passes p) ≡ number_of (Passes q)
    by (inl e) (inl f) = ap (λ z. number_of (Passes z)) (sym e ∙ f)
    by (inl e) (inr g) = absurd (not_nested q before here g.1 (subst (λ z. IsRefused (Passes z) before here) (sym e) a) b)
    by (inr g) (inl f) = absurd (not_nested p before here g.1 (subst (λ z. IsRefused (Passes z) before here) (sym f) b) a)
    by (inr g) (inr h) = g.0 ∙ sym h.0

-- what is told at the token before is one struct too many
structs_told : (q : Quantity) → is_told_before (Passes q) ≡ true → Structs ≡ q
structs_told Structs e = refl
structs_told Nesting e = absurd (cc)
structs_told Marks e = absurd (cc)
structs_told Variables e = absurd (cc)
structs_told Parameters e = absurd (cc)
structs_told Functions e = absurd (cc)
structs_told Arguments e = absurd (cc)
structs_told Branches e = absurd (cc)
structs_told NameBytes e = absurd (cc)
structs_told StringBytes e = absurd (cc)

same_told : (p q : Quantity) (before : List Token) (here : Token) → IsRefused (Passes p) before here → IsRefused (Passes q) before here → is_told_before (Passes p) ≡ is_told_before (Passes q)
same_told p q before here a b = by (is_told_before (Passes p)) (is_told_before (Passes q)) refl refl
  where
    by : (x y : Bool) → is_told_before (Passes p) ≡ x → is_told_before (Passes q) ≡ y → x ≡ y
    by true true e f = refl
    by false false e f = refl
    by true false e f = absurd (not_structs q before here f (subst (λ z. IsRefused (Passes z) before here) (sym (structs_told p e)) a) b)
    by false true e f = absurd (not_structs p before here e (subst (λ z. IsRefused (Passes z) before here) (sym (structs_told q f)) b) a)

-- a token's refusal, by its number and whether it is told before
abbrev told : List Token → Token → ℕ → Bool → ReadRefusal
told before here number earlier = record { what = number; at = if earlier then last_at before here.at else here.at }

same_refusal : (fault other : Fault) (before : List Token) (here : Token) → IsRefused fault before here → IsRefused other before here → named fault before here ≡ named other before here
same_refusal Expected Expected before here a b = refl
same_refusal Expected (Passes q) before here a b = absurd (not_expected q before here a b)
same_refusal (Passes p) Expected before here a b = absurd (not_expected p before here b a)
same_refusal (Passes p) (Passes q) before here a b =
    ap (λ n. told before here n (is_told_before (Passes p))) (same_number p q before here a b)
    ∙ ap (told before here (number_of (Passes q))) (same_told p q before here a b)

-- ---- of tokens

behind : (before : List Token) {x y : List Token} → before ++ x ≡ before ++ y → x ≡ y
behind [] e = e
behind (z ∷ before) e = behind before (same_tail e)

abbrev refused_so : {tokens : List Token} {refusal : ReadRefusal} → Refuses tokens refusal → Refusal tokens
refused_so x = record { fault = x.fault; before = x.before; here = x.here; after = x.after; splits = x.splits; refused = x.refused }

pub one_refusal : syntax.OneRefusal → OneRefusal
one_refusal refusal tokens one other x y =
    let same = refusal tokens (refused_so x) (refused_so y) in
    let here : x.here ≡ y.here = same_head (behind x.before (sym x.splits ∙ y.splits ∙ ap (λ z. z ++ y.here ∷ y.after) (sym same))) in
    let moved = subst (λ z. IsRefused y.fault x.before z) (sym here) (subst (λ z. IsRefused y.fault z y.here) (sym same) y.refused) in
    x.is
    ∙ same_refusal x.fault y.fault x.before x.here x.refused moved
    ∙ ap (λ z. named y.fault z x.here) same
    ∙ ap (named y.fault y.before) here
    ∙ sym y.is

pub refused_is_no_program : syntax.RefusedIsNoProgram → RefusedIsNoProgram
refused_is_no_program excluded tokens refusal p x k = excluded x.fault x.before x.here x.refused x.after p (subst (λ z. Reads z p) x.splits k)
