-- Lists of tokens, tests of their first, and what is asked at them.
use Rattle.std.proofs.Common.{◌≡◌, refl, sym, ◌∙◌, ap, subst, ◌≤◌, ◌<◌, ◌⊎◌, inl, ℕ, Bool, true, false, true≢false, List, [], ◌∷◌, ◌++◌, ◌||◌, length, length-append, map, append_assoc, arith}
use Rattle.std.proofs.lemmas.Bool.{and_from, false_from_ne_true, both_ways, or_cases, or_left, or_right}
use Rattle.std.proofs.lemmas.List.Folds.{list_all-append}
use Rattle.std.specs.List.{list_all}
use mathlib.Core.List.{map-append}
use Rattle.ec_base.specs.Lexical.{is_lexical}
use Rattle.ec_base.specs.declared.token.Token.{Token}
use Rattle.ec_syntax.specs.Grammar.State.{State, Asked, nothing}
use Rattle.ec_syntax.specs.Grammar.Language.{first_is}
use Rattle.ec_syntax.specs.declared.quantity.Fault.{Fault}
use Rattle.ec_syntax.specs.declared.quantity.Fault.TheVariants.{Expected, Passes}
use Rattle.ec_syntax.specs.declared.quantity.Quantity.{Quantity}
use Rattle.ec_syntax.proofs.Decision.Procedures.{◌with◌, Mild, Silent, asks_nesting, upto, Quiet, kept, Lexical, AsksOnly, Within, Apart}

-- ---- lists

pub with_assoc : (s : State) (us vs ts : List Token) → s with ((us ++ vs) ++ ts) ≡ s with (us ++ (vs ++ ts))
with_assoc s us vs ts = ap (λ l. s with l) (append_assoc us vs ts)

-- tokens that stand before two parts stand before both together
pub split_in : (ts us ms vs rest : List Token) → ts ≡ us ++ ms → ms ≡ vs ++ rest → ts ≡ (us ++ vs) ++ rest
split_in ts us ms vs rest e h = e ∙ ap (λ l. us ++ l) h ∙ sym (append_assoc us vs rest)

pub length_behind : (us ts : List Token) → length ts ≤ length (us ++ ts)
length_behind us ts = omega (arith, length-append us ts)

-- what stands behind is no longer
pub no_longer : (ts us rest : List Token) → ts ≡ us ++ rest → length rest ≤ length ts
no_longer ts us rest e = subst (λ l. length rest ≤ length l) (sym e) (length_behind us rest)

pub Lexical-append : (us ts : List Token) → Lexical us → Lexical ts → Lexical (us ++ ts)
Lexical-append us ts h k =
    ap (list_all is_lexical) (map-append (λ x. x.kind) us ts) ∙ list_all-append is_lexical (map (λ x. x.kind) us) (map (λ x. x.kind) ts)
    ∙ and_from (list_all is_lexical (map (λ x. x.kind) us)) (list_all is_lexical (map (λ x. x.kind) ts)) h k

-- ---- the first token

pub first_at : (test : Token → Bool) (ts us : List Token) (b : Bool) → ts ≡ us → first_is test us ≡ b →
    first_is test ts ≡ b
first_at test ts us b e h = ap (first_is test) e ∙ h

pub first_within : (test other : Token → Bool) → Within test other → (ts : List Token) → first_is test ts ≡ true →
    first_is other ts ≡ true
first_within test other w [] h = h
first_within test other w (x ∷ ts) h = w x h

pub Quiet-within : (test other : Token → Bool) → Within test other → (ts : List Token) → Quiet other ts → Quiet test ts
Quiet-within test other w ts h = false_from_ne_true (first_is test ts) (λ k. both_ways (first_is other ts) h (first_within test other w ts k))

pub Quiet-apart : (test other : Token → Bool) → Apart test other → (ts : List Token) → first_is test ts ≡ true →
    Quiet other ts
Quiet-apart test other w [] h = refl
Quiet-apart test other w (x ∷ ts) h = w x h

pub first_left : (test other : Token → Bool) (ts : List Token) → first_is test ts ≡ true →
    first_is (λ t. test t || other t) ts ≡ true
first_left test other [] h = h
first_left test other (x ∷ ts) h = or_left (test x) (other x) h

pub first_right : (test other : Token → Bool) (ts : List Token) → first_is other ts ≡ true →
    first_is (λ t. test t || other t) ts ≡ true
first_right test other [] h = h
first_right test other (x ∷ ts) h = or_right (test x) (other x) h

pub first_either : (test other : Token → Bool) (ts : List Token) → first_is (λ t. test t || other t) ts ≡ true →
    (first_is test ts ≡ true) ⊎ (first_is other ts ≡ true)
first_either test other [] h = inl h
first_either test other (x ∷ ts) h = or_cases (test x) (other x) h

-- a test of what stands before other tokens, where it is known how the test goes where nothing stands before them
pub Quiet-word : (test : Token → Bool) (word ms rest others : List Token) → ms ≡ word ++ rest →
    (Quiet test rest → Quiet test others) → Quiet test ms → Quiet test (word ++ others)
Quiet-word test [] ms rest others e f h = f (ap (first_is test) (sym e) ∙ h)
Quiet-word test (x ∷ word) ms rest others e f h = ap (first_is test) (sym e) ∙ h

-- the same where a token that is kept stands between
pub Quiet-kept : (test : Token → Bool) (word ms : List Token) (fault : Fault) (left others : List Token) →
    ms ≡ word ++ left → Quiet test others → Quiet test ms →
    Quiet test (word ++ (kept fault left ++ others))
Quiet-kept test word ms Expected left others e h = Quiet-word test word ms left others e (λ _. h)
Quiet-kept test word ms (Passes q) [] others e h = Quiet-word test word ms [] others e (λ _. h)
Quiet-kept test word ms (Passes q) (x ∷ left) others e h = Quiet-word test word ms (x ∷ left) (x ∷ others) e (λ k. k)

-- ---- what is asked

pub upto_mild : (fault : Fault) (n : ℕ) → Mild (upto fault n)
upto_mild fault n left q count h = ((λ _. h), λ _ _ _. h)

pub nothing_silent : (n : ℕ) → Silent nothing n
nothing_silent n left q count h = tt

pub Silent-less : (asked : Asked) (m n : ℕ) → m ≤ n → Silent asked n → Silent asked m
Silent-less asked m n h s left q count k = s left q count (omega arith)

-- nothing is asked behind the place where a reader has stopped
pub upto_silent : (fault : Fault) (m n : ℕ) → m < n → Silent (upto fault n) m
upto_silent fault m n h left q count k = ((λ l. absurd (omega arith)), λ _ l _. absurd (omega arith))

pub upto_silent_at : (fault : Fault) (n : ℕ) → asks_nesting fault ≡ false → Silent (upto fault n) n
upto_silent_at fault n h left q count k = ((λ l. absurd (omega arith)), λ a _ _. absurd (true≢false (sym a ∙ h)))

pub upto_behind : (fault : Fault) (left ts : List Token) → ((q : Quantity) → fault ≡ Passes q → left ≡ [] → ⊥) →
    Silent (upto fault (length (kept fault left ++ ts))) (length ts)
upto_behind Expected left ts there = upto_silent_at Expected (length ts) refl
upto_behind (Passes q) [] ts there = absurd (there q refl refl)
upto_behind (Passes q) (x ∷ left) ts there = upto_silent (Passes q) (length ts) (length (x ∷ ts)) (omega arith)

-- what is asked at a token, said of the same tokens
pub AsksOnly-at : (asked : Asked) (depth : ℕ) (ts us : List Token) → ts ≡ us → AsksOnly asked depth ts →
    AsksOnly asked depth us
AsksOnly-at asked depth ts us e h = subst (AsksOnly asked depth) e h
