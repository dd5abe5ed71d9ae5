-- The first of the tokens that are left, and words that pass from a language into another.
use Rattle.std.proofs.Common.{◌≡◌, refl, ◌≤◌, ◌<◌, ⊎_elim, ℕ, Bool, true, List, [], ◌∷◌, ◌++◌, length, arith, true≢false, sym}
use Rattle.ec_base.specs.declared.limits.TheConstants.{MAX_NESTING}
use Rattle.ec_base.specs.declared.token.Token.{Token}
use Rattle.ec_syntax.specs.Grammar.State.{State, Asked}
use Rattle.ec_syntax.specs.declared.quantity.Fault.{Fault}
use Rattle.ec_syntax.specs.declared.quantity.Fault.TheVariants.{Expected, Passes}
use Rattle.ec_syntax.specs.declared.quantity.Quantity.{Quantity}
use Rattle.ec_syntax.specs.declared.quantity.Quantity.TheVariants.{Nesting}
use Rattle.ec_syntax.specs.Grammar.Language.{Language, first_is}
use Rattle.ec_syntax.proofs.Decision.Procedures.{Spoken, kept, ◌with◌, upto, asks_nesting, Carried, Ended, Ends, Opened, Opens, Skipped, Completed}
use Rattle.ec_syntax.proofs.Tokens.Sequences.{upto_silent, upto_silent_at}

-- ---- the first token

behind_front : (test : Token → Bool) (word : List Token) (x : Token) (us vs : List Token) →
    first_is test (word ++ (x ∷ us)) ≡ first_is test (word ++ (x ∷ vs))
behind_front test [] x us vs = refl
behind_front test (y ∷ word) x us vs = refl

-- the first token stays where what stands behind the next is changed
pub first_still : (test : Token → Bool) (ts word left : List Token) (x : Token) (rest others : List Token) →
    ts ≡ word ++ left → left ≡ x ∷ rest → first_is test (word ++ (x ∷ others)) ≡ first_is test ts
first_still test ts word left x rest others is e = rw (is, e) (behind_front test word x others rest)

-- a token that passes the test stands first
pub record Front (test : Token → Bool) (ts : List Token) : Type 0 where
  pub token : Token
  pub rest : List Token
  pub is : ts ≡ token ∷ rest
  pub passes : test token ≡ true

pub front : (test : Token → Bool) (ts : List Token) → first_is test ts ≡ true → Front test ts
front test [] h = absurd (true≢false (sym h))
front test (x ∷ rest) h = record { token = x; rest = rest; is = refl; passes = h }

-- ---- words that aren't empty

-- one begins with a token that passes the test, at its depth, and takes it
pub begins : {X A : Type 0} {able : Type 0} {d : ℕ} {l : X → Language A} {first goes : Token → Bool} →
    Spoken able d l ⊥ first goes →
    (x : X) (asked : Asked) (s : State) (a : A) (m : State) → l x asked s a m →
    (first_is first s.left ≡ true) × asked s.left Nesting d × length m.left < length s.left
begins h x asked s a m w = ⊎_elim (λ y. y) (λ y. absurd y.0) (h.starts x asked s a m w)

-- so fewer tokens are left
pub takes : {X A : Type 0} {able : Type 0} {d : ℕ} {l : X → Language A} {first goes : Token → Bool} →
    Spoken able d l ⊥ first goes →
    (x : X) (asked : Asked) (s : State) (a : A) (m : State) → l x asked s a m → length m.left < length s.left
takes h x asked s a m w = (begins h x asked s a m w).2

-- ---- into another language

abbrev pub Into : {A : Type 0} → Language A → Language A → Type 1
Into {A} l other = (asked : Asked) (s : State) (a : A) (m : State) → l asked s a m → other asked s a m

pub carried_into : {A : Type 0} {l other : Language A} {s : State} {a : A} {m : State} → Into l other →
    Carried l s a m → Carried other s a m
carried_into into c = record { word = c.word; is = c.is; still = λ asked rest mild calm. into asked _ _ _ (c.still asked rest mild calm) }

pub ended_into : {A : Type 0} {l other : Language A} {s : State} {rest : List Token} → Into l other → Ended l s rest →
    Ended other s rest
ended_into into e = record { value = e.value; after = e.after; behind = e.behind; read = λ asked silent. into asked _ _ _ (e.read asked silent) }

-- what ends a word of some languages ends one of others, and what begins one
pub ends_as : {X Y A B : Type 0} {l : X → Language A} {other : Y → Language B} {rest : List Token} (e : Ends l rest) →
    ((y : Y) (s : State) → s.left ≡ e.fill ++ rest → Ended (other y) s rest) → Ends other rest
ends_as e ended = record { fill = e.fill; lexical = e.lexical; calm = e.calm; ended = ended }

pub opens_as : {X Y A B : Type 0} {depth : ℕ} {l : X → Language A} {other : Y → Language B} {here : Token}
    {rest : List Token} (o : Opens depth l here rest) →
    ((y : Y) (s : State) → s.left ≡ here ∷ (o.fill ++ rest) → Opened depth (other y) s (length (o.fill ++ rest)) rest) →
    Opens depth other here rest
opens_as o opened = record { fill = o.fill; lexical = o.lexical; calm = o.calm; opened = opened }

pub ends_into : {X A : Type 0} {l other : X → Language A} {rest : List Token} → ((x : X) → Into (l x) (other x)) →
    Ends l rest → Ends other rest
ends_into into e = ends_as e (λ x s is. ended_into (into x) (e.ended x s is))

pub opened_into : {A : Type 0} {depth : ℕ} {l other : Language A} {s : State} {more : ℕ} {rest : List Token} →
    Into l other → Opened depth l s more rest → Opened depth other s more rest
opened_into into o = record { value = o.value; after = o.after; behind = o.behind; read = λ asked silent only. into asked _ _ _ (o.read asked silent only) }

pub opens_into : {X A : Type 0} {depth : ℕ} {l other : X → Language A} {here : Token} {rest : List Token} →
    ((x : X) → Into (l x) (other x)) → Opens depth l here rest → Opens depth other here rest
opens_into into o = opens_as o (λ x s is. opened_into (into x) (o.opened x s is))

pub skipped_into : {A : Type 0} {l other : Language A} {s : State} → Into l other → Skipped l s → Skipped other s
skipped_into into k = record { value = k.value; after = k.after; behind = k.behind; read = λ asked. into asked _ _ _ (k.read asked) }

-- what completes a word completes one that stands before the same tokens
pub completed_as : {A B : Type 0} {l : Language A} {other : Language B} {s s' : State} {word word' : List Token}
    {fault : Fault} {left rest : List Token} (c : Completed l s word fault left rest) (b : B) →
    other (upto fault (length (kept fault left ++ (c.fill ++ rest))))
    (s' with (word' ++ (kept fault left ++ (c.fill ++ rest)))) b c.after → Completed other s' word' fault left rest
completed_as c b h = record { fill = c.fill; lexical = c.lexical; calm = c.calm; value = b; after = c.after; behind = c.behind; read = h }

pub completed_into : {A : Type 0} {l other : Language A} {s : State} {word : List Token} {fault : Fault}
    {left rest : List Token} → Into l other → Completed l s word fault left rest →
    Completed other s word fault left rest
completed_into into c = completed_as c c.value (into _ _ _ _ c.read)

-- ---- what completes what has stopped at once

pub completed_ends : {X A : Type 0} {l : X → Language A} {rest : List Token} (x : X) (s : State) (left : List Token) →
    Ends l rest → Completed (l x) s [] Expected left rest
completed_ends {l = l} {rest = rest} x s left e =
    let end : Ended (l x) (s with (e.fill ++ rest)) rest = e.ended x (s with (e.fill ++ rest)) refl in
    record {
      fill = e.fill;
      lexical = e.lexical;
      calm = e.calm;
      value = end.value;
      after = end.after;
      behind = end.behind;
      read = end.read (upto Expected (length (e.fill ++ rest))) (upto_silent_at Expected (length (e.fill ++ rest)) refl);
    }

asks_depth : (q : Quantity) (d : ℕ) (ts : List Token) → (asks_nesting (Passes q) ≡ true → d ≤ MAX_NESTING) →
    (other : Quantity) (count : ℕ) → (other ≡ Nesting → count ≡ d) → upto (Passes q) (length ts) ts other count
asks_depth q d ts deep other count only = ((λ h. absurd (omega arith)), λ asks e nesting. rw nesting (rw (only nesting) (deep asks)))

pub completed_opens : {X A : Type 0} {d : ℕ} {l : X → Language A} {here : Token} {rest : List Token} (q : Quantity)
    (x : X) (s : State) (left : List Token) → (asks_nesting (Passes q) ≡ true → d ≤ MAX_NESTING) →
    Opens d l here rest → Completed (l x) s [] (Passes q) (here ∷ left) rest
completed_opens {d = d} {l = l} {here = here} {rest = rest} q x s left deep o =
    let ts : List Token = here ∷ (o.fill ++ rest) in
    let word : Opened d (l x) (s with ts) (length (o.fill ++ rest)) rest = o.opened x (s with ts) refl in
    record {
      fill = o.fill;
      lexical = o.lexical;
      calm = o.calm;
      value = word.value;
      after = word.after;
      behind = word.behind;
      read = word.read (upto (Passes q) (length ts)) (upto_silent (Passes q) (length (o.fill ++ rest)) (length ts) (omega arith)) (asks_depth q d ts deep);
    }
