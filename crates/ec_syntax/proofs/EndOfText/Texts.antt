-- The tokens of a text: the last of them and no other is the end, which only ends programs.
use Rattle.std.proofs.Common.{◌≡◌, refl, ap, sym, ◌∙◌, ℕ, Bool, true, false, not, ◌&&◌, true≢false, List, [], ◌∷◌, ◌++◌, Some, is_some}
use Rattle.ec_base.specs.Lexical.{Rises}
use Rattle.ec_base.specs.declared.token.Span.{Span}
use Rattle.ec_base.specs.declared.token.Token.{Token}
use Rattle.ec_syntax.specs.declared.item.Program.{Program}
use Rattle.ec_syntax.specs.Grammar.State.{State, Asked}
use Rattle.ec_syntax.specs.Grammar.Tokens.{is_end}
use Rattle.ec_syntax.specs.Grammar.Items.{program, place_if}
use Rattle.ec_syntax.specs.Grammar.Reading.{start, IsProgram}
use Rattle.ec_syntax.proofs.EndOfText.Inside.{no_end, Asks, one_grown}
use Rattle.ec_syntax.proofs.EndOfText.Grammar.{items_inner}

-- ---- lists

cons_nil : {A : Type 0} {x : A} {xs : List A} → x ∷ xs ≡ [] → ⊥
cons_nil e = absurd (cc)

tail_of : {A : Type 0} → List A → List A
tail_of [] = []
tail_of (x ∷ xs) = xs

head_of : {A : Type 0} → A → List A → A
head_of y [] = y
head_of y (x ∷ xs) = x

pub same_tail : {A : Type 0} {x y : A} {xs ys : List A} → x ∷ xs ≡ y ∷ ys → xs ≡ ys
unfolding tail_of
same_tail e = ap tail_of e

pub same_head : {A : Type 0} {x y : A} {xs ys : List A} → x ∷ xs ≡ y ∷ ys → x ≡ y
unfolding head_of
same_head {x = x} e = ap (head_of x) e

-- ---- the end

-- behind the end of a text stands nothing
pub rises_end : {from : ℕ} {ts : List Token} → Rises from ts → (w : List Token) (x : Token) (rest : List Token) →
    ts ≡ w ++ x ∷ rest → is_end x ≡ true → rest ≡ []
rises_end (Rises.last e small at) [] x rest eq h = sym (same_tail eq)
rises_end (Rises.last e small at) (y ∷ []) x rest eq h = absurd (cons_nil (sym (same_tail eq)))
rises_end (Rises.last e small at) (y ∷ z ∷ w) x rest eq h = absurd (cons_nil (sym (same_tail eq)))
rises_end (Rises.next {x = y} e small at r) [] x rest eq h = absurd (true≢false (sym h ∙ ap is_end (sym (same_head eq)) ∙ e))
rises_end (Rises.next e small at r) (y ∷ w) x rest eq h = rises_end r w x rest (same_tail eq) h

-- its last token is the end
pub record Ended (ts : List Token) : Type 0 where
  pub front : List Token
  pub last : Token
  pub is : ts ≡ front ++ last ∷ []
  pub ends : is_end last ≡ true

pub rises_last : {from : ℕ} {ts : List Token} → Rises from ts → Ended ts
rises_last (Rises.last {x = x} e small at) = record { front = []; last = x; is = refl; ends = e }
rises_last (Rises.next {x = x} e small at r) =
    let k = rises_last r in
    record { front = x ∷ k.front; last = k.last; is = ap (λ l. x ∷ l) k.is; ends = k.ends }

-- ---- programs

-- what is asked of a program may be less
program_grown : (nested : ℕ) (asked other : Asked) → Asks asked other → (s : State) (p : Program) (m : State) →
    program nested asked s p m → program nested other s p m
program_grown nested asked other e s p m (items, k, h, (at, l, ending, r)) =
    (items, k, (items_inner nested).grown asked other e s items k h, (at, l, one_grown asked other e k at l ending, r))

pub grows : (asked other : Asked) → Asks asked other → (tokens : List Token) (p : Program) → IsProgram asked tokens p →
    IsProgram other tokens p
grows asked other e tokens p k = (k.0, k.1, program_grown k.0 asked other e (start tokens) p k.1 k.2, k.3)

placed_end : (b : Bool) (x : Token) (at : Span) → place_if b x ≡ Some at → b ≡ true
placed_end true x at e = refl
placed_end false x at e = absurd (true≢false (sym (ap is_some e)))

-- a program ends with the end, which stands nowhere else in it
pub record Closed (s m : State) : Type 0 where
  pub front : List Token
  pub last : Token
  pub is : s.left ≡ front ++ last ∷ m.left
  pub inner : no_end front ≡ true
  pub ends : is_end last ≡ true

pub program_closed : (nested : ℕ) (asked : Asked) (s : State) (p : Program) (m : State) → program nested asked s p m →
    Closed s m
program_closed nested asked s p m (items, k, h, (at, l, ending, r)) =
    let w = (items_inner nested).spent asked s items k h in
    record {
      front = w.word;
      last = ending.token;
      is = w.is ∙ ap (λ ts. w.word ++ ts) (ending.stands ∙ ap (λ z. ending.token ∷ z.left) (sym (r.1 ∙ ending.next)));
      inner = w.inner;
      ends = placed_end (is_end ending.token) ending.token at ending.picked;
    }

-- the end doesn't stand before the last token of a program
pub not_before : (u : List Token) (e : Token) (f : Token) (fs : List Token) (w : List Token) (x : Token) →
    is_end e ≡ true → no_end w ≡ true → u ++ e ∷ f ∷ fs ≡ w ++ x ∷ [] → ⊥
not_before [] e f fs [] x h k eq = cons_nil (same_tail eq)
not_before [] e f fs (y ∷ w) x h k eq = by (is_end y) (ap is_end (sym (same_head eq)) ∙ h) k
  where
    by : (b : Bool) → b ≡ true → (not b && no_end w) ≡ true → ⊥
    by true g l = true≢false (sym l)
    by false g l = true≢false (sym g)
not_before (z ∷ []) e f fs [] x h k eq = cons_nil (same_tail eq)
not_before (z ∷ y ∷ u) e f fs [] x h k eq = cons_nil (same_tail eq)
not_before (z ∷ u) e f fs (y ∷ w) x h k eq = not_before u e f fs w x h (by (is_end y) k) (same_tail eq)
  where
    by : (b : Bool) → (not b && no_end w) ≡ true → no_end w ≡ true
    by true l = absurd (true≢false (sym l))
    by false l = l
