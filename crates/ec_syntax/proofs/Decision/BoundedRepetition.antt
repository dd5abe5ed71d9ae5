-- Readers that read in a bounded number of turns, as many as there are tokens, and languages of any number of turns.
use Rattle.std.proofs.Common.{◌≡◌, refl, sym, ◌∙◌, subst, ◌<◌, ◌+◌, ℕ, suc, Bool, List, ◌∷◌, ◌++◌, length, arith}
use Rattle.ec_base.specs.declared.token.Token.{Token}
use Rattle.ec_syntax.specs.Grammar.State.{State, Asked, limits}
use Rattle.ec_syntax.specs.declared.quantity.Fault.{Fault}
use Rattle.ec_syntax.specs.Grammar.Language as L
use Rattle.ec_syntax.specs.Grammar.Language.{Language, first_is}
use Rattle.ec_syntax.specs.Descent.Reader as R
use Rattle.ec_syntax.specs.Descent.Reader.{Reader, Outcome}
use Rattle.ec_syntax.specs.Descent.Reader.Outcome.{Done, Stopped}
use Rattle.ec_syntax.proofs.Decision.Procedures.{◌with◌, Reads, Stops, Spoken, Decides}
use Rattle.ec_syntax.proofs.Lookahead.FirstTokens.{takes, Into, carried_into, ends_into, opens_into, completed_into}
use Rattle.ec_syntax.proofs.Decision.Limited.{Told}
use Rattle.std.proofs.lemmas.List.{append_cancel_right}

-- ---- readers take tokens

-- a word that is read leaves fewer tokens
pub reads_fewer : {X A : Type 0} {able : Type 0} {d : ℕ} {p : X → Reader A} {l : X → Language A}
    {first goes : Token → Bool} → Decides able d p l ⊥ first goes → able →
    (x : X) (s : State) (a : A) (m : State) → p x s ≡ Done a m → length m.left < length s.left
reads_fewer h can x s a m e = let r = h.done can x s a m e in takes h.spoken x limits s a m r.read

-- two readers that go on alike from what the first part reads are alike
pub goes_on : {A B : Type 0} (p : Reader A) (f g : A → Reader B) (s : State) →
    ((a : A) (m : State) → p s ≡ Done a m → f a m ≡ g a m) → R.◌>>=◌ p f s ≡ R.◌>>=◌ p g s
goes_on {A} {B} p f g s h = by (p s) refl
  where
    by : (o : Outcome A) → p s ≡ o → R.and_then (p s) f ≡ R.and_then (p s) g
    by (Done a m) e = rw e (h a m e)
    by (Stopped fault left) e = rw e

-- no word at all, and any reader, where nothing need be able
pub nothing_told : {X A : Type 0} {fits : Type 0} {d : ℕ} (p : X → Reader A) (first goes : Token → Bool) →
    Told {X = X} fits ⊥ d p (λ x. L.never) ⊥ first goes
nothing_told p first goes =
    let spoken : Spoken ⊥ _ (λ x. L.never) ⊥ first goes = record {
      carried = λ x s a m h. absurd h;
      starts = λ x asked s a m h. absurd h;
      ends = λ can. absurd can;
      opens = λ can. absurd can;
      skips = λ can. absurd can;
    } in
    record {
      spoken = spoken;
      decides = λ fit. record { spoken = spoken; done = λ can. absurd can; stopped = λ can. absurd can; complete = λ x asked s a m h quiet. absurd h };
    }

-- ---- as many turns as there are tokens

-- `q` reads `Q` in at most so many turns, and `r` another such language in as many
module _ {X A : Type 0} {fits able : Type 0} {d : ℕ} {first goes : Token → Bool} (q r : ℕ → X → Reader A)
    (Q N : ℕ → X → Language A) (l : X → Language A)
    (told : (n : ℕ) → Told fits able d (q n) (Q n) ⊥ first goes) (bare : (n : ℕ) → Told fits ⊥ d (r n) (N n) ⊥ first goes)
    (out : (n : ℕ) (x : X) → Into (Q n x) (l x))
    (back : (n : ℕ) (x : X) (asked : Asked) (s : State) (a : A) (m : State) → length s.left < n → l x asked s a m → Q n x asked s a m)
    (bare_back : (n : ℕ) (x : X) (asked : Asked) (s : State) (a : A) (m : State) → length s.left < n → l x asked s a m → N n x asked s a m)
    (same : fits → able → (n k : ℕ) (x : X) (s : State) → length s.left < n → length s.left < k → q n x s ≡ r k x s) where
  abbrev whole : X → Reader A
  whole x s = r (suc (length s.left)) x s

  spoken : Spoken able d l ⊥ first goes
  spoken = record {
    carried = λ x s a m h. carried_into (out (suc (length s.left)) x) ((told (suc (length s.left))).spoken.carried x s a m (back (suc (length s.left)) x limits s a m (omega arith) h));
    starts = λ x asked s a m h. (told (suc (length s.left))).spoken.starts x asked s a m (back (suc (length s.left)) x asked s a m (omega arith) h);
    ends = λ can rest quiet calm. ends_into (out 0) ((told 0).spoken.ends can rest quiet calm);
    opens = λ can here h rest quiet calm. opens_into (out 0) ((told 0).spoken.opens can here h rest quiet calm);
    skips = λ can none. absurd none;
  }

  -- what is answered at these tokens is answered by so many turns
  at_most : fits → able → (n : ℕ) (x : X) (s : State) (o : Outcome A) → length s.left < n → whole x s ≡ o → q n x s ≡ o
  at_most fit can n x s o small e = same fit can n (suc (length s.left)) x s small (omega arith) ∙ e

  back_to : fits → able → (n : ℕ) (x : X) (s : State) (o : Outcome A) → length s.left < n → q n x s ≡ o → whole x s ≡ o
  back_to fit can n x s o small e = sym (same fit can n (suc (length s.left)) x s small (omega arith)) ∙ e

  same_done : fits → able → (x : X) (s : State) (a : A) (m : State) (word : List Token) → s.left ≡ word ++ m.left →
      whole x s ≡ Done a m →
      (y : Token) (rest others : List Token) → m.left ≡ y ∷ rest →
      whole x (s with (word ++ y ∷ others)) ≡ Done a (m with (y ∷ others))
  same_done fit can x s a m word is e y rest others left =
      let n : ℕ = suc (length s.left + length (word ++ y ∷ others)) in
      let h : Reads (q n x) (Q n x) s a m = ((told n).decides fit).done can x s a m (at_most fit can n x s (Done a m) (omega arith) e) in
      let w : h.word ≡ word = append_cancel_right h.word word m.left (sym h.is ∙ is) in
      back_to fit can n x (s with (word ++ y ∷ others)) (Done a (m with (y ∷ others))) (omega arith)
      (subst (λ v. q n x (s with (v ++ y ∷ others)) ≡ Done a (m with (y ∷ others))) w (h.same y rest others left))

  same_stopped : fits → able → (x : X) (s : State) (fault : Fault) (left word : List Token) → s.left ≡ word ++ left →
      whole x s ≡ Stopped fault left →
      (y : Token) (rest others : List Token) → left ≡ y ∷ rest →
      whole x (s with (word ++ y ∷ others)) ≡ Stopped fault (y ∷ others)
  same_stopped fit can x s fault left word is e y rest others front =
      let n : ℕ = suc (length s.left + length (word ++ y ∷ others)) in
      let h : Stops (q n x) (Q n x) goes s fault left = ((told n).decides fit).stopped can x s fault left (at_most fit can n x s (Stopped fault left) (omega arith) e) in
      let w : h.word ≡ word = append_cancel_right h.word word left (sym h.is ∙ is) in
      back_to fit can n x (s with (word ++ y ∷ others)) (Stopped fault (y ∷ others)) (omega arith)
      (subst (λ v. q n x (s with (v ++ y ∷ others)) ≡ Stopped fault (y ∷ others)) w (h.same y rest others front))

  done : fits → able → (x : X) (s : State) (a : A) (m : State) → whole x s ≡ Done a m → Reads (whole x) (l x) s a m
  done fit can x s a m e =
      let n : ℕ = suc (length s.left) in
      let h : Reads (q n x) (Q n x) s a m = ((told n).decides fit).done can x s a m (at_most fit can n x s (Done a m) (omega arith) e) in
      record {
        read = out n x limits s a m h.read;
        word = h.word;
        is = h.is;
        same = same_done fit can x s a m h.word
            h.is e;
      }

  stopped : fits → able → (x : X) (s : State) (fault : Fault) (left : List Token) → whole x s ≡ Stopped fault left →
      Stops (whole x) (l x) goes s fault left
  stopped fit can x s fault left e =
      let n : ℕ = suc (length s.left) in
      let h : Stops (q n x) (Q n x) goes s fault left = ((told n).decides fit).stopped can x s fault left (at_most fit can n x s (Stopped fault left) (omega arith) e) in
      record {
        word = h.word;
        is = h.is;
        same = same_stopped fit can x s fault left h.word h.is e;
        there = h.there;
        completed = λ rest quiet calm. completed_into (out n x) (h.completed rest quiet calm);
      }

  pub bounded_told : Told fits able d whole l ⊥ first goes
  bounded_told = record {
    spoken = spoken;
    decides = λ fit. record {
      spoken = spoken;
      done = done fit;
      stopped = stopped fit;
      complete = λ x asked s a m h quiet. ((bare (suc (length s.left))).decides fit).complete x asked s a m (bare_back (suc (length s.left)) x asked s a m (omega arith) h) quiet;
    };
  }
