-- A choice of two languages, told by the next token.
use Rattle.std.proofs.Common.{◌≡◌, ◌∙◌, ◌⊎◌, ⊎_elim, inl, inr, ◌<◌, ℕ, Bool, true, false, List, ◌||◌, length}
use Rattle.std.proofs.lemmas.Bool.{cases_Bool, or_cases}
use Rattle.ec_base.specs.declared.token.Token.{Token}
use Rattle.ec_syntax.specs.Grammar.State.{State, Asked, limits}
use Rattle.ec_syntax.specs.declared.quantity.Fault.{Fault}
use Rattle.ec_syntax.specs.declared.quantity.Quantity.TheVariants.{Nesting}
use Rattle.ec_syntax.specs.Grammar.Language.{Language, first_is, ◌or◌}
use Rattle.ec_syntax.specs.Descent.Reader.{Reader, when}
use Rattle.ec_syntax.specs.Descent.Reader.Outcome.{Done, Stopped}
use Rattle.ec_syntax.proofs.Decision.Procedures.{Quiet, is_else, Carried, Opens, Faces, Reads, Stops, Spoken, Decides, Trails, Follows, Within, Apart}
use Rattle.ec_syntax.proofs.Tokens.Sequences.{first_within, first_left, first_right, Quiet-within, Quiet-apart}
use Rattle.ec_syntax.proofs.Decision.Equations.{when_then, when_else}
use Rattle.ec_syntax.proofs.Decision.Concatenation.{spoken_trails, decides_follows}
use Rattle.ec_syntax.proofs.Lookahead.FirstTokens.{first_still, Into, carried_into, ends_into, opens_into, skipped_into, completed_into}

-- ---- languages

pub into_left : {A : Type 0} (l r : Language A) → Into l (l or r)
into_left l r asked s a m h = inl h

pub into_right : {A : Type 0} (l r : Language A) → Into r (l or r)
into_right l r asked s a m h = inr h

module _ {X A : Type 0} {able : Type 0} {l r : X → Language A} {empty : Type 0} {first other goes : Token → Bool}
    (P : Trails able l ⊥ first goes) (Q : Trails able r empty other goes) where
  carried : (x : X) (s : State) (a : A) (m : State) → (l x or r x) limits s a m → Carried (l x or r x) s a m
  carried x s a m (inl h) = carried_into (into_left (l x) (r x)) (P.carried x s a m h)
  carried x s a m (inr h) = carried_into (into_right (l x) (r x)) (Q.carried x s a m h)

  starts_either : (x : X) (asked : Asked) (s : State) (a : A) (m : State) → (l x or r x) asked s a m →
      ((first_is (λ t. first t || other t) s.left ≡ true) × (length m.left < length s.left))
      ⊎ (empty × (m.left ≡ s.left))
  starts_either x asked s a m (inl h) = ⊎_elim (λ k. inl (first_left first other s.left k.0, k.1)) (λ k. absurd k.0) (P.starts x asked s a m h)
  starts_either x asked s a m (inr h) = ⊎_elim (λ k. inl (first_right first other s.left k.0, k.1)) (λ k. inr k) (Q.starts x asked s a m h)

  pub either_trails : Trails able (λ x. l x or r x) empty (λ t. first t || other t) goes
  either_trails = record { carried = carried; starts = starts_either; ends = λ can rest quiet calm. ends_into (λ x. into_left (l x) (r x)) (P.ends can rest quiet calm) }

module _ {X A : Type 0} {able : Type 0} {d : ℕ} {l r : X → Language A} {empty : Type 0}
    {first other goes : Token → Bool}
    (P : Spoken able d l ⊥ first goes) (Q : Spoken able d r empty other goes) where
  starts : (x : X) (asked : Asked) (s : State) (a : A) (m : State) → (l x or r x) asked s a m →
      ((first_is (λ t. first t || other t) s.left ≡ true) × asked s.left Nesting d × length m.left < length s.left)
      ⊎ (empty × (m.left ≡ s.left))
  starts x asked s a m (inl h) = ⊎_elim (λ k. inl (first_left first other s.left k.0, k.1, k.2)) (λ k. absurd k.0) (P.starts x asked s a m h)
  starts x asked s a m (inr h) = ⊎_elim (λ k. inl (first_right first other s.left k.0, k.1, k.2)) (λ k. inr k) (Q.starts x asked s a m h)

  opens : able → (here : Token) → (first here || other here) ≡ true → (rest : List Token) → Quiet goes rest →
      Quiet is_else rest → Opens d (λ x. l x or r x) here rest
  opens can here h rest quiet calm = ⊎_elim (λ k. opens_into (λ x. into_left (l x) (r x)) (P.opens can here k rest quiet calm)) (λ k. opens_into (λ x. into_right (l x) (r x)) (Q.opens can here k rest quiet calm))
      (or_cases (first here) (other here) h)

  pub either_spoken : Spoken able d (λ x. l x or r x) empty (λ t. first t || other t) goes
  either_spoken =
      let t = either_trails (spoken_trails P) (spoken_trails Q) in record {
        carried = t.carried;
        starts = starts;
        ends = t.ends;
        opens = opens;
        skips = λ can none x s quiet calm. skipped_into (into_right (l x) (r x)) (Q.skips can none x s quiet calm);
      }

-- ---- readers

-- A reader goes the way of another wherever the test of the next token goes as here. What that reads, and where it stops, holds of this.
module _ {A : Type 0} (test : Token → Bool) (way : Bool) (p' p : Reader A) (l' l : Language A) (into : Into l l')
    (alike : (s : State) → first_is test s.left ≡ way → p' s ≡ p s) where
  pub reads_so : (s : State) (a : A) (m : State) → first_is test s.left ≡ way → Reads p l s a m → Reads p' l' s a m
  reads_so s a m here h = record {
    read = into limits s a m h.read;
    word = h.word;
    is = h.is;
    same = λ x rest others e. alike _ (first_still test s.left h.word m.left x rest others h.is e ∙ here) ∙ h.same x rest others e;
  }

  pub stops_so : (goes : Token → Bool) (s : State) (fault : Fault) (left : List Token) → first_is test s.left ≡ way →
      Stops p l goes s fault left → Stops p' l' goes s fault left
  stops_so goes s fault left here h = record {
    word = h.word;
    is = h.is;
    same = λ x rest others e. alike _ (first_still test s.left h.word left x rest others h.is e ∙ here) ∙ h.same x rest others e;
    there = h.there;
    completed = λ rest quiet calm. completed_into into (h.completed rest quiet calm);
  }

module _ {A : Type 0} (test : Token → Bool) (p q : Reader A) (l r : Language A) where
  pub reads_left : (s : State) (a : A) (m : State) → first_is test s.left ≡ true → Reads p l s a m →
      Reads (when test p q) (l or r) s a m
  reads_left = reads_so test true (when test p q) p (l or r) l (into_left l r) (when_then test p q)

  reads_right : (s : State) (a : A) (m : State) → first_is test s.left ≡ false → Reads q r s a m →
      Reads (when test p q) (l or r) s a m
  reads_right = reads_so test false (when test p q) q (l or r) r (into_right l r) (when_else test p q)

  pub stops_left : (goes : Token → Bool) (s : State) (fault : Fault) (left : List Token) → first_is test s.left ≡ true →
      Stops p l goes s fault left → Stops (when test p q) (l or r) goes s fault left
  stops_left = stops_so test true (when test p q) p (l or r) l (into_left l r) (when_then test p q)

  stops_right : (goes : Token → Bool) (s : State) (fault : Fault) (left : List Token) → first_is test s.left ≡ false →
      Stops q r goes s fault left → Stops (when test p q) (l or r) goes s fault left
  stops_right = stops_so test false (when test p q) q (l or r) r (into_right l r) (when_else test p q)

module _ {X A : Type 0} {able : Type 0} {p q : X → Reader A} {l r : X → Language A} {empty : Type 0}
    {first other goes : Token → Bool} (test : Token → Bool)
    (P : Follows able p l ⊥ first goes) (Q : Follows able q r empty other goes) (within : Within first test) (apart : Apart other test) (last : empty → Within test goes) where
  done : able → (x : X) (s : State) (a : A) (m : State) → when test (p x) (q x) s ≡ Done a m →
      Reads (when test (p x) (q x)) (l x or r x) s a m
  done can x s a m h = ⊎_elim (λ passes. reads_left test (p x) (q x) (l x) (r x) s a m passes (P.done can x s a m (rw passes at h)))
      (λ fails. reads_right test (p x) (q x) (l x) (r x) s a m fails (Q.done can x s a m (rw fails at h))) (cases_Bool (first_is test s.left))

  stopped : able → (x : X) (s : State) (fault : Fault) (left : List Token) →
      when test (p x) (q x) s ≡ Stopped fault left → Stops (when test (p x) (q x)) (l x or r x) goes s fault left
  stopped can x s fault left h = ⊎_elim (λ passes. stops_left test (p x) (q x) (l x) (r x) goes s fault left passes (P.stopped can x s fault left (rw passes at h)))
      (λ fails. stops_right test (p x) (q x) (l x) (r x) goes s fault left fails (Q.stopped can x s fault left (rw fails at h))) (cases_Bool (first_is test s.left))

  to_left : (x : X) (asked : Asked) (s : State) (a : A) (m : State) → l x asked s a m → first_is test s.left ≡ true
  to_left x asked s a m h = ⊎_elim (λ k. first_within first test within s.left k.0) (λ k. absurd k.0) (P.trails.starts x asked s a m h)

  to_right : (x : X) (asked : Asked) (s : State) (a : A) (m : State) → r x asked s a m → Quiet goes m.left →
      first_is test s.left ≡ false
  to_right x asked s a m h quiet = ⊎_elim (λ k. Quiet-apart other test apart s.left k.0) (λ k. Quiet-within test goes (last k.0) s.left (rw k.1 at quiet)) (Q.trails.starts x asked s a m h)

  complete : (x : X) (asked : Asked) (s : State) (a : A) (m : State) → (l x or r x) asked s a m → Quiet goes m.left →
      Faces asked (when test (p x) (q x) s) a m
  complete x asked s a m (inl h) quiet = rw (to_left x asked s a m h) (P.complete x asked s a m h quiet)
  complete x asked s a m (inr h) quiet = rw (to_right x asked s a m h quiet) (Q.complete x asked s a m h quiet)

  pub either_follows : Follows able (λ x. when test (p x) (q x)) (λ x. l x or r x) empty (λ t. first t || other t) goes
  either_follows = record { trails = either_trails P.trails Q.trails; done = done; stopped = stopped; complete = complete }

pub either : {X A : Type 0} {able : Type 0} {d : ℕ} {p q : X → Reader A} {l r : X → Language A} {empty : Type 0}
    {first other goes : Token → Bool} (test : Token → Bool) →
    Decides able d p l ⊥ first goes → Decides able d q r empty other goes → Within first test → Apart other test →
    (empty → Within test goes) →
    Decides able d (λ x. when test (p x) (q x)) (λ x. l x or r x) empty (λ t. first t || other t) goes
either test P Q within apart last =
    let t = either_follows test (decides_follows P) (decides_follows Q) within apart last in
    record { spoken = either_spoken P.spoken Q.spoken; done = t.done; stopped = t.stopped; complete = t.complete }
