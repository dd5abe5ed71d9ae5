-- One reader behind another.
use Rattle.std.proofs.Common.{◌≡◌, refl, sym, ◌∙◌, ap, subst, ⊎_elim, inr, ℕ, Bool, ◌||◌, List, [], ◌∷◌, ◌++◌, length, append_assoc}
use Rattle.ec_base.specs.declared.token.Token.{Token}
use Rattle.ec_syntax.specs.Grammar.State.{State, Asked}
use Rattle.ec_syntax.specs.Grammar.Language as language
use Rattle.ec_syntax.specs.Grammar.Language.{Language}
use Rattle.ec_syntax.specs.Descent.Reader as read
use Rattle.ec_syntax.specs.Descent.Reader.{Reader, Outcome}
use Rattle.ec_syntax.specs.Descent.Reader.Outcome.{Done, Stopped}
use Rattle.ec_syntax.specs.declared.quantity.Fault.{Fault}
use Rattle.ec_syntax.specs.declared.quantity.Fault.TheVariants.{Passes}
use Rattle.ec_syntax.specs.declared.quantity.Quantity.{Quantity}
use Rattle.ec_syntax.proofs.Decision.Procedures.{◌with◌, Silent, upto, kept, Quiet, is_else, Ends, Faces, Reads, Stops, Completed, Within, Apart, Spoken, Decides, Trails, Follows}
use Rattle.ec_syntax.proofs.Lookahead.FirstTokens.{completed_as}
use Rattle.ec_syntax.proofs.Tokens.Sequences.{with_assoc, split_in, no_longer, Lexical-append, Quiet-kept, upto_mild, upto_behind, Silent-less}
use Rattle.ec_syntax.proofs.Decision.Concatenation as both
use Rattle.std.proofs.lemmas.List.{append_cancel_right}

module _ {X A B : Type 0} {l : X → Language A} (g : X → A → Language B) {able : Type 0} {empty_p empty_f : Type 0}
    {first_p first_f goes_p goes_f : Token → Bool}
    {p : X → Reader A} (f : X → A → Reader B) (h : Follows able p l empty_p first_p goes_p) (k : Follows {X = X × A} able (λ xa. f xa.0 xa.1) (λ xa. g xa.0 xa.1) empty_f first_f goes_f)
    (apart : Apart first_f goes_p) (within : empty_f → Within goes_p goes_f) where
  abbrev Both : X → Language B
  Both x = language.◌>>=◌ (l x) (g x)

  abbrev Seconds : X × A → Language B
  Seconds xa = g xa.0 xa.1

  abbrev on : X → Reader B
  on x = read.◌>>=◌ (p x) (f x)

  -- the first reads its word before any tokens that begin alike
  read_again : (x : X) (s : State) (a : A) (m : State) (r : Reads (p x) (l x) s a m) (word ts : List Token) →
      m.left ≡ word ++ ts → (y : Token) (rest others : List Token) → ts ≡ y ∷ rest →
      p x (s with (r.word ++ (word ++ (y ∷ others)))) ≡ Done a (m with (word ++ (y ∷ others)))
  read_again x s a m r [] ts e y rest others j = r.same y rest others (e ∙ j)
  read_again x s a m r (z ∷ word) ts e y rest others j = r.same z (word ++ ts) (word ++ (y ∷ others)) e

  -- and then the second goes on
  goes_on : (x : X) (s : State) (a : A) (m : State) (r : Reads (p x) (l x) s a m) (word ts : List Token) →
      m.left ≡ word ++ ts → (y : Token) (rest others : List Token) → ts ≡ y ∷ rest →
      on x (s with ((r.word ++ word) ++ (y ∷ others))) ≡ f x a (m with (word ++ (y ∷ others)))
  goes_on x s a m r word ts e y rest others j =
      ap (λ z. on x z) (with_assoc s r.word word (y ∷ others)) ∙ ap (λ o. read.and_then o (f x)) (read_again x s a m r word ts e y rest others j)

  -- ---- both are read

  done_both : (x : X) (s : State) (a : A) (m : State) (b : B) (s' : State) → Reads (p x) (l x) s a m →
      Reads (f x a) (g x a) m b s' → Reads (on x) (Both x) s b s'
  done_both x s a m b s' r w = record {
    read = (a, m, r.read, w.read);
    word = r.word ++ w.word;
    is = split_in s.left r.word m.left w.word s'.left r.is w.is;
    same = λ y rest others j. goes_on x s a m r w.word s'.left w.is y rest others j ∙ w.same y rest others j;
  }

  done_by : able → (x : X) (s : State) (o : Outcome A) → p x s ≡ o → (b : B) (s' : State) →
      read.and_then o (f x) ≡ Done b s' → Reads (on x) (Both x) s b s'
  done_by i x s (Done a m) e b s' j = done_both x s a m b s' (h.done i x s a m e) (k.done i (x, a) m b s' j)
  done_by i x s (Stopped fault left) e b s' j = absurd (cc)

  -- ---- the first stops

  completed_first : (x : X) (s : State) (word : List Token) (fault : Fault) (left rest : List Token) →
      ((q : Quantity) → fault ≡ Passes q → left ≡ [] → ⊥) → (o : Ends Seconds rest) →
      Completed (l x) s word fault left (o.fill ++ rest) → Completed (Both x) s word fault left rest
  completed_first x s word fault left rest there o n =
      let y = o.ended (x, n.value) n.after n.behind in record {
        fill = n.fill ++ o.fill;
        lexical = Lexical-append n.fill o.fill n.lexical o.lexical;
        calm = subst (Quiet is_else) (sym (append_assoc n.fill o.fill rest)) n.calm;
        value = y.value;
        after = y.after;
        behind = y.behind;
        read = subst (λ u. Both x (upto fault (length (kept fault left ++ u))) (s with (word ++ (kept fault left ++ u))) y.value y.after) (sym (append_assoc n.fill o.fill rest))
            (n.value, n.after, n.read, y.read _ (silent n.after n.fill (o.fill ++ rest) n.behind));
      }
    where
      silent : (m : State) (us ts : List Token) → m.left ≡ ts →
          Silent (upto fault (length (kept fault left ++ (us ++ ts)))) (length m.left)
      silent m us ts e =
          Silent-less (upto fault (length (kept fault left ++ (us ++ ts)))) (length m.left) (length (us ++ ts)) (no_longer (us ++ ts) us m.left (ap (λ u. us ++ u) (sym e)))
          (upto_behind fault left (us ++ ts) there)

  stopped_first : able → (x : X) (s : State) (fault : Fault) (left : List Token) →
      Stops (p x) (l x) goes_p s fault left → Stops (on x) (Both x) goes_f s fault left
  stopped_first i x s fault left w = record {
    word = w.word;
    is = w.is;
    same = λ y rest others j. ap (λ o. read.and_then o (f x)) (w.same y rest others j);
    there = w.there;
    completed = λ rest q c.
        let o = k.trails.ends i rest q c in
        completed_first x s w.word fault left rest w.there o (w.completed (o.fill ++ rest) (both.quiet_behind g h.trails k.trails apart within i rest q o x) o.calm);
  }

  -- ---- the second stops

  completed_second : (x : X) (s : State) (a : A) (m : State) (fault : Fault) (left rest : List Token)
      (r : Reads (p x) (l x) s a m) (word : List Token) → m.left ≡ word ++ left →
      Completed (g x a) m word fault left rest → Completed (Both x) s (r.word ++ word) fault left rest
  completed_second x s a m fault left rest r word e n = completed_as n n.value (subst (λ z. Both x (upto fault (length (kept fault left ++ (n.fill ++ rest)))) z n.value n.after) (sym (with_assoc s r.word word (kept fault left ++ (n.fill ++ rest))))
      (a, m with (word ++ (kept fault left ++ (n.fill ++ rest))), first (n.fill ++ rest) n.calm, n.read))
    where
      first : (ts : List Token) → Quiet is_else ts →
          l x (upto fault (length (kept fault left ++ ts)))
          (s with (r.word ++ (word ++ (kept fault left ++ ts)))) a (m with (word ++ (kept fault left ++ ts)))
      first ts c =
          let w = h.trails.carried x s a m r.read in
          subst (λ u. l x (upto fault (length (kept fault left ++ ts))) (s with (u ++ (word ++ (kept fault left ++ ts)))) a (m with (word ++ (kept fault left ++ ts))))
          (append_cancel_right w.word r.word m.left (sym w.is ∙ r.is))
          (w.still (upto fault (length (kept fault left ++ ts))) (word ++ (kept fault left ++ ts)) (upto_mild fault (length (kept fault left ++ ts))) (Quiet-kept is_else word m.left fault left ts e c))

  stopped_second : (x : X) (s : State) (a : A) (m : State) (fault : Fault) (left : List Token) →
      Reads (p x) (l x) s a m → Stops (f x a) (g x a) goes_f m fault left →
      Stops (on x) (Both x) goes_f s fault left
  stopped_second x s a m fault left r w = record {
    word = r.word ++ w.word;
    is = split_in s.left r.word m.left w.word left r.is w.is;
    same = λ y rest others j. goes_on x s a m r w.word left w.is y rest others j ∙ w.same y rest others j;
    there = w.there;
    completed = λ rest q c. completed_second x s a m fault left rest r w.word w.is (w.completed rest q c);
  }

  stopped_by : able → (x : X) (s : State) (o : Outcome A) → p x s ≡ o → (fault : Fault) (left : List Token) →
      read.and_then o (f x) ≡ Stopped fault left → Stops (on x) (Both x) goes_f s fault left
  stopped_by i x s (Done a m) e fault left j = stopped_second x s a m fault left (h.done i x s a m e) (k.stopped i (x, a) m fault left j)
  stopped_by i x s (Stopped other ts) e fault left j =
      let same_fault : other ≡ fault = cc in
      let same_left : ts ≡ left = cc in
      stopped_first i x s fault left (h.stopped i x s fault left (e ∙ ap (λ u. Stopped u ts) same_fault ∙ ap (λ u. Stopped fault u) same_left))

  -- ---- a word of the language

  complete_both : (x : X) (asked : Asked) (s : State) (b : B) (s' : State) → Both x asked s b s' →
      Quiet goes_f s'.left → Faces asked (on x s) b s'
  complete_both x asked s b s' r q = ⊎_elim
      (λ e. subst (λ o. Faces asked (read.and_then o (f x)) b s') (sym e) (k.complete (x, r.0) asked r.1 b s' r.3 q))
      (λ n. inr (record { quantity = n.quantity; left = n.left; count = n.count; is = ap (λ o. read.and_then o (f x)) n.is; wanted = n.wanted; passes = n.passes }))
      (h.complete x asked s r.0 r.1 r.2 (both.quiet_first g h.trails k.trails apart within x asked r.1 r.0 b s' r.3 q))

  pub followed_follows : (empty_p → ⊥) → Follows able (λ x. read.◌>>=◌ (p x) (f x))
      (λ x. language.◌>>=◌ (l x) (g x)) ⊥ first_p goes_f
  followed_follows some = record {
    trails = both.followed_trails g h.trails k.trails apart within some;
    done = λ i x s b s' e. done_by i x s (p x s) refl b s' e;
    stopped = λ i x s fault left e. stopped_by i x s (p x s) refl fault left e;
    complete = complete_both;
  }

module _ {X A B : Type 0} {l : X → Language A} {g : X → A → Language B} {able : Type 0} {d : ℕ}
    {empty_p empty_f : Type 0} {first_p first_f goes_p goes_f : Token → Bool} where
  -- the first has a token at least
  pub followed_spoken : Spoken able d l empty_p first_p goes_p →
      Trails {X = X × A} able (λ xa. g xa.0 xa.1) empty_f first_f goes_f →
      Apart first_f goes_p → (empty_f → Within goes_p goes_f) → (empty_p → ⊥) →
      Spoken able d (λ x. language.◌>>=◌ (l x) (g x)) ⊥ first_p goes_f
  followed_spoken h k apart within some = both.followed_spoken g h k apart within some

  pub followed : {p : X → Reader A} (f : X → A → Reader B) → Decides able d p l empty_p first_p goes_p →
      Follows {X = X × A} able (λ xa. f xa.0 xa.1) (λ xa. g xa.0 xa.1) empty_f first_f goes_f →
      Apart first_f goes_p → (empty_f → Within goes_p goes_f) → (empty_p → ⊥) →
      Decides able d (λ x. read.◌>>=◌ (p x) (f x)) (λ x. language.◌>>=◌ (l x) (g x)) ⊥ first_p goes_f
  followed f h k apart within some =
      let t = followed_follows g f (both.decides_follows h) k apart within some in
      record {
        spoken = both.followed_spoken g h.spoken k.trails apart within some;
        done = t.done;
        stopped = t.stopped;
        complete = t.complete;
      }

  -- the first may have none
  pub followed_maybe_spoken : Spoken able d l empty_p first_p goes_p →
      Spoken able d (λ (xa : X × A). g xa.0 xa.1) empty_f first_f goes_f →
      Apart first_f goes_p → (empty_f → Within goes_p goes_f) → Apart first_f is_else → empty_p →
      Spoken able d (λ x. language.◌>>=◌ (l x) (g x)) empty_f (λ t. first_p t || first_f t) goes_f
  followed_maybe_spoken h k apart within calm none = both.followed_maybe_spoken g h k apart within calm none

  pub followed_maybe : {p : X → Reader A} (f : X → A → Reader B) → Decides able d p l empty_p first_p goes_p →
      Decides able d (λ (xa : X × A). f xa.0 xa.1) (λ (xa : X × A). g xa.0 xa.1) empty_f first_f goes_f →
      Apart first_f goes_p → (empty_f → Within goes_p goes_f) → Apart first_f is_else → empty_p →
      Decides able d (λ x. read.◌>>=◌ (p x) (f x))
      (λ x. language.◌>>=◌ (l x) (g x)) empty_f (λ t. first_p t || first_f t) goes_f
  followed_maybe {p} f h k apart within calm none = record {
    spoken = both.followed_maybe_spoken g h.spoken k.spoken apart within calm none;
    done = λ i x s b s' e. done_by g f (both.decides_follows h) (both.decides_follows k) apart within i x s (p x s) refl b s' e;
    stopped = λ i x s fault left e. stopped_by g f (both.decides_follows h) (both.decides_follows k) apart within i x s (p x s) refl fault left e;
    complete = complete_both g f (both.decides_follows h) (both.decides_follows k) apart within;
  }
