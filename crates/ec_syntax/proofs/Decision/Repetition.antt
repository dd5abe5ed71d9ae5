-- Turns, told by the next token.
use Rattle.std.proofs.Common.{◌≡◌, refl, sym, ◌∙◌, ap, subst, ◌⊎◌, inl, inr, ◌≤◌, ◌<◌, ℕ, zero, suc, Bool, true, false, List, [], ◌∷◌, ◌++◌, length, append_assoc, arith}
use Rattle.std.proofs.Common.{length-append}
use Rattle.ec_base.specs.declared.token.Token.{Token}
use Rattle.ec_syntax.specs.Grammar.State.{State, Asked, limits}
use Rattle.ec_syntax.specs.declared.quantity.Quantity.{Quantity}
use Rattle.ec_syntax.specs.declared.quantity.Quantity.TheVariants.{Nesting}
use Rattle.ec_syntax.specs.declared.quantity.Fault.{Fault}
use Rattle.ec_syntax.specs.declared.quantity.Fault.TheVariants.{Passes}
use Rattle.ec_syntax.specs.Grammar.Language as L
use Rattle.ec_syntax.specs.Grammar.Language.{Language, Turns, first_is}
use Rattle.ec_syntax.specs.Grammar.Language.Turns.{over, more}
use Rattle.ec_syntax.specs.Descent.Reader as R
use Rattle.ec_syntax.specs.Descent.Reader.{Reader, Outcome, turns_by, and_then}
use Rattle.ec_syntax.specs.Descent.Reader.Outcome.{Done, Stopped}
use Rattle.ec_syntax.proofs.Decision.Procedures.{◌with◌, upto, kept, Quiet, is_else, Carried, Completed, Faces, Reads, Stops, Spoken, Decides, Within, Apart}
use Rattle.ec_syntax.proofs.Tokens.Sequences.{split_in, Quiet-within, Quiet-apart, Quiet-word, Quiet-kept, upto_mild}
use Rattle.ec_syntax.proofs.Lookahead.FirstTokens.{begins, takes, completed_as, first_still, Into, opens_into, completed_into}
use Rattle.std.proofs.lemmas.List.{append_cancel_right}
use Rattle.std.proofs.lemmas.Bool.{cases_Bool}

-- the turns of a word are those of its first turn and of what stands behind
pub carried_more : {A : Type 0} (turn : A → Language A) (a b c : A) (s m s' : State) → Carried (turn a) s b m →
    Carried (L.turns turn b) m c s' → Carried (L.turns turn a) s c s'
carried_more turn a b c s m s' h k = record {
  word = h.word ++ k.word;
  is = split_in s.left h.word m.left k.word s'.left h.is k.is;
  still = λ asked rest mild calm.
      rw (append_assoc h.word k.word rest)
      (more (h.still asked (k.word ++ rest) mild (λ quiet. Quiet-word is_else k.word m.left s'.left rest k.is calm quiet)) (k.still asked rest mild calm));
}

carried_over : {A : Type 0} (turn : A → Language A) (a : A) (s : State) → Carried (L.turns turn a) s a s
carried_over turn a s = record { word = []; is = refl; still = λ asked rest mild calm. over }

carried_turns : {A : Type 0} (turn : A → Language A) →
    ((a : A) (s : State) (b : A) (m : State) → turn a limits s b m → Carried (turn a) s b m) →
    (s : State) (a b : A) (m : State) → Turns turn limits s a b m → Carried (L.turns turn a) s b m
carried_turns turn h s a b m over = carried_over turn a s
carried_turns turn h s a c s' (more {m = m} {b = b} t ts) = carried_more turn a b c s m s' (h a s b m t) (carried_turns turn h m b c s' ts)

-- ---- languages

module _ {X A : Type 0} {able : Type 0} {d : ℕ} {test last : Token → Bool} (l : X → A → Language A)
    (P : Spoken {X = X × A} able d (λ xa. l xa.0 xa.1) ⊥ test last) where
  turns_start : (x : X) (asked : Asked) (s : State) (a b : A) (m : State) → Turns (l x) asked s a b m →
      ((first_is test s.left ≡ true) × asked s.left Nesting d × length m.left < length s.left)
      ⊎ (Unit {0} × (m.left ≡ s.left))
  turns_start x asked s a b m over = inr (tt, refl)
  turns_start x asked s a c s' (more {m = m} {b = b} t ts) = inl (k.0, k.1, shorter (turns_start x asked m b c s' ts))
    where
      k : (first_is test s.left ≡ true) × asked s.left Nesting d × length m.left < length s.left
      k = begins P (x, a) asked s b m t

      shorter : ((first_is test m.left ≡ true) × asked m.left Nesting d × length s'.left < length m.left)
          ⊎ (Unit {0} × (s'.left ≡ m.left)) → length s'.left < length s.left
      shorter (inl j) = let front : length m.left < length s.left = k.2 in let back : length s'.left < length m.left = j.2 in omega arith
      shorter (inr j) = let front : length m.left < length s.left = k.2 in rw j.1 front

  one_turn : (xa : X × A) → Into (l xa.0 xa.1) (L.turns (l xa.0) xa.1)
  one_turn xa asked s a m h = more h over

  pub turning_spoken : {goes : Token → Bool} → Within last goes →
      Spoken {X = X × A} able d (λ xa. L.turns (l xa.0) xa.1) (Unit {0}) test goes
  turning_spoken {goes} within = record {
    carried = λ xa s a m h. carried_turns (l xa.0) (λ b t c n k. P.carried (xa.0, b) t c n k) s xa.1 a m h;
    starts = λ xa asked s a m h. turns_start xa.0 asked s xa.1 a m h;
    ends = λ can rest quiet calm. record {
      fill = [];
      lexical = refl;
      calm = calm;
      ended = λ xa s is. record { value = xa.1; after = s; behind = is; read = λ asked silent. over };
    };
    opens = λ can here h rest quiet calm. opens_into one_turn (P.opens can here h rest (Quiet-within last goes within rest quiet) calm);
    skips = λ can none xa s quiet calm. record { value = xa.1; after = s; behind = refl; read = λ asked. over };
  }

-- ---- readers

module _ {A : Type 0} (test : Token → Bool) (turn : A → Reader A) where
  turns_none : (k : ℕ) (a : A) (s : State) → first_is test s.left ≡ false → turns_by k test turn a s ≡ Done a s
  turns_none zero a s h = refl
  turns_none (suc k) a s h = rw h refl

  turns_once : (k : ℕ) (a b : A) (s m : State) → first_is test s.left ≡ true → turn a s ≡ Done b m →
      turns_by (suc k) test turn a s ≡ turns_by k test turn b m
  turns_once k a b s m h e = rw (h, e) refl

  turns_stop : (k : ℕ) (a : A) (s : State) (fault : Fault) (left : List Token) → first_is test s.left ≡ true →
      turn a s ≡ Stopped fault left → turns_by (suc k) test turn a s ≡ Stopped fault left
  turns_stop k a s fault left h e = rw (h, e) refl

-- a reader reads a word before what stands behind, where more is read
again : {A : Type 0} (p : Reader A) (l : Language A) (s : State) (a : A) (m : State) (h : Reads p l s a m)
    (next : List Token) (x : Token) (rest others : List Token) → m.left ≡ next ++ (x ∷ rest) →
    p (s with (h.word ++ (next ++ (x ∷ others)))) ≡ Done a (m with (next ++ (x ∷ others)))
again p l s a m h [] x rest others e = h.same x rest others e
again p l s a m h (y ∷ next) x rest others e = h.same y (next ++ (x ∷ rest)) (next ++ (x ∷ others)) e

fits_behind : (ts word left next us : List Token) (k : ℕ) → ts ≡ word ++ left → length left < length ts →
    length ((word ++ next) ++ us) ≤ suc k → length (next ++ us) ≤ k
fits_behind ts word left next us k is shorter fits =
    omega (arith, ap length is, length-append word left, length-append (word ++ next) us, length-append word next, length-append next us)

no_room : (word : List Token) (x : Token) (us : List Token) → length (word ++ (x ∷ us)) ≤ 0 → ⊥
no_room [] x us h = omega arith
no_room (y ∷ word) x us h = omega arith

none_left : (test : Token → Bool) (ts : List Token) → length ts ≤ 0 → first_is test ts ≡ false
none_left test [] h = refl
none_left test (x ∷ ts) h = absurd (omega arith)

-- what turns have read, however many there may be
record ReadsBy {A : Type 0} (test : Token → Bool) (turn : A → Reader A) (l : A → Language A) (s : State) (a b : A)
    (m : State) : Type 0 where
  read : Turns l limits s a b m
  word : List Token
  is : s.left ≡ word ++ m.left
  same : (k : ℕ) (x : Token) (rest others : List Token) → m.left ≡ x ∷ rest → length (word ++ (x ∷ others)) ≤ k →
      turns_by k test turn a (s with (word ++ (x ∷ others))) ≡ Done b (m with (x ∷ others))

-- where turns have stopped, however many there may be
record StopsBy {A : Type 0} (test goes : Token → Bool) (turn : A → Reader A) (l : A → Language A) (s : State) (a : A)
    (fault : Fault) (left : List Token) : Type 0 where
  word : List Token
  is : s.left ≡ word ++ left
  same : (k : ℕ) (x : Token) (rest others : List Token) → left ≡ x ∷ rest → length (word ++ (x ∷ others)) ≤ k →
      turns_by k test turn a (s with (word ++ (x ∷ others))) ≡ Stopped fault (x ∷ others)
  there : (q : Quantity) → fault ≡ Passes q → left ≡ [] → ⊥
  completed : (rest : List Token) → Quiet goes rest → Quiet is_else rest →
      Completed (L.turns l a) s word fault left rest

module _ {A : Type 0} (test : Token → Bool) (turn : A → Reader A) (l : A → Language A) where
  reads_here : (s : State) (a : A) → first_is test s.left ≡ false → ReadsBy test turn l s a a s
  reads_here s a h = record {
    read = over;
    word = [];
    is = refl;
    same = λ k x rest others e fits. turns_none test turn k a (s with (x ∷ others)) (rw e at h);
  }

  reads_none : (s : State) (a b : A) (m : State) → first_is test s.left ≡ false → Done a s ≡ Done b m →
      ReadsBy test turn l s a b m
  reads_none s a b m h e =
      let value : a ≡ b = cc in
      let state : s ≡ m = cc in
      subst (λ c. ReadsBy test turn l s a c m) value (subst (λ n. ReadsBy test turn l s a a n) state (reads_here s a h))

  same_more : (s m s' : State) (a b c : A) (t : Reads (turn a) (l a) s b m) (r : ReadsBy test turn l m b c s') →
      first_is test s.left ≡ true → length m.left < length s.left →
      (k : ℕ) (x : Token) (rest others : List Token) → s'.left ≡ x ∷ rest →
      length ((t.word ++ r.word) ++ (x ∷ others)) ≤ k →
      turns_by k test turn a (s with ((t.word ++ r.word) ++ (x ∷ others))) ≡ Done c (s' with (x ∷ others))
  same_more s m s' a b c t r passes shorter zero x rest others e fits = absurd (no_room (t.word ++ r.word) x others fits)
  same_more s m s' a b c t r passes shorter (suc k) x rest others e fits =
      turns_once test turn k a b (s with ((t.word ++ r.word) ++ (x ∷ others))) (m with (r.word ++ (x ∷ others)))
      (first_still test s.left (t.word ++ r.word) s'.left x rest others (split_in s.left t.word m.left r.word s'.left t.is r.is) e ∙ passes)
      (rw (append_assoc t.word r.word (x ∷ others)) (again (turn a) (l a) s b m t r.word x rest others (r.is ∙ ap (λ ts. r.word ++ ts) e)))
      ∙ r.same k x rest others e (fits_behind s.left t.word m.left r.word (x ∷ others) k t.is shorter fits)

  reads_more : (s m s' : State) (a b c : A) → Reads (turn a) (l a) s b m → ReadsBy test turn l m b c s' →
      first_is test s.left ≡ true → length m.left < length s.left → ReadsBy test turn l s a c s'
  reads_more s m s' a b c t r passes shorter = record {
    read = more t.read r.read;
    word = t.word ++ r.word;
    is = split_in s.left t.word m.left r.word s'.left t.is r.is;
    same = same_more s m s' a b c t r passes shorter;
  }

-- what turns are made of
record Turned {A : Type 0} (test last : Token → Bool) (turn : A → Reader A) (l : A → Language A) : Type 1 where
  reads : (a : A) (s : State) (b : A) (m : State) → turn a s ≡ Done b m → Reads (turn a) (l a) s b m
  stops : (a : A) (s : State) (fault : Fault) (left : List Token) → turn a s ≡ Stopped fault left →
      Stops (turn a) (l a) last s fault left
  carries : (a : A) (s : State) (b : A) (m : State) → l a limits s b m → Carried (l a) s b m
  front : (a : A) (s : State) (b : A) (m : State) → l a limits s b m → first_is test s.left ≡ true
  takes : (a : A) (s : State) (b : A) (m : State) → l a limits s b m → length m.left < length s.left

module _ {A : Type 0} {test last : Token → Bool} {turn : A → Reader A} {l : A → Language A}
    (T : Turned test last turn l) where
  done_more : (n : ℕ) → ((s : State) (a b : A) (m : State) → turns_by n test turn a s ≡ Done b m → length s.left ≤ n →
      ReadsBy test turn l s a b m) →
      (s : State) (a c : A) (s' : State) (o : Outcome A) → turn a s ≡ o →
      and_then o (turns_by n test turn) ≡ Done c s' → first_is test s.left ≡ true → length s.left ≤ suc n →
      ReadsBy test turn l s a c s'
  done_more n next s a c s' (Done b m) e h passes fits =
      let t : Reads (turn a) (l a) s b m = T.reads a s b m e in
      let shorter : length m.left < length s.left = T.takes a s b m t.read in
      reads_more test turn l s m s' a b c t (next m b c s' h (omega arith)) passes shorter
  done_more n next s a c s' (Stopped fault left) e h passes fits = absurd (cc)

  done_if : (n : ℕ) → ((s : State) (a b : A) (m : State) → turns_by n test turn a s ≡ Done b m → length s.left ≤ n →
      ReadsBy test turn l s a b m) →
      (s : State) (a b : A) (m : State) → (first_is test s.left ≡ true) ⊎ (first_is test s.left ≡ false) →
      turns_by (suc n) test turn a s ≡ Done b m → length s.left ≤ suc n → ReadsBy test turn l s a b m
  done_if n next s a b m (inl passes) h fits = done_more n next s a b m (turn a s) refl (rw passes at h) passes fits
  done_if n next s a b m (inr fails) h fits = reads_none test turn l s a b m fails (rw fails at h)

  done_by : (n : ℕ) (s : State) (a b : A) (m : State) → turns_by n test turn a s ≡ Done b m → length s.left ≤ n →
      ReadsBy test turn l s a b m
  done_by zero s a b m h fits = reads_none test turn l s a b m (none_left test s.left fits) h
  done_by (suc n) s a b m h fits = done_if n (done_by n) s a b m (cases_Bool (first_is test s.left)) h fits

  -- ---- where they stop

  same_stop : (s m : State) (a b : A) (fault : Fault) (left : List Token) (t : Reads (turn a) (l a) s b m)
      (word : List Token) → m.left ≡ word ++ left → first_is test s.left ≡ true → length m.left < length s.left →
      ((k : ℕ) (x : Token) (rest others : List Token) → left ≡ x ∷ rest → length (word ++ (x ∷ others)) ≤ k →
      turns_by k test turn b (m with (word ++ (x ∷ others))) ≡ Stopped fault (x ∷ others)) →
      (k : ℕ) (x : Token) (rest others : List Token) → left ≡ x ∷ rest → length ((t.word ++ word) ++ (x ∷ others)) ≤ k →
      turns_by k test turn a (s with ((t.word ++ word) ++ (x ∷ others))) ≡ Stopped fault (x ∷ others)
  same_stop s m a b fault left t word is passes shorter next zero x rest others e fits = absurd (no_room (t.word ++ word) x others fits)
  same_stop s m a b fault left t word is passes shorter next (suc k) x rest others e fits =
      turns_once test turn k a b (s with ((t.word ++ word) ++ (x ∷ others))) (m with (word ++ (x ∷ others)))
      (first_still test s.left (t.word ++ word) left x rest others (split_in s.left t.word m.left word left t.is is) e ∙ passes)
      (rw (append_assoc t.word word (x ∷ others)) (again (turn a) (l a) s b m t word x rest others (is ∙ ap (λ ts. word ++ ts) e)))
      ∙ next k x rest others e (fits_behind s.left t.word m.left word (x ∷ others) k t.is shorter fits)

  -- what has been read carries what completes the next turns
  complete_more : (s m : State) (a b : A) (word next : List Token) (fault : Fault) (left rest : List Token) →
      Carried (l a) s b m → s.left ≡ word ++ m.left → m.left ≡ next ++ left →
      Completed (L.turns l b) m next fault left rest → Completed (L.turns l a) s (word ++ next) fault left rest
  complete_more s m a b word next fault left rest h is e c =
      let before : List Token = kept fault left ++ (c.fill ++ rest) in
      let same_word : h.word ≡ word = append_cancel_right h.word word m.left (sym h.is ∙ is) in
      let first : l a (upto fault (length before)) (s with (h.word ++ (next ++ before))) b (m with (next ++ before)) =
      h.still (upto fault (length before)) (next ++ before) (upto_mild fault (length before)) (λ quiet. Quiet-kept is_else next m.left fault left (c.fill ++ rest) e c.calm quiet) in
      completed_as c c.value (rw (append_assoc word next before) (more (rw same_word at first) c.read))

module _ {A : Type 0} {test last : Token → Bool} {turn : A → Reader A} {l : A → Language A} (goes : Token → Bool)
    (T : Turned test last turn l) (within : Within last goes) where
  same_now : (s : State) (a : A) (fault : Fault) (left : List Token) (h : Stops (turn a) (l a) last s fault left) →
      first_is test s.left ≡ true →
      (k : ℕ) (x : Token) (rest others : List Token) → left ≡ x ∷ rest → length (h.word ++ (x ∷ others)) ≤ k →
      turns_by k test turn a (s with (h.word ++ (x ∷ others))) ≡ Stopped fault (x ∷ others)
  same_now s a fault left h passes zero x rest others e fits = absurd (no_room h.word x others fits)
  same_now s a fault left h passes (suc k) x rest others e fits =
      turns_stop test turn k a (s with (h.word ++ (x ∷ others))) fault (x ∷ others) (first_still test s.left h.word left x rest others h.is e ∙ passes) (h.same x rest others e)

  stops_now : (s : State) (a : A) (fault : Fault) (left : List Token) → Stops (turn a) (l a) last s fault left →
      first_is test s.left ≡ true → StopsBy test goes turn l s a fault left
  stops_now s a fault left h passes = record {
    word = h.word;
    is = h.is;
    same = same_now s a fault left h passes;
    there = h.there;
    completed = λ rest quiet calm. completed_into (λ asked n b m k. more k over) (h.completed rest (Quiet-within last goes within rest quiet) calm);
  }

  stops_more : (s m : State) (a b : A) (fault : Fault) (left : List Token) → Reads (turn a) (l a) s b m →
      first_is test s.left ≡ true → length m.left < length s.left →
      StopsBy test goes turn l m b fault left → StopsBy test goes turn l s a fault left
  stops_more s m a b fault left t passes shorter h = record {
    word = t.word ++ h.word;
    is = split_in s.left t.word m.left h.word left t.is h.is;
    same = same_stop T s m a b fault left t h.word h.is passes shorter h.same;
    there = h.there;
    completed = λ rest quiet calm. complete_more T s m a b t.word h.word fault left rest (T.carries a s b m t.read) t.is h.is (h.completed rest quiet calm);
  }

  stop_more : (n : ℕ) → ((s : State) (a : A) (fault : Fault) (left : List Token) →
      turns_by n test turn a s ≡ Stopped fault left → length s.left ≤ n → StopsBy test goes turn l s a fault left) →
      (s : State) (a : A) (fault : Fault) (left : List Token) (o : Outcome A) → turn a s ≡ o →
      and_then o (turns_by n test turn) ≡ Stopped fault left → first_is test s.left ≡ true → length s.left ≤ suc n →
      StopsBy test goes turn l s a fault left
  stop_more n next s a fault left (Done b m) e h passes fits =
      let t : Reads (turn a) (l a) s b m = T.reads a s b m e in
      let shorter : length m.left < length s.left = T.takes a s b m t.read in
      stops_more s m a b fault left t passes shorter (next m b fault left h (omega arith))
  stop_more n next s a fault left (Stopped fault' left') e h passes fits = stops_now s a fault left (T.stops a s fault left (e ∙ h)) passes

  stop_if : (n : ℕ) → ((s : State) (a : A) (fault : Fault) (left : List Token) →
      turns_by n test turn a s ≡ Stopped fault left → length s.left ≤ n → StopsBy test goes turn l s a fault left) →
      (s : State) (a : A) (fault : Fault) (left : List Token) →
      (first_is test s.left ≡ true) ⊎ (first_is test s.left ≡ false) →
      turns_by (suc n) test turn a s ≡ Stopped fault left → length s.left ≤ suc n →
      StopsBy test goes turn l s a fault left
  stop_if n next s a fault left (inl passes) h fits = stop_more n next s a fault left (turn a s) refl (rw passes at h) passes fits
  stop_if n next s a fault left (inr fails) h fits = let k : Done a s ≡ Stopped fault left = rw fails at h in absurd (cc)

  stop_by : (n : ℕ) (s : State) (a : A) (fault : Fault) (left : List Token) →
      turns_by n test turn a s ≡ Stopped fault left → length s.left ≤ n → StopsBy test goes turn l s a fault left
  stop_by zero s a fault left h fits = absurd (cc)
  stop_by (suc n) s a fault left h fits = stop_if n (stop_by n) s a fault left (cases_Bool (first_is test s.left)) h fits

-- ---- all turns that there are

faces_more : {A : Type 0} (test : Token → Bool) (turn : A → Reader A) (asked : Asked) (k : ℕ) (s m s' : State)
    (a b c : A) → first_is test s.left ≡ true → Faces asked (turn a s) b m →
    Faces asked (turns_by k test turn b m) c s' →
    Faces asked (turns_by (suc k) test turn a s) c s'
faces_more test turn asked k s m s' a b c passes (inl e) h = subst (λ o. Faces asked o c s') (sym (turns_once test turn k a b s m passes e)) h
faces_more test turn asked k s m s' a b c passes (inr h) _ = inr (record {
  quantity = h.quantity;
  left = h.left;
  count = h.count;
  is = turns_stop test turn k a s (Passes h.quantity) h.left passes h.is;
  wanted = h.wanted;
  passes = h.passes;
})

module _ {A : Type 0} (test last goes : Token → Bool) (turn : A → Reader A) (l : A → Language A) (asked : Asked)
    (faces : (a : A) (s : State) (b : A) (m : State) → l a asked s b m → Quiet last m.left → Faces asked (turn a s) b m)
    (front : (a : A) (s : State) (b : A) (m : State) → l a asked s b m → first_is test s.left ≡ true)
    (takes : (a : A) (s : State) (b : A) (m : State) → l a asked s b m → length m.left < length s.left)
    (apart : Apart test last) (within : Within last goes) (wide : Within test goes) where
  quiet_next : (s : State) (a b : A) (m : State) → Turns l asked s a b m → Quiet goes m.left → Quiet last s.left
  quiet_next s a b m over quiet = Quiet-within last goes within s.left quiet
  quiet_next s a c s' (more {m = m} {b = b} t ts) quiet = Quiet-apart test last apart s.left (front a s b m t)

  complete_by : (s : State) (a b : A) (m : State) → Turns l asked s a b m → Quiet goes m.left → (k : ℕ) →
      length s.left ≤ k → Faces asked (turns_by k test turn a s) b m
  complete_by s a b m over quiet k fits = inl (turns_none test turn k a s (Quiet-within test goes wide s.left quiet))
  complete_by s a c s' (more {m = m} {b = b} t ts) quiet zero fits = let shorter : length m.left < length s.left = takes a s b m t in absurd (omega arith)
  complete_by s a c s' (more {m = m} {b = b} t ts) quiet (suc k) fits =
      let shorter : length m.left < length s.left = takes a s b m t in
      faces_more test turn asked k s m s' a b c (front a s b m t) (faces a s b m t (quiet_next m b c s' ts quiet)) (complete_by m b c s' ts quiet k (omega arith))

-- ---- all together

module _ {X A : Type 0} {able : Type 0} {d : ℕ} {test last goes : Token → Bool} (turn : X → A → Reader A)
    (l : X → A → Language A)
    (P : Decides {X = X × A} able d (λ xa. turn xa.0 xa.1) (λ xa. l xa.0 xa.1) ⊥ test last) (apart : Apart test last) (within : Within last goes) (wide : Within test goes) where
  turned : able → (x : X) → Turned test last (turn x) (l x)
  turned can x = record {
    reads = λ a s b m h. P.done can (x, a) s b m h;
    stops = λ a s fault left h. P.stopped can (x, a) s fault left h;
    carries = λ a s b m h. P.spoken.carried (x, a) s b m h;
    front = λ a s b m h. (begins P.spoken (x, a) limits s b m h).0;
    takes = λ a s b m h. takes P.spoken (x, a) limits s b m h;
  }

  done : able → (xa : X × A) (s : State) (a : A) (m : State) → R.turns test (turn xa.0) xa.1 s ≡ Done a m →
      Reads (R.turns test (turn xa.0) xa.1) (L.turns (l xa.0) xa.1) s a m
  done can xa s a m h =
      let r : ReadsBy test (turn xa.0) (l xa.0) s xa.1 a m = done_by (turned can xa.0) (length s.left) s xa.1 a m h (omega arith) in
      record {
        read = r.read;
        word = r.word;
        is = r.is;
        same = λ x rest others e. r.same
            (length (r.word ++ (x ∷ others))) x rest others e (omega arith);
      }

  stopped : able → (xa : X × A) (s : State) (fault : Fault) (left : List Token) →
      R.turns test (turn xa.0) xa.1 s ≡ Stopped fault left →
      Stops (R.turns test (turn xa.0) xa.1) (L.turns (l xa.0) xa.1) goes s fault left
  stopped can xa s fault left h =
      let r : StopsBy test goes (turn xa.0) (l xa.0) s xa.1 fault left = stop_by goes (turned can xa.0) within (length s.left) s xa.1 fault left h (omega arith) in
      record {
        word = r.word;
        is = r.is;
        same = λ x rest others e. r.same (length (r.word ++ (x ∷ others))) x rest
            others e (omega arith);
        there = r.there;
        completed = r.completed;
      }

  complete : (xa : X × A) (asked : Asked) (s : State) (a : A) (m : State) → L.turns (l xa.0) xa.1 asked s a m →
      Quiet goes m.left → Faces asked (R.turns test (turn xa.0) xa.1 s) a m
  complete xa asked s a m h quiet =
      complete_by test last goes (turn xa.0) (l xa.0) asked (λ b n c o k. P.complete (xa.0, b) asked n c o k) (λ b n c o k. (begins P.spoken (xa.0, b) asked n c o k).0)
      (λ b n c o k. takes P.spoken (xa.0, b) asked n c o k) apart within wide s xa.1 a m h quiet (length s.left) (omega arith)

  pub turning : Decides {X = X × A} able d (λ xa. R.turns test (turn xa.0) xa.1) (λ xa. L.turns (l xa.0) xa.1)
      (Unit {0}) test goes
  turning = record { spoken = turning_spoken l P.spoken within; done = done; stopped = stopped; complete = complete }
