-- What is counted anew within a word, and what passes a limit at its first token.
use Rattle.std.proofs.Common.{◌≡◌, refl, sym, ◌∙◌, subst, ◌⊎◌, inl, inr, ◌≤◌, ◌<◌, ℕ, zero, suc, ◌+◌, Bool, true, false, List, [], ◌∷◌, ◌++◌, length, arith, nat_le, true≢false}
use Rattle.std.proofs.lemmas.Bool.{both_ways, leb-true, leb-false, cases_Bool}
use Rattle.ec_base.specs.declared.limits.TheConstants.{MAX_NESTING}
use Rattle.ec_base.specs.declared.token.Token.{Token}
use Rattle.ec_syntax.specs.Grammar.State.{State, Asked, limit, limits}
use Rattle.ec_syntax.specs.Grammar.Language as L
use Rattle.ec_syntax.specs.Grammar.Language.{Language, first_is}
use Rattle.ec_syntax.specs.Descent.Reader as R
use Rattle.ec_syntax.specs.Descent.Reader.{Reader, Outcome}
use Rattle.ec_syntax.specs.Descent.Reader.Outcome.{Done, Stopped}
use Rattle.ec_syntax.specs.declared.quantity.Quantity.{Quantity}
use Rattle.ec_syntax.specs.declared.quantity.Quantity.TheVariants.{Nesting}
use Rattle.ec_syntax.specs.declared.quantity.Fault.{Fault}
use Rattle.ec_syntax.specs.declared.quantity.Fault.TheVariants.{Expected, Passes}
use Rattle.ec_syntax.proofs.Decision.Procedures.{◌with◌, kept, asks_nesting, Quiet, is_else, Carried, Ended, Ends, Opened, Opens, Skipped, Completed, Faces, Denied, Reads, Stops, Spoken, Decides}
use Rattle.ec_syntax.proofs.Tokens.Sequences.{upto_mild}
use Rattle.ec_syntax.proofs.Lookahead.FirstTokens.{ends_as, opens_as, begins, completed_as, Front, front, completed_ends, completed_opens}

-- ---- counted anew

abbrev anew : (ℕ → ℕ) → (ℕ → ℕ) → State → State
anew mark var s = record s { marks = mark s.marks; variables = var s.variables }

-- a language or a reader from a state with other counts on
abbrev from_anew : {A : Type 0} → (ℕ → ℕ) → (ℕ → ℕ) → Language A → Language A
from_anew mark var l asked s a m = l asked (anew mark var s) a m

abbrev read_anew : {A : Type 0} → (ℕ → ℕ) → (ℕ → ℕ) → Reader A → Reader A
read_anew mark var p s = p (anew mark var s)

module _ {A : Type 0} (mark var : ℕ → ℕ) (l : Language A) where
  carried_anew : (s : State) (a : A) (m : State) → Carried l (anew mark var s) a m →
      Carried (from_anew mark var l) s a m
  carried_anew s a m c = record { word = c.word; is = c.is; still = λ asked rest mild calm. c.still asked rest mild calm }

  ended_anew : (s : State) (rest : List Token) → Ended l (anew mark var s) rest → Ended (from_anew mark var l) s rest
  ended_anew s rest e = record { value = e.value; after = e.after; behind = e.behind; read = e.read }

  opened_anew : (d : ℕ) (s : State) (more : ℕ) (rest : List Token) → Opened d l (anew mark var s) more rest →
      Opened d (from_anew mark var l) s more rest
  opened_anew d s more rest o = record { value = o.value; after = o.after; behind = o.behind; read = o.read }

  skipped_anew : (s : State) → Skipped l (anew mark var s) → Skipped (from_anew mark var l) s
  skipped_anew s k = record { value = k.value; after = k.after; behind = k.behind; read = k.read }

  completed_anew : (s : State) (word : List Token) (fault : Fault) (left rest : List Token) →
      Completed l (anew mark var s) word fault left rest → Completed (from_anew mark var l) s word fault left rest
  completed_anew s word fault left rest c = completed_as c c.value c.read

  reads_anew : (p : Reader A) (s : State) (a : A) (m : State) → Reads p l (anew mark var s) a m →
      Reads (read_anew mark var p) (from_anew mark var l) s a m
  reads_anew p s a m h = record { read = h.read; word = h.word; is = h.is; same = h.same }

  stops_anew : (p : Reader A) (goes : Token → Bool) (s : State) (fault : Fault) (left : List Token) →
      Stops p l goes (anew mark var s) fault left →
      Stops (read_anew mark var p) (from_anew mark var l) goes s fault left
  stops_anew p goes s fault left h = record {
    word = h.word;
    is = h.is;
    same = h.same;
    there = h.there;
    completed = λ rest quiet calm. completed_anew s h.word fault left rest (h.completed rest quiet calm);
  }

anew_spoken : {X A : Type 0} {able : Type 0} {d : ℕ} {l : X → Language A} {empty : Type 0} {first goes : Token → Bool}
    (mark var : ℕ → ℕ) →
    Spoken able d l empty first goes → Spoken able d (λ x. from_anew mark var (l x)) empty first goes
anew_spoken {d = d} {l = l} mark var P = record {
  carried = λ x s a m h. carried_anew mark var (l x) s a m (P.carried x (anew mark var s) a m h);
  starts = λ x asked s a m h. P.starts x asked (anew mark var s) a m h;
  ends = λ can rest quiet calm.
      let e : Ends l rest = P.ends can rest quiet calm in
      ends_as e (λ x s is. ended_anew mark var (l x) s rest
      (e.ended x (anew mark var s) is));
  opens = λ can here h rest quiet calm.
      let o : Opens d l here rest = P.opens can here h rest quiet calm in
      opens_as o (λ x s is. opened_anew mark var (l x) d s
      (length (o.fill ++ rest)) rest (o.opened x (anew mark var s) is));
  skips = λ can none x s quiet calm. skipped_anew mark var (l x) s (P.skips can none x (anew mark var s) quiet calm);
}

anew_decides : {X A : Type 0} {able : Type 0} {d : ℕ} {p : X → Reader A} {l : X → Language A} {empty : Type 0}
    {first goes : Token → Bool} (mark var : ℕ → ℕ) →
    Decides able d p l empty first goes → Decides able d (λ x. read_anew mark var (p x))
    (λ x. from_anew mark var (l x)) empty first goes
anew_decides {p = p} {l = l} {goes = goes} mark var P = record {
  spoken = anew_spoken mark var P.spoken;
  done = λ can x s a m h. reads_anew mark var (l x) (p x) s a m (P.done can x (anew mark var s) a m h);
  stopped = λ can x s fault left h. stops_anew mark var (l x) (p x) goes s fault left (P.stopped can x (anew mark var s) fault left h);
  complete = λ x asked s a m h quiet. P.complete x asked (anew mark var s) a m h quiet;
}

pub parted_spoken : {X A : Type 0} {able : Type 0} {d : ℕ} {l : X → Language A} {empty : Type 0}
    {first goes : Token → Bool} →
    Spoken able d l empty first goes → Spoken able d (λ x. L.part (l x)) empty first goes
parted_spoken P = anew_spoken (λ _. 0) (λ n. n) P

pub parted : {X A : Type 0} {able : Type 0} {d : ℕ} {p : X → Reader A} {l : X → Language A} {empty : Type 0}
    {first goes : Token → Bool} →
    Decides able d p l empty first goes → Decides able d (λ x. R.part (p x)) (λ x. L.part (l x)) empty first goes
parted P = anew_decides (λ _. 0) (λ n. n) P

pub functioned : {X A : Type 0} {able : Type 0} {d : ℕ} {p : X → Reader A} {l : X → Language A} {empty : Type 0}
    {first goes : Token → Bool} →
    Decides able d p l empty first goes → Decides able d (λ x. R.function (p x))
    (λ x. L.function (l x)) empty first goes
functioned P = anew_decides (λ n. n) (λ _. 0) P

-- ---- passed limits

-- a reader that refuses every token, as one that may stand here but passes a limit or as one that may not
module _ {X A : Type 0} {able : Type 0} {d : ℕ} {l : X → Language A} {first goes : Token → Bool}
    (P : Spoken able d l ⊥ first goes) (q : Quantity) (deep : asks_nesting (Passes q) ≡ true → d ≤ MAX_NESTING) where
  completed_passed : able → (x : X) (s : State) → first_is first s.left ≡ true → (rest : List Token) → Quiet goes rest →
      Quiet is_else rest → Completed (l x) s [] (Passes q) s.left rest
  completed_passed can x s passes rest quiet calm =
      let f : Front first s.left = front first s.left passes in
      subst (λ ts. Completed (l x) s [] (Passes q) ts rest) (sym f.is) (completed_opens q x s f.rest deep (P.opens can f.token f.passes rest quiet calm))

  refused_passed : able → (p : Reader A) → ((s : State) → p s ≡ R.passed first q s) → (x : X) (s : State) →
      first_is first s.left ≡ true → Stops p (l x) goes s (Passes q) s.left
  refused_passed can p is x s passes = record {
    word = [];
    is = refl;
    same = λ y rest others e. is (s with (y ∷ others)) ∙ (let here : first y ≡ true = rw e at passes in rw here refl);
    there = λ other e none. both_ways (first_is first s.left) (rw none refl) passes;
    completed = completed_passed can x s passes;
  }

  refused_expected : able → (p : Reader A) → ((s : State) → p s ≡ R.passed first q s) → (x : X) (s : State) →
      first_is first s.left ≡ false → Stops p (l x) goes s Expected s.left
  refused_expected can p is x s fails = record {
    word = [];
    is = refl;
    same = λ y rest others e. is (s with (y ∷ others)) ∙ (let here : first y ≡ false = rw e at fails in rw here refl);
    there = λ other e none. absurd (cc);
    completed = λ rest quiet calm. completed_ends x s s.left (P.ends can rest quiet calm);
  }

  refused : able → (p : Reader A) → ((s : State) → p s ≡ R.passed first q s) →
      (x : X) (s : State) (fault : Fault) (left : List Token) → R.passed {A = A} first q s ≡ Stopped fault left →
      Stops p (l x) goes s fault left
  refused can p is x s fault left h = go (cases_Bool (first_is first s.left))
    where
      go : (first_is first s.left ≡ true) ⊎ (first_is first s.left ≡ false) → Stops p (l x) goes s fault left
      go (inl passes) =
          let e : Stopped (Passes q) s.left ≡ Stopped fault left = rw passes at h in
          let why : Passes q ≡ fault = cc in
          let where_ : s.left ≡ left = cc in
          subst (λ ts. Stops p (l x) goes s fault ts) where_ (subst (λ f. Stops p (l x) goes s f s.left) why (refused_passed can p is x s passes))
      go (inr fails) =
          let e : Stopped Expected s.left ≡ Stopped fault left = rw fails at h in
          let why : Expected ≡ fault = cc in
          let where_ : s.left ≡ left = cc in
          subst (λ ts. Stops p (l x) goes s fault ts) where_ (subst (λ f. Stops p (l x) goes s f s.left) why (refused_expected can p is x s fails))

  denied : (x : X) (asked : Asked) (s : State) (a : A) (m : State) (count : ℕ) → l x asked s a m →
      asked s.left q count → limit q < count → Denied asked (R.passed {A = A} first q s)
  denied x asked s a m count h wanted passes = record {
    quantity = q;
    left = s.left;
    count = count;
    is = rw (begins P x asked s a m h).0 refl;
    wanted = wanted;
    passes = passes;
  }

never_done : {A : Type 0} (first : Token → Bool) (q : Quantity) (s : State) (a : A) (m : State) →
    R.passed first q s ≡ Done a m → ⊥
never_done first q s a m h = go (cases_Bool (first_is first s.left))
  where
    go : (first_is first s.left ≡ true) ⊎ (first_is first s.left ≡ false) → ⊥
    go (inl passes) = let e : Stopped (Passes q) s.left ≡ Done a m = rw passes at h in cc
    go (inr fails) = let e : Stopped Expected s.left ≡ Done a m = rw fails at h in cc

pub shallow : {X A : Type 0} {able : Type 0} {d : ℕ} {l : X → Language A} {first goes : Token → Bool} →
    Spoken able d l ⊥ first goes → MAX_NESTING < d → Decides able d (λ x. R.passed first Nesting) l ⊥ first goes
shallow {d = d} {l = l} {first = first} P deep = record {
  spoken = P;
  done = λ can x s a m h. absurd (never_done first Nesting s a m h);
  stopped = λ can x s fault left h. refused P Nesting (λ e. absurd (cc)) can (R.passed first Nesting) (λ t. refl) x s fault left h;
  complete = λ x asked s a m h quiet. inr (denied P Nesting (λ e. absurd (cc)) x asked s a m d h (begins P x asked s a m h).1 deep);
}

-- d is the depth of what stands inside
pub inside : {X A : Type 0} {able : Type 0} {d : ℕ} {p : X → Reader A} {l : X → Language A} {first goes : Token → Bool}
    (room : ℕ) → d + room ≡ suc MAX_NESTING →
    ((r : ℕ) → room ≡ suc r → Decides able d p l ⊥ first goes) → Spoken able d l ⊥ first goes →
    Decides able d (λ x. R.inside room first (p x)) l ⊥ first goes
inside zero e within P = shallow P (omega arith)
inside (suc room) e within P = within room refl

-- a quantity other than the nesting
module _ {X A : Type 0} {able : Type 0} {d : ℕ} {l : X → Language A} {first goes : Token → Bool} (q : Quantity)
    (counts : asks_nesting (Passes q) ≡ true) (k : X → ℕ) (P : Spoken able d l ⊥ first goes) where
  no_nesting : q ≡ Nesting → ⊥
  no_nesting e = let h : asks_nesting (Passes Nesting) ≡ true = rw e at counts in true≢false (sym h)

  carried_kth : (x : X) (s : State) (a : A) (m : State) → L.kth q (k x) (l x) limits s a m →
      Carried (L.kth q (k x) (l x)) s a m
  carried_kth x s a m h =
      let c : Carried (l x) s a m = P.carried x s a m h.1 in
      record {
        word = c.word;
        is = c.is;
        still = λ asked rest mild calm.
            (mild (c.word ++ rest) q (k x) h.0, c.still asked rest mild calm);
      }

  ended_kth : (x : X) (s : State) (rest : List Token) → Ended (l x) s rest → Ended (L.kth q (k x) (l x)) s rest
  ended_kth x s rest e = record { value = e.value; after = e.after; behind = e.behind; read = λ asked silent. (silent s.left q (k x) (omega arith), e.read asked silent) }

  opened_kth : (x : X) (s : State) (more : ℕ) (rest : List Token) → Opened d (l x) s more rest →
      Opened d (L.kth q (k x) (l x)) s more rest
  opened_kth x s more rest o = record { value = o.value; after = o.after; behind = o.behind; read = λ asked silent only. (only q (k x) (λ e. absurd (no_nesting e)), o.read asked silent only) }

  pub kth_spoken : Spoken able d (λ x. L.kth q (k x) (l x)) ⊥ first goes
  kth_spoken = record {
    carried = carried_kth;
    starts = λ x asked s a m h. P.starts x asked s a m h.1;
    ends = λ can rest quiet calm.
        let e : Ends l rest = P.ends can rest quiet calm in
        ends_as e (λ x s is. ended_kth x s rest
        (e.ended x s is));
    opens = λ can here h rest quiet calm.
        let o : Opens d l here rest = P.opens can here h rest quiet calm in
        opens_as o (λ x s is. opened_kth x s
        (length (o.fill ++ rest)) rest (o.opened x s is));
    skips = λ can none x s quiet calm. absurd none;
  }

module _ {X A : Type 0} {able : Type 0} {d : ℕ} {p : X → Reader A} {l : X → Language A} {first goes : Token → Bool}
    (q : Quantity) (counts : asks_nesting (Passes q) ≡ true) (k : X → ℕ) (r : ℕ)
    (P : Decides able d p l ⊥ first goes) (room : d ≤ MAX_NESTING) where
  within_kth : (x : X) (s : State) → nat_le (k x) (limit q) ≡ true → R.kth q (k x) first (suc r) (p x) s ≡ p x s
  within_kth x s fits = rw fits refl

  past_kth : (x : X) (s : State) → nat_le (k x) (limit q) ≡ false →
      R.kth q (k x) first (suc r) (p x) s ≡ R.passed first q s
  past_kth x s fails = rw fails refl

  done_kth : able → (x : X) (s : State) (a : A) (m : State) → R.kth q (k x) first (suc r) (p x) s ≡ Done a m →
      Reads (R.kth q (k x) first (suc r) (p x)) (L.kth q (k x) (l x)) s a m
  done_kth can x s a m h = go (cases_Bool (nat_le (k x) (limit q)))
    where
      go : (nat_le (k x) (limit q) ≡ true) ⊎ (nat_le (k x) (limit q) ≡ false) →
          Reads (R.kth q (k x) first (suc r) (p x)) (L.kth q (k x) (l x)) s a m
      go (inl fits) =
          let t : Reads (p x) (l x) s a m = P.done can x s a m (sym (within_kth x s fits) ∙ h) in
          record {
            read = (leb-true (k x) (limit q) fits, t.read);
            word = t.word;
            is = t.is;
            same = λ y rest others e.
                within_kth x (s with (t.word ++ (y ∷ others))) fits ∙ t.same y rest others e;
          }
      go (inr fails) = absurd (never_done first q s a m (sym (past_kth x s fails) ∙ h))

  stopped_kth : able → (x : X) (s : State) (fault : Fault) (left : List Token) →
      R.kth q (k x) first (suc r) (p x) s ≡ Stopped fault left →
      Stops (R.kth q (k x) first (suc r) (p x)) (L.kth q (k x) (l x)) goes s fault left
  stopped_kth can x s fault left h = go (cases_Bool (nat_le (k x) (limit q)))
    where
      completed_kth : nat_le (k x) (limit q) ≡ true → (word rest : List Token) →
          Completed (l x) s word fault left rest → Completed (L.kth q (k x) (l x)) s word fault left rest
      completed_kth fits word rest c = completed_as c c.value (
        upto_mild fault (length (kept fault left ++ (c.fill ++ rest))) (word ++ (kept fault left ++ (c.fill ++ rest))) q (k x) (leb-true (k x) (limit q) fits),
        c.read,
      )

      go : (nat_le (k x) (limit q) ≡ true) ⊎ (nat_le (k x) (limit q) ≡ false) →
          Stops (R.kth q (k x) first (suc r) (p x)) (L.kth q (k x) (l x)) goes s fault left
      go (inl fits) =
          let t : Stops (p x) (l x) goes s fault left = P.stopped can x s fault left (sym (within_kth x s fits) ∙ h) in
          record {
            word = t.word;
            is = t.is;
            same = λ y rest others e. within_kth x (s with (t.word ++ (y ∷ others))) fits ∙ t.same y rest others e;
            there = t.there;
            completed = λ rest quiet calm. completed_kth fits t.word rest (t.completed rest quiet calm);
          }
      go (inr fails) = refused (kth_spoken q counts k P.spoken) q (λ e. room) can (R.kth q (k x) first (suc r) (p x)) (λ t. past_kth x t fails) x s fault left (sym (past_kth x s fails) ∙ h)

  complete_kth : (x : X) (asked : Asked) (s : State) (a : A) (m : State) → L.kth q (k x) (l x) asked s a m →
      Quiet goes m.left → Faces asked (R.kth q (k x) first (suc r) (p x) s) a m
  complete_kth x asked s a m h quiet = go (cases_Bool (nat_le (k x) (limit q)))
    where
      go : (nat_le (k x) (limit q) ≡ true) ⊎ (nat_le (k x) (limit q) ≡ false) →
          Faces asked (R.kth q (k x) first (suc r) (p x) s) a m
      go (inl fits) = rw (within_kth x s fits) (P.complete x asked s a m h.1 quiet)
      go (inr fails) = rw (past_kth x s fails) (inr (denied P.spoken q (λ e. room) x asked s a m (k x) h.1 h.0 (leb-false (k x) (limit q) fails)))

  pub kth : Decides able d (λ x. R.kth q (k x) first (suc r) (p x)) (λ x. L.kth q (k x) (l x)) ⊥ first goes
  kth = record { spoken = kth_spoken q counts k P.spoken; done = done_kth; stopped = stopped_kth; complete = complete_kth }
