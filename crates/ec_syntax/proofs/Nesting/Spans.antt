-- What depends on where a word begins and ends.
use Rattle.std.proofs.Common.{◌≡◌, refl, sym, ◌∙◌, ap, subst, ◌⊎◌, inl, inr, ◌<◌, ℕ, Bool, true, List, [], ◌∷◌, ◌++◌, length, arith}
use Rattle.ec_base.specs.declared.token.Span.{Span}
use Rattle.ec_base.specs.declared.token.Token.{Token}
use Rattle.ec_syntax.specs.Grammar.State.{State, Asked, limits}
use Rattle.ec_syntax.specs.Grammar.Language as L
use Rattle.ec_syntax.specs.Grammar.Language.{Language, first_is, begin, span}
use Rattle.ec_syntax.specs.Descent.Reader as R
use Rattle.ec_syntax.specs.Descent.Reader.{Reader, Outcome, and_then}
use Rattle.ec_syntax.specs.Descent.Reader.Outcome.{Done, Stopped}
use Rattle.ec_syntax.specs.declared.quantity.Quantity.{Quantity}
use Rattle.ec_syntax.specs.declared.quantity.Fault.{Fault}
use Rattle.ec_syntax.specs.declared.quantity.Fault.TheVariants.{Expected, Passes}
use Rattle.ec_syntax.proofs.Decision.Procedures.{◌with◌, upto, kept, Quiet, is_else, Carried, Ended, Ends, Opened, Opens, Completed, Faces, Reads, Stops, Spoken, Decides}
use Rattle.ec_syntax.proofs.Lookahead.FirstTokens.{ends_as, opens_as, takes, completed_as, completed_ends}

-- ---- where it begins

begin_front : (s : State) (word : List Token) (x : Token) (us vs : List Token) →
    begin (s with (word ++ (x ∷ us))) ≡ begin (s with (word ++ (x ∷ vs)))
begin_front s [] x us vs = refl
begin_front s (y ∷ word) x us vs = refl

-- it begins where it did, if the token behind it stays
begin_still : (s : State) (word left : List Token) (x : Token) (rest others : List Token) → s.left ≡ word ++ left →
    left ≡ x ∷ rest → begin s ≡ begin (s with (word ++ (x ∷ others)))
begin_still s word left x rest others is e = ap (λ ts. begin (s with ts)) (is ∙ ap (λ ts. word ++ ts) e) ∙ begin_front s word x rest others

-- or if it has a token
begin_taken : (s : State) (word left rest : List Token) → s.left ≡ word ++ left → length left < length s.left →
    begin s ≡ begin (s with (word ++ rest))
begin_taken s [] left rest is shorter = let e : length s.left ≡ length left = ap length is in absurd (omega arith)
begin_taken s (y ∷ word) left rest is shorter = ap (λ ts. begin (s with ts)) is

begin_kept : (s : State) (word : List Token) (fault : Fault) (left rest : List Token) → s.left ≡ word ++ left →
    ((q : Quantity) → fault ≡ Passes q → left ≡ [] → ⊥) →
    ((word ≡ []) × (fault ≡ Expected)) ⊎ (begin s ≡ begin (s with (word ++ (kept fault left ++ rest))))
begin_kept s [] Expected left rest is there = inl (refl, refl)
begin_kept s [] (Passes q) [] rest is there = absurd (there q refl refl)
begin_kept s [] (Passes q) (x ∷ left) rest is there = inr (ap (λ ts. begin (s with ts)) is)
begin_kept s (y ∷ word) fault left rest is there = inr (ap (λ ts. begin (s with ts)) is)

abbrev from_begin : {A : Type 0} → (ℕ → Language A) → Language A
from_begin g = L.◌>>=◌ (L.look begin) g

from_at : {A : Type 0} (g : ℕ → Language A) (asked : Asked) (n : ℕ) (s : State) (a : A) (m : State) → n ≡ begin s →
    g n asked s a m → from_begin g asked s a m
from_at g asked n s a m e h = (n, s, (e, refl), h)

at_begin : {A : Type 0} (g : ℕ → Language A) (asked : Asked) (s : State) (a : A) (m : State) →
    from_begin g asked s a m → g (begin s) asked s a m
at_begin g asked s a m h = subst (λ n. g n asked s a m) h.2.0 (subst (λ t. g h.0 asked t a m) h.2.1 h.3)

module _ {X A : Type 0} {able : Type 0} {d : ℕ} {first goes : Token → Bool} (g : X → ℕ → Language A)
    (P : Spoken {X = X × ℕ} able d (λ xn. g xn.0 xn.1) ⊥ first goes) where
  carried_begun : (x : X) (s : State) (a : A) (m : State) → from_begin (g x) limits s a m →
      Carried (from_begin (g x)) s a m
  carried_begun x s a m h =
      let k : g x (begin s) limits s a m = at_begin (g x) limits s a m h in
      let c : Carried (g x (begin s)) s a m = P.carried (x, begin s) s a m k in
      record {
        word = c.word;
        is = c.is;
        still = λ asked rest mild calm.
            from_at (g x) asked (begin s) (s with (c.word ++ rest)) a (m with rest) (begin_taken s c.word m.left rest c.is (takes P (x, begin s) limits s a m k)) (c.still asked rest mild calm);
      }

  ended_begun : (x : X) (s : State) (rest : List Token) → Ended (g x (begin s)) s rest → Ended (from_begin (g x)) s rest
  ended_begun x s rest e = record { value = e.value; after = e.after; behind = e.behind; read = λ asked silent. from_at (g x) asked (begin s) s e.value e.after refl (e.read asked silent) }

  opened_begun : (x : X) (s : State) (more : ℕ) (rest : List Token) → Opened d (g x (begin s)) s more rest →
      Opened d (from_begin (g x)) s more rest
  opened_begun x s more rest o = record { value = o.value; after = o.after; behind = o.behind; read = λ asked silent only. from_at (g x) asked (begin s) s o.value o.after refl (o.read asked silent only) }

  ends_begun : able → (rest : List Token) → Quiet goes rest → Quiet is_else rest → Ends (λ x. from_begin (g x)) rest
  ends_begun can rest quiet calm =
      let e : Ends {X = X × ℕ} (λ xn. g xn.0 xn.1) rest = P.ends can rest quiet calm in
      ends_as e (λ x s is. ended_begun x s rest
      (e.ended (x, begin s) s is))

  opens_begun : able → (here : Token) → first here ≡ true → (rest : List Token) → Quiet goes rest → Quiet is_else rest →
      Opens d (λ x. from_begin (g x)) here rest
  opens_begun can here h rest quiet calm =
      let o : Opens {X = X × ℕ} d (λ xn. g xn.0 xn.1) here rest = P.opens can here h rest quiet calm in
      opens_as o (λ x s is. opened_begun x s
      (length (o.fill ++ rest)) rest (o.opened (x, begin s) s is))

  pub begun_spoken : Spoken able d (λ x. L.◌>>=◌ (L.look begin) (g x)) ⊥ first goes
  begun_spoken = record {
    carried = carried_begun;
    starts = λ x asked s a m h. P.starts (x, begin s) asked s a m (at_begin (g x) asked s a m h);
    ends = ends_begun;
    opens = opens_begun;
    skips = λ can none x s quiet calm. absurd none;
  }

module _ {X A : Type 0} {able : Type 0} {d : ℕ} {first goes : Token → Bool} (f : X → ℕ → Reader A)
    (g : X → ℕ → Language A)
    (P : Decides {X = X × ℕ} able d (λ xn. f xn.0 xn.1) (λ xn. g xn.0 xn.1) ⊥ first goes) where
  done_begun : able → (x : X) (s : State) (a : A) (m : State) → f x (begin s) s ≡ Done a m →
      Reads (R.◌>>=◌ (R.look begin) (f x)) (from_begin (g x)) s a m
  done_begun can x s a m h =
      let t : Reads (f x (begin s)) (g x (begin s)) s a m = P.done can (x, begin s) s a m h in
      record {
        read = from_at (g x) limits (begin s) s a m refl t.read;
        word = t.word;
        is = t.is;
        same = λ y rest others e. ap (λ n. f x n (s with (t.word ++ (y ∷ others)))) (sym (begin_still s t.word m.left y rest others t.is e)) ∙ t.same y rest others e;
      }

  completed_begun : able → (x : X) (s : State) (fault : Fault) (left : List Token)
      (t : Stops (f x (begin s)) (g x (begin s)) goes s fault left) (rest : List Token) → Quiet goes rest →
      Quiet is_else rest →
      Completed (from_begin (g x)) s t.word fault left rest
  completed_begun can x s fault left t rest quiet calm = go (begin_kept s t.word fault left (c.fill ++ rest) t.is t.there)
    where
      c : Completed (g x (begin s)) s t.word fault left rest
      c = t.completed rest quiet calm

      go : ((t.word ≡ []) × (fault ≡ Expected))
          ⊎ (begin s ≡ begin (s with (t.word ++ (kept fault left ++ (c.fill ++ rest))))) →
          Completed (from_begin (g x)) s t.word fault left rest
      go (inl e) =
          subst (λ ts. Completed (from_begin (g x)) s ts fault left rest) (sym e.0)
          (subst (λ why. Completed (from_begin (g x)) s [] why left rest) (sym e.1) (completed_ends x s left (ends_begun g P.spoken can rest quiet calm)))
      go (inr e) = completed_as c c.value (from_at (g x) (upto fault (length (kept fault left ++ (c.fill ++ rest)))) (begin s) (s with (t.word ++ (kept fault left ++ (c.fill ++ rest)))) c.value c.after e c.read)

  stopped_begun : able → (x : X) (s : State) (fault : Fault) (left : List Token) →
      f x (begin s) s ≡ Stopped fault left → Stops (R.◌>>=◌ (R.look begin) (f x)) (from_begin (g x)) goes s fault left
  stopped_begun can x s fault left h =
      let t : Stops (f x (begin s)) (g x (begin s)) goes s fault left = P.stopped can (x, begin s) s fault left h in
      record {
        word = t.word;
        is = t.is;
        same = λ y rest others e. ap (λ n. f x n (s with (t.word ++ (y ∷ others)))) (sym (begin_still s t.word left y rest others t.is e)) ∙ t.same y rest others e;
        there = t.there;
        completed = completed_begun can x s fault left t;
      }

  pub begun : Decides able d (λ x. R.◌>>=◌ (R.look begin) (f x)) (λ x. L.◌>>=◌ (L.look begin) (g x)) ⊥ first goes
  begun = record {
    spoken = begun_spoken g P.spoken;
    done = done_begun;
    stopped = stopped_begun;
    complete = λ x asked s a m h quiet. P.complete (x, begin s) asked s a m (at_begin (g x) asked s a m h) quiet;
  }

-- ---- where it ends

-- a word, and a value of its own and of the place where it ends
abbrev to_end : {A B : Type 0} → (A → ℕ → B) → Language A → Language B
to_end make l = L.◌>>=◌ l (λ a. L.◌>>=◌ (L.look (λ s. s.end)) (λ to. L.give (make a to)))

abbrev read_end : {A B : Type 0} → (A → ℕ → B) → Reader A → Reader B
read_end make p = R.◌>>=◌ p (λ a. R.◌>>=◌ (R.look (λ s. s.end)) (λ to. R.give (make a to)))

record AtEnd {A B : Type 0} (make : A → ℕ → B) (l : Language A) (asked : Asked) (s : State) (b : B)
    (m : State) : Type 0 where
  value : A
  read : l asked s value m
  is : b ≡ make value m.end

module _ {A B : Type 0} (make : A → ℕ → B) (l : Language A) where
  ending : (asked : Asked) (s : State) (a : A) (m : State) → l asked s a m → to_end make l asked s (make a m.end) m
  ending asked s a m h = (a, m, h, (m.end, m, (refl, refl), (refl, refl)))

  at_end : (asked : Asked) (s : State) (b : B) (m : State) → to_end make l asked s b m → AtEnd make l asked s b m
  at_end asked s b m h =
      let state : m ≡ h.1 = h.3.3.1 ∙ h.3.2.1 in
      record {
        value = h.0;
        read = subst (λ n. l asked s h.0 n) (sym state) h.2;
        is = h.3.3.0 ∙ ap (make h.0) (h.3.2.0 ∙ ap (λ n. n.end) (sym state));
      }

  carried_end : (s : State) (a : A) (b : B) (m : State) → b ≡ make a m.end → Carried l s a m →
      Carried (to_end make l) s b m
  carried_end s a b m e c = record {
    word = c.word;
    is = c.is;
    still = λ asked rest mild calm. subst (λ v. to_end make l asked (s with (c.word ++ rest)) v (m with rest)) (sym e) (ending asked (s with (c.word ++ rest)) a (m with rest) (c.still asked rest mild calm));
  }

  ended_end : (s : State) (rest : List Token) → Ended l s rest → Ended (to_end make l) s rest
  ended_end s rest e = record { value = make e.value e.after.end; after = e.after; behind = e.behind; read = λ asked silent. ending asked s e.value e.after (e.read asked silent) }

  opened_end : (d : ℕ) (s : State) (more : ℕ) (rest : List Token) → Opened d l s more rest →
      Opened d (to_end make l) s more rest
  opened_end d s more rest o = record { value = make o.value o.after.end; after = o.after; behind = o.behind; read = λ asked silent only. ending asked s o.value o.after (o.read asked silent only) }

  completed_end : (s : State) (word : List Token) (fault : Fault) (left rest : List Token) →
      Completed l s word fault left rest → Completed (to_end make l) s word fault left rest
  completed_end s word fault left rest c = completed_as c (make c.value c.after.end) (ending (upto fault (length (kept fault left ++ (c.fill ++ rest)))) (s with (word ++ (kept fault left ++ (c.fill ++ rest)))) c.value c.after c.read)

  reads_end : (p : Reader A) (s : State) (a : A) (m : State) → Reads p l s a m →
      Reads (read_end make p) (to_end make l) s (make a m.end) m
  reads_end p s a m h = record { read = ending limits s a m h.read; word = h.word; is = h.is; same = λ x rest others e. rw (h.same x rest others e) refl }

  stops_end : (p : Reader A) (goes : Token → Bool) (s : State) (fault : Fault) (left : List Token) →
      Stops p l goes s fault left → Stops (read_end make p) (to_end make l) goes s fault left
  stops_end p goes s fault left h = record {
    word = h.word;
    is = h.is;
    same = λ x rest others e. rw (h.same x rest others e) refl;
    there = h.there;
    completed = λ rest quiet calm. completed_end s h.word fault left rest (h.completed rest quiet calm);
  }

  done_end : (p : Reader A) (s : State) (b : B) (m : State) (o : Outcome A) → p s ≡ o →
      and_then o (λ a t. Done (make a t.end) t) ≡ Done b m → ((a : A) (n : State) → p s ≡ Done a n → Reads p l s a n) →
      Reads (read_end make p) (to_end make l) s b m
  done_end p s b m (Done a n) e h reads =
      let value : make a n.end ≡ b = cc in
      let state : n ≡ m = cc in
      subst (λ v. Reads (read_end make p) (to_end make l) s v m) value
      (subst (λ t. Reads (read_end make p) (to_end make l) s (make a n.end) t) state (reads_end p s a n (reads a n e)))
  done_end p s b m (Stopped fault left) e h reads = absurd (cc)

  stopped_end : (p : Reader A) (goes : Token → Bool) (s : State) (fault : Fault) (left : List Token) (o : Outcome A) →
      p s ≡ o → and_then o (λ a t. Done (make a t.end) t) ≡ Stopped fault left →
      (p s ≡ Stopped fault left → Stops p l goes s fault left) →
      Stops (read_end make p) (to_end make l) goes s fault left
  stopped_end p goes s fault left (Done a n) e h stops = absurd (cc)
  stopped_end p goes s fault left (Stopped why there) e h stops =
      let cause : why ≡ fault = cc in
      let tokens : there ≡ left = cc in
      stops_end p goes s fault left (stops (subst (λ f. p s ≡ Stopped f left) cause (subst (λ ts. p s ≡ Stopped why ts) tokens e)))

  faces_end : (p : Reader A) (asked : Asked) (s : State) (a : A) (b : B) (m : State) → b ≡ make a m.end →
      Faces asked (p s) a m → Faces asked (read_end make p s) b m
  faces_end p asked s a b m e (inl h) = inl (rw (h, e) refl)
  faces_end p asked s a b m e (inr h) = inr (record { quantity = h.quantity; left = h.left; count = h.count; is = rw h.is refl; wanted = h.wanted; passes = h.passes })

-- for each index, a word of a language of another
module _ {X Y A B : Type 0} {able : Type 0} {d : ℕ} {first goes : Token → Bool} (k : Y → X) (make : Y → A → ℕ → B)
    (l : X → Language A) (P : Spoken able d l ⊥ first goes) where
  ended_spoken : Spoken able d (λ y. to_end (make y) (l (k y))) ⊥ first goes
  ended_spoken = record {
    carried = λ y s b m h.
        let t : AtEnd (make y) (l (k y)) limits s b m = at_end (make y) (l (k y)) limits s b m h in
        carried_end (make y) (l (k y)) s t.value b m t.is (P.carried (k y) s t.value m t.read);
    starts = λ y asked s b m h.
        let t : AtEnd (make y) (l (k y)) asked s b m = at_end (make y) (l (k y)) asked s b m h in
        P.starts (k y) asked s t.value m t.read;
    ends = λ can rest quiet calm.
        let e : Ends l rest = P.ends can rest quiet calm in
        ends_as e (λ y s is. ended_end (make y)
        (l (k y)) s rest (e.ended (k y) s is));
    opens = λ can here h rest quiet calm.
        let o : Opens d l here rest = P.opens can here h rest quiet calm in
        opens_as o (λ y s is. opened_end (make y)
        (l (k y)) d s (length (o.fill ++ rest)) rest (o.opened (k y) s is));
    skips = λ can none y s quiet calm. absurd none;
  }

module _ {X Y A B : Type 0} {able : Type 0} {d : ℕ} {first goes : Token → Bool} (k : Y → X) (make : Y → A → ℕ → B)
    (p : X → Reader A) (l : X → Language A) (P : Decides able d p l ⊥ first goes) where
  ended_decides : Decides able d (λ y. read_end (make y) (p (k y))) (λ y. to_end (make y) (l (k y))) ⊥ first goes
  ended_decides = record {
    spoken = ended_spoken k make l P.spoken;
    done = λ can y s b m h. done_end (make y) (l (k y)) (p (k y)) s b m (p (k y) s) refl h (λ a n e. P.done can (k y) s a n e);
    stopped = λ can y s fault left h. stopped_end (make y) (l (k y)) (p (k y)) goes s fault left (p (k y) s) refl h (λ e. P.stopped can (k y) s fault left e);
    complete = λ y asked s b m h quiet.
        let t : AtEnd (make y) (l (k y)) asked s b m = at_end (make y) (l (k y)) asked s b m h in
        faces_end (make y) (l (k y)) (p (k y)) asked s t.value b m t.is (P.complete (k y) asked s t.value m t.read quiet);
  }

-- ---- from its first token to its last

pub placed_spoken : {X A B : Type 0} {able : Type 0} {d : ℕ} {l : X → Language A} {first goes : Token → Bool}
    (make : X → A → Span → B) →
    Spoken able d l ⊥ first goes → Spoken able d (λ x. L.placed (make x) (l x)) ⊥ first goes
placed_spoken {X = X} {l = l} make P =
    begun_spoken (λ x from. to_end (λ a to. make x a (span from to)) (l x)) (ended_spoken {Y = X × ℕ} (λ xn. xn.0) (λ xn a to. make xn.0 a (span xn.1 to)) l P)

pub placed : {X A B : Type 0} {able : Type 0} {d : ℕ} {p : X → Reader A} {l : X → Language A}
    {first goes : Token → Bool} (make : X → A → Span → B) →
    Decides able d p l ⊥ first goes → Decides able d (λ x. R.placed (make x) (p x))
    (λ x. L.placed (make x) (l x)) ⊥ first goes
placed {X = X} {p = p} {l = l} make P =
    begun (λ x from. read_end (λ a to. make x a (span from to)) (p x)) (λ x from. to_end (λ a to. make x a (span from to)) (l x))
    (ended_decides {Y = X × ℕ} (λ xn. xn.0) (λ xn a to. make xn.0 a (span xn.1 to)) p l P)
