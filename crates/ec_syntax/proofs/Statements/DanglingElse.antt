-- An `else` and what belongs to it, or none where no `else` stands.
use Rattle.std.proofs.Common.{◌≡◌, refl, sym, ◌∙◌, ap, subst, arith, codes, ⊎_elim, inl, inr, ◌⊎◌, ◌<◌, ◌≤◌, ℕ, Bool, true, false, List, [], ◌∷◌, ◌++◌, length}
use Rattle.ec_base.specs.declared.limits.TheConstants.{MAX_NESTING}
use Rattle.ec_base.specs.declared.token.Token.{Token}
use Rattle.ec_syntax.specs.Grammar.State.{State, Asked, limits}
use Rattle.ec_syntax.specs.declared.quantity.Fault.{Fault}
use Rattle.ec_syntax.specs.declared.quantity.Quantity.TheVariants.{Nesting}
use Rattle.ec_syntax.specs.Grammar.Tokens as T
use Rattle.ec_syntax.specs.Grammar.Tokens.{only}
use Rattle.ec_syntax.specs.Descent.Tokens as RT
use Rattle.ec_syntax.specs.Grammar.Language as L
use Rattle.ec_syntax.specs.Grammar.Language.{Language, first_is}
use Rattle.ec_syntax.specs.Descent.Reader as R
use Rattle.ec_syntax.specs.Descent.Reader.{Reader, when}
use Rattle.ec_syntax.specs.Descent.Reader.Outcome.{Done, Stopped}
use Rattle.ec_syntax.proofs.Decision.Procedures.{Trails, Follows, ◌with◌, Quiet, is_else, Carried, Faces, Reads, Stops, Completed, upto, kept}
use Rattle.ec_syntax.proofs.Tokens.Sequences.{first_at, upto_mild}
use Rattle.ec_syntax.proofs.Lookahead.FirstTokens.{completed_as, Front, front, carried_into}
use Rattle.ec_syntax.proofs.Decision.Continuations.{Later}
use Rattle.ec_syntax.proofs.Decision.Alternatives.{reads_left, stops_left}
use Rattle.std.proofs.lemmas.Bool.{cases_Bool}
use Rattle.ec_syntax.proofs.Tokens.Classes.{only_passes}

-- words that begin with `else`, which are carried
pub record ElseTrails {X A : Type 0} (l : X → Language A) : Type 1 where
  pub carried : (x : X) (s : State) (a : A) (m : State) → l x limits s a m → Carried (l x) s a m
  pub starts : (x : X) (asked : Asked) (s : State) (a : A) (m : State) → l x asked s a m →
      (first_is is_else s.left ≡ true) × (length m.left < length s.left)

-- and readers of them, where an `else` stands
pub record ElseFollows {X A : Type 0} (able : Type 0) (p : X → Reader A) (l : X → Language A)
    (goes : Token → Bool) : Type 1 where
  pub trails : ElseTrails l
  pub done : able → (x : X) (s : State) (a : A) (m : State) → first_is is_else s.left ≡ true → p x s ≡ Done a m →
      Reads (p x) (l x) s a m
  pub stopped : able → (x : X) (s : State) (fault : Fault) (left : List Token) → first_is is_else s.left ≡ true →
      p x s ≡ Stopped fault left → Stops (p x) (l x) goes s fault left
  pub complete : (x : X) (asked : Asked) (s : State) (a : A) (m : State) → l x asked s a m → Quiet goes m.left →
      Faces asked (p x s) a m

module _ {X A : Type 0} (f : X → A) where
  -- nothing, where no `else` stands
  abbrev pub nothing_else : X → Language A
  nothing_else x = L.◌>>◌ (L.lacks is_else) (L.give (f x))

  nothing_carried : (x : X) (s : State) (a : A) (m : State) → nothing_else x limits s a m →
      Carried (nothing_else x) s a m
  nothing_carried x s a m (u, m₁, (quiet, e₁), (ea, em)) =
      let e : m ≡ s = em ∙ e₁ in record {
        word = [];
        is = ap (λ z. z.left) (sym e);
        still = λ asked rest mild calm. (tt, s with rest, (calm (subst (λ z. Quiet is_else z.left) (sym e) quiet), refl), (ea, ap (λ z. z with rest) e));
      }

  nothing_left : (x : X) (asked : Asked) (s : State) (a : A) (m : State) → nothing_else x asked s a m → m.left ≡ s.left
  nothing_left x asked s a m (u, m₁, (quiet, e₁), (ea, em)) = ap (λ z. z.left) (em ∙ e₁)

  nothing_reads : (p : Reader A) (l : Language A) (x : X) (s : State) → first_is is_else s.left ≡ false →
      Reads (when is_else p (R.give (f x))) (L.◌or◌ l (nothing_else x)) s (f x) s
  nothing_reads p l x s fails = record {
    read = inr (tt, s, (fails, refl), (refl, refl));
    word = [];
    is = refl;
    same = λ y rest others e. rw (first_at is_else (y ∷ rest) s.left false (sym e) fails) refl;
  }

  nothing_done : (p : Reader A) (l : Language A) (x : X) (s : State) (a : A) (m : State) →
      first_is is_else s.left ≡ false → Done (f x) s ≡ Done a m →
      Reads (when is_else p (R.give (f x))) (L.◌or◌ l (nothing_else x)) s a m
  nothing_done p l x s a m fails h =
      let value : f x ≡ a = cc in
      let state : s ≡ m = cc in
      subst (λ b. Reads (when is_else p (R.give (f x))) (L.◌or◌ l (nothing_else x)) s b m) value (subst (λ n. Reads (when is_else p (R.give (f x))) (L.◌or◌ l (nothing_else x)) s (f x) n) state (nothing_reads p l x s fails))

  nothing_faces : (p : Reader A) (x : X) (asked : Asked) (s : State) (a : A) (m : State) → nothing_else x asked s a m →
      Faces asked (when is_else p (R.give (f x)) s) a m
  nothing_faces p x asked s a m (u, m₁, (quiet, e₁), (ea, em)) = rw quiet (inl (ap (λ b. Done b s) (sym ea) ∙ ap (λ n. Done a n) (sym (em ∙ e₁))))

  module _ {l : X → Language A} (P : ElseTrails l) where
    lacking_carried : (x : X) (s : State) (a : A) (m : State) → (L.◌or◌ (l x) (nothing_else x)) limits s a m →
        Carried (L.◌or◌ (l x) (nothing_else x)) s a m
    lacking_carried x s a m (inl h) = carried_into (λ asked s a m k. inl k) (P.carried x s a m h)
    lacking_carried x s a m (inr h) = carried_into (λ asked s a m k. inr k) (nothing_carried x s a m h)

    lacking_starts : (x : X) (asked : Asked) (s : State) (a : A) (m : State) →
        (L.◌or◌ (l x) (nothing_else x)) asked s a m →
        ((first_is is_else s.left ≡ true) × (length m.left < length s.left)) ⊎ (Unit {0} × (m.left ≡ s.left))
    lacking_starts x asked s a m (inl h) = inl (P.starts x asked s a m h)
    lacking_starts x asked s a m (inr h) = inr (tt, nothing_left x asked s a m h)

    lacking_trails : (able : Type 0) (goes : Token → Bool) →
        Trails able (λ x. L.◌or◌ (l x) (nothing_else x)) (Unit {0}) is_else goes
    lacking_trails able goes = record {
      carried = lacking_carried;
      starts = lacking_starts;
      ends = λ can rest quiet calm. record {
        fill = [];
        lexical = refl;
        calm = calm;
        ended = λ x s is. record { value = f x; after = s; behind = is; read = λ asked silent. inr (tt, s, (first_at is_else s.left rest false is calm, refl), (refl, refl)) };
      };
    }

  module _ {able : Type 0} {p : X → Reader A} {l : X → Language A} {goes : Token → Bool}
      (P : ElseFollows able p l goes) where
    lacking_done : able → (x : X) (s : State) (a : A) (m : State) → when is_else (p x) (R.give (f x)) s ≡ Done a m →
        Reads (when is_else (p x) (R.give (f x))) (L.◌or◌ (l x) (nothing_else x)) s a m
    lacking_done can x s a m h = ⊎_elim (λ passes. reads_left is_else (p x) (R.give (f x)) (l x) (nothing_else x) s a m passes (P.done can x s a m passes (rw passes at h)))
        (λ fails. nothing_done (p x) (l x) x s a m fails (rw fails at h)) (cases_Bool (first_is is_else s.left))

    lacking_stopped : able → (x : X) (s : State) (fault : Fault) (left : List Token) →
        when is_else (p x) (R.give (f x)) s ≡ Stopped fault left →
        Stops (when is_else (p x) (R.give (f x))) (L.◌or◌ (l x) (nothing_else x)) goes s fault left
    lacking_stopped can x s fault left h = ⊎_elim (λ passes. stops_left is_else (p x) (R.give (f x)) (l x) (nothing_else x) goes s fault left passes (P.stopped can x s fault left passes (rw passes at h)))
        (λ fails. let k : Done (f x) s ≡ Stopped fault left = rw fails at h in absurd (cc)) (cases_Bool (first_is is_else s.left))

    lacking_complete : (x : X) (asked : Asked) (s : State) (a : A) (m : State) →
        (L.◌or◌ (l x) (nothing_else x)) asked s a m → Quiet goes m.left →
        Faces asked (when is_else (p x) (R.give (f x)) s) a m
    lacking_complete x asked s a m (inl h) quiet = rw (P.trails.starts x asked s a m h).0 (P.complete x asked s a m h quiet)
    lacking_complete x asked s a m (inr h) quiet = nothing_faces (p x) x asked s a m h

    lacking_follows : Follows able (λ x. when is_else (p x) (R.give (f x))) (λ x. L.◌or◌ (l x) (nothing_else x))
        (Unit {0}) is_else goes
    lacking_follows = record { trails = lacking_trails P.trails able goes; done = lacking_done; stopped = lacking_stopped; complete = lacking_complete }

-- ---- the word itself

abbrev word_else : ℕ → Language (Unit {0})
word_else d = T.word d (codes "else")

read_else : (s : State) (x : Token) (rest : List Token) → s.left ≡ x ∷ rest → is_else x ≡ true →
    RT.word (codes "else") s ≡ Done tt (R.behind s x rest)
read_else s x rest e h = ap (λ ts. R.at_front (only is_else) (λ s a. []) (λ s. s) s ts) e ∙ read_it
  where
    read_it : R.picking (λ s a. []) (λ s. s) s x rest (only is_else x) ≡ Done tt (R.behind s x rest)
    read_it = rw h refl

takes_else : (d : ℕ) (asked : Asked) (s : State) (x : Token) (rest : List Token) → s.left ≡ x ∷ rest →
    is_else x ≡ true → asked s.left Nesting d → word_else d asked s tt (R.behind s x rest)
takes_else d asked s x rest e h n = record { token = x; rest = rest; stands = e; picked = rw h refl; nested = n; within = tt; next = refl }

longer : (x : Token) (rest ts us : List Token) → ts ≡ x ∷ rest → length us ≤ length rest → length us < length ts
longer x rest ts us e h = rw e (omega arith)

module _ {X A : Type 0} (d : ℕ) (f : X → Reader A) (q : X → Language A) where
  abbrev else_read : X → Reader A
  else_read x = R.◌>>◌ (RT.word (codes "else")) (f x)

  abbrev else_word : X → Language A
  else_word x = L.◌>>◌ (word_else d) (q x)

  -- the reader goes on behind the word
  goes_behind : (x : X) (s : State) (y : Token) (rest : List Token) → s.left ≡ y ∷ rest → is_else y ≡ true →
      else_read x s ≡ f x (R.behind s y rest)
  goes_behind x s y rest e h = ap (λ o. R.and_then o (λ u. f x)) (read_else s y rest e h)

  module _ {able empty : Type 0} {first goes : Token → Bool} (Q : Trails able q empty first goes) where
    else_carried : (x : X) (s : State) (a : A) (m : State) → else_word x limits s a m → Carried (else_word x) s a m
    else_carried x s a m (u, m₁, h, k) =
        let c = Q.carried x m₁ a m k in record {
          word = h.token ∷ c.word;
          is = h.stands ∙ ap (λ ts. h.token ∷ ts) (sym (ap (λ z. z.left) h.next) ∙ c.is);
          still = λ asked rest mild calm. (
            tt,
            m₁ with (c.word ++ rest),
            record {
              token = h.token;
              rest = c.word ++ rest;
              stands = refl;
              picked = h.picked;
              nested = mild (h.token ∷ (c.word ++ rest)) Nesting d h.nested;
              within = tt;
              next = ap (λ z. z with (c.word ++ rest)) h.next;
            },
            c.still asked rest mild calm,
          );
        }

    no_longer_behind : (x : X) (asked : Asked) (s : State) (a : A) (m : State) → q x asked s a m →
        length m.left ≤ length s.left
    no_longer_behind x asked s a m h = ⊎_elim (λ k. let n : length m.left < length s.left = k.1 in omega arith) (λ k. rw k.1 (omega arith)) (Q.starts x asked s a m h)

    else_starts : (x : X) (asked : Asked) (s : State) (a : A) (m : State) → else_word x asked s a m →
        (first_is is_else s.left ≡ true) × (length m.left < length s.left)
    else_starts x asked s a m (u, m₁, h, k) = (
      first_at is_else s.left (h.token ∷ h.rest) true h.stands (only_passes is_else h.token u h.picked),
      longer h.token h.rest s.left m.left h.stands (subst (λ z. length m.left ≤ length z.left) h.next (no_longer_behind x asked m₁ a m k)),
    )

    pub else_trails : ElseTrails else_word
    else_trails = record { carried = else_carried; starts = else_starts }

  module _ {able empty : Type 0} {first goes : Token → Bool} (small : d ≤ MAX_NESTING)
      (Q : Follows able f q empty first goes) where
    else_reads : (x : X) (s : State) (a : A) (m : State) (w : Front is_else s.left) →
        Reads (f x) (q x) (R.behind s w.token w.rest) a m → Reads (else_read x) (else_word x) s a m
    else_reads x s a m w r = record {
      read = (tt, R.behind s w.token w.rest, takes_else d limits s w.token w.rest w.is w.passes small, r.read);
      word = w.token ∷ r.word;
      is = w.is ∙ ap (λ ts. w.token ∷ ts) r.is;
      same = λ y rest others e. goes_behind x (s with (w.token ∷ (r.word ++ (y ∷ others)))) w.token (r.word ++ (y ∷ others)) refl w.passes ∙ r.same y rest others e;
    }

    else_completed : (x : X) (s : State) (w : Front is_else s.left) (word : List Token) (fault : Fault)
        (left rest : List Token) → Completed (q x) (R.behind s w.token w.rest) word fault left rest →
        Completed (else_word x) s (w.token ∷ word) fault left rest
    else_completed x s w word fault left rest n =
        let others : List Token = word ++ (kept fault left ++ (n.fill ++ rest)) in
        completed_as n n.value (
          tt,
          R.behind s w.token w.rest with others,
          takes_else d (upto fault (length (kept fault left ++ (n.fill ++ rest)))) (s with (w.token ∷ others)) w.token others refl w.passes (upto_mild fault (length (kept fault left ++ (n.fill ++ rest))) (w.token ∷ others) Nesting d small),
          n.read,
        )

    else_stops : (x : X) (s : State) (fault : Fault) (left : List Token) (w : Front is_else s.left) →
        Stops (f x) (q x) goes (R.behind s w.token w.rest) fault left →
        Stops (else_read x) (else_word x) goes s fault left
    else_stops x s fault left w r = record {
      word = w.token ∷ r.word;
      is = w.is ∙ ap (λ ts. w.token ∷ ts) r.is;
      same = λ y rest others e. goes_behind x (s with (w.token ∷ (r.word ++ (y ∷ others)))) w.token (r.word ++ (y ∷ others)) refl w.passes ∙ r.same y rest others e;
      there = r.there;
      completed = λ rest quiet calm. else_completed x s w r.word fault left rest (r.completed rest quiet calm);
    }

    else_done : able → (x : X) (s : State) (a : A) (m : State) → first_is is_else s.left ≡ true →
        else_read x s ≡ Done a m → Reads (else_read x) (else_word x) s a m
    else_done can x s a m h e = let w = front is_else s.left h in else_reads x s a m w (Q.done can x (R.behind s w.token w.rest) a m (sym (goes_behind x s w.token w.rest w.is w.passes) ∙ e))

    else_stopped : able → (x : X) (s : State) (fault : Fault) (left : List Token) → first_is is_else s.left ≡ true →
        else_read x s ≡ Stopped fault left → Stops (else_read x) (else_word x) goes s fault left
    else_stopped can x s fault left h e = let w = front is_else s.left h in else_stops x s fault left w (Q.stopped can x (R.behind s w.token w.rest) fault left (sym (goes_behind x s w.token w.rest w.is w.passes) ∙ e))

    else_complete : (x : X) (asked : Asked) (s : State) (a : A) (m : State) → else_word x asked s a m →
        Quiet goes m.left → Faces asked (else_read x s) a m
    else_complete x asked s a m (u, m₁, h, k) quiet = subst (λ o. Faces asked o a m) (sym (goes_behind x s h.token h.rest h.stands (only_passes is_else h.token u h.picked) ∙ ap (f x) (sym h.next))) (Q.complete x asked m₁ a m k quiet)

    pub else_follows : ElseFollows able else_read else_word goes
    else_follows = record { trails = else_trails Q.trails; done = else_done; stopped = else_stopped; complete = else_complete }

-- what belongs to an `else`, or this value
pub lacking : {X A : Type 0} {fits able : Type 0} {p : X → Reader A} {l : X → Language A} {goes : Token → Bool}
    (f : X → A) → ElseTrails l → (fits → ElseFollows able p l goes) →
    Later fits able (λ x. when is_else (p x) (R.give (f x))) (λ x. L.◌or◌ (l x) (nothing_else f x))
    (Unit {0}) is_else goes
lacking {able = able} {goes = goes} f h k = record { trails = lacking_trails f h able goes; follows = λ fit. lacking_follows f (k fit) }

-- a part behind an `else`, or this value where there is no `else`
pub otherwise : {X A : Type 0} {fits able empty : Type 0} {d : ℕ} {f : X → Reader A} {q : X → Language A}
    {first goes : Token → Bool} (small : fits → d ≤ MAX_NESTING) (none : X → A) → Later fits able f q empty first goes →
    Later fits able (λ x. when is_else (R.◌>>◌ (RT.word (codes "else")) (f x)) (R.give (none x)))
    (λ x. L.◌or◌ (L.◌>>◌ (T.word d (codes "else")) (q x)) (nothing_else none x)) (Unit {0}) is_else goes
otherwise {d = d} {f = f} {q = q} small none h = lacking none (else_trails d f q h.trails) (λ fit. else_follows d f q (small fit) (h.follows fit))
