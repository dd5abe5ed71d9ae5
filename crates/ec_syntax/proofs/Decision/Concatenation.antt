-- One language behind another.
use Rattle.std.proofs.Common.{◌≡◌, refl, sym, ◌∙◌, ap, subst, ⊎_elim, inl, inr, ◌⊎◌, ◌≤◌, ◌<◌, le_of_lt, le_of_eq, lt_of_le_of_lt, ℕ, Bool, true, false, true≢false, ◌||◌, List, [], ◌∷◌, ◌++◌, length, append_assoc}
use Rattle.ec_base.specs.declared.token.Token.{Token}
use Rattle.ec_syntax.specs.Grammar.State.{State, Asked, limits, nothing}
use Rattle.ec_syntax.specs.declared.quantity.Quantity.TheVariants.{Nesting}
use Rattle.ec_syntax.specs.Grammar.Language as language
use Rattle.ec_syntax.specs.Grammar.Language.{Language, first_is}
use Rattle.ec_syntax.proofs.Decision.Procedures.{◌with◌, Quiet, is_else, Carried, Ended, Ends, Opened, Opens, Skipped, Within, Apart, Spoken, Decides, Trails, Follows}
use Rattle.ec_syntax.specs.Descent.Reader.{Reader}
use Rattle.ec_syntax.proofs.Tokens.Sequences.{with_assoc, split_in, no_longer, length_behind, Lexical-append, first_at, Quiet-within, Quiet-apart, first_left, first_right, Quiet-word, nothing_silent, Silent-less, AsksOnly-at}
use Rattle.std.proofs.lemmas.Bool.{or_cases}
use Rattle.ec_syntax.proofs.Lookahead.FirstTokens.{ends_as, opens_as}

-- ---- what stands at a depth may stand behind

pub spoken_trails : {X B : Type 0} {able : Type 0} {d : ℕ} {g : X → Language B} {empty : Type 0}
    {first goes : Token → Bool} → Spoken able d g empty first goes → Trails able g empty first goes
spoken_trails h = record {
  carried = h.carried;
  starts = λ x asked s b m k. ⊎_elim (λ y. inl (y.0, y.2)) (λ y. inr y) (h.starts x asked s b m k);
  ends = h.ends;
}

pub decides_follows : {X B : Type 0} {able : Type 0} {d : ℕ} {f : X → Reader B} {g : X → Language B} {empty : Type 0}
    {first goes : Token → Bool} → Decides able d f g empty first goes → Follows able f g empty first goes
decides_follows h = record { trails = spoken_trails h.spoken; done = h.done; stopped = h.stopped; complete = h.complete }

-- a state before these tokens
abbrev before : List Token → State
before ts = record { left = ts; end = 0; marks = 0; variables = 0; functions = 0; structs = 0 }

module _ {X A B : Type 0} {l : X → Language A} (g : X → A → Language B) {able : Type 0} {empty_p empty_f : Type 0}
    {first_p first_f goes_p goes_f : Token → Bool}
    (h : Trails able l empty_p first_p goes_p) (k : Trails {X = X × A} able (λ xa. g xa.0 xa.1) empty_f first_f goes_f) (apart : Apart first_f goes_p) (within : empty_f → Within goes_p goes_f) where
  abbrev Both : X → Language B
  Both x = language.◌>>=◌ (l x) (g x)

  abbrev Seconds : X × A → Language B
  Seconds xa = g xa.0 xa.1

  -- what stands behind a word of the first
  pub quiet_first : (x : X) (asked : Asked) (m : State) (a : A) (b : B) (s' : State) → g x a asked m b s' →
      Quiet goes_f s'.left → Quiet goes_p m.left
  quiet_first x asked m a b s' r q = ⊎_elim (λ y. Quiet-apart first_f goes_p apart m.left y.0)
      (λ y. Quiet-within goes_p goes_f (within y.0) m.left (first_at goes_f m.left s'.left false (sym y.1) q)) (k.starts (x, a) asked m b s' r)

  -- no more tokens stand behind a word of the second
  pub no_more : (x : X) (asked : Asked) (m : State) (a : A) (b : B) (s' : State) → g x a asked m b s' →
      length s'.left ≤ length m.left
  no_more x asked m a b s' r = ⊎_elim (λ y. le_of_lt y.1) (λ y. le_of_eq (ap length y.1)) (k.starts (x, a) asked m b s' r)

  carried_both : (x : X) (s : State) (b : B) (s' : State) → Both x limits s b s' → Carried (Both x) s b s'
  carried_both x s b s' r =
      let c = h.carried x s r.0 r.1 r.2 in
      let e = k.carried (x, r.0) r.1 b s' r.3 in record {
        word = c.word ++ e.word;
        is = split_in s.left c.word r.1.left e.word s'.left c.is e.is;
        still = λ asked rest mild q.
            subst (λ z. Both x asked z b (s' with rest)) (sym (with_assoc s c.word e.word rest))
            (r.0, r.1 with (e.word ++ rest), c.still asked (e.word ++ rest) mild (Quiet-word is_else e.word r.1.left s'.left rest e.is q), e.still asked rest mild q);
      }

  -- ---- ends

  -- a value, as there is a word
  some_value : able → X → A
  some_value i x = let o = h.ends i [] refl refl in (o.ended x (before (o.fill ++ [])) refl).value

  -- what ends the second doesn't make the first go on
  quiet_fill : (rest : List Token) → Quiet goes_f rest → (o : Ends Seconds rest) → X → A → Quiet goes_p (o.fill ++ rest)
  quiet_fill rest q o x a =
      let y = o.ended (x, a) (before (o.fill ++ rest)) refl in
      quiet_first x nothing (before (o.fill ++ rest)) a y.value y.after (y.read nothing (nothing_silent _)) (first_at goes_f y.after.left rest false y.behind q)

  pub quiet_behind : able → (rest : List Token) → Quiet goes_f rest → (o : Ends Seconds rest) → X →
      Quiet goes_p (o.fill ++ rest)
  quiet_behind i rest q o x = quiet_fill rest q o x (some_value i x)

  ended_both : (x : X) (s : State) (us ts rest : List Token) → s.left ≡ us ++ ts → Ended (l x) s ts →
      ((a : A) (m : State) → m.left ≡ ts → Ended (g x a) m rest) → Ended (Both x) s rest
  ended_both x s us ts rest e n o =
      let y = o n.value n.after n.behind in record {
        value = y.value;
        after = y.after;
        behind = y.behind;
        read = λ asked silent. (
          n.value,
          n.after,
          n.read asked silent,
          y.read asked (Silent-less asked (length n.after.left) (length s.left) (no_longer s.left us n.after.left (e ∙ ap (λ l. us ++ l) (sym n.behind))) silent),
        );
      }

  ends_by : able → (rest : List Token) (o : Ends Seconds rest) → (X → Quiet goes_p (o.fill ++ rest)) → (v : Bool) →
      first_is goes_p (o.fill ++ rest) ≡ v → Ends Both rest
  ends_by i rest o quiet true e = ends_as o (λ x s r. absurd (true≢false (sym e ∙ quiet x)))
  ends_by i rest o quiet false e =
      let n = h.ends i (o.fill ++ rest) e o.calm in record {
        fill = n.fill ++ o.fill;
        lexical = Lexical-append n.fill o.fill n.lexical o.lexical;
        calm = subst (Quiet is_else) (sym (append_assoc n.fill o.fill rest)) n.calm;
        ended = λ x s r.
            let t : s.left ≡ n.fill ++ (o.fill ++ rest) = r ∙ append_assoc n.fill o.fill rest in
            ended_both x s n.fill (o.fill ++ rest) rest t (n.ended x s t) (λ a m j. o.ended (x, a) m j);
      }

  ends_both : able → (rest : List Token) → Quiet goes_f rest → Quiet is_else rest → Ends Both rest
  ends_both i rest q c = let o = k.ends i rest q c in ends_by i rest o (quiet_behind i rest q o) (first_is goes_p (o.fill ++ rest)) refl

  -- ---- the first has a token at least

  starts_some : (empty_p → ⊥) → (x : X) (asked : Asked) (s : State) (b : B) (s' : State) → Both x asked s b s' →
      ((first_is first_p s.left ≡ true) × (length s'.left < length s.left)) ⊎ (⊥ × (s'.left ≡ s.left))
  starts_some some x asked s b s' r = ⊎_elim (λ y. inl (y.0, lt_of_le_of_lt (no_more x asked r.1 r.0 b s' r.3) y.1)) (λ y. absurd (some y.0)) (h.starts x asked s r.0 r.1 r.2)

  pub followed_trails : (empty_p → ⊥) → Trails able (λ x. language.◌>>=◌ (l x) (g x)) ⊥ first_p goes_f
  followed_trails some = record { carried = carried_both; starts = starts_some some; ends = ends_both }

-- the first stands at a depth
module _ {X A B : Type 0} {l : X → Language A} (g : X → A → Language B) {able : Type 0} {d : ℕ}
    {empty_p empty_f : Type 0} {first_p first_f goes_p goes_f : Token → Bool}
    (h : Spoken able d l empty_p first_p goes_p) (k : Trails {X = X × A} able (λ xa. g xa.0 xa.1) empty_f first_f goes_f) (apart : Apart first_f goes_p) (within : empty_f → Within goes_p goes_f) where
  abbrev Chain : X → Language B
  Chain x = language.◌>>=◌ (l x) (g x)

  abbrev Ending : X × A → Language B
  Ending xa = g xa.0 xa.1

  opened_both : (x : X) (s : State) (more : ℕ) (ts rest : List Token) → length ts ≤ more → Opened d (l x) s more ts →
      ((a : A) (m : State) → m.left ≡ ts → Ended (g x a) m rest) → Opened d (Chain x) s more rest
  opened_both x s more ts rest fits n o =
      let y = o n.value n.after n.behind in record {
        value = y.value;
        after = y.after;
        behind = y.behind;
        read = λ asked silent only. (
          n.value,
          n.after,
          n.read asked silent only,
          y.read asked (Silent-less asked (length n.after.left) more (subst (λ u. length u ≤ more) (sym n.behind) fits) silent),
        );
      }

  opens_by : able → (here : Token) → first_p here ≡ true → (rest : List Token) (o : Ends Ending rest) →
      (X → Quiet goes_p (o.fill ++ rest)) → (v : Bool) → first_is goes_p (o.fill ++ rest) ≡ v →
      Opens d Chain here rest
  opens_by i here f rest o quiet true e = record { fill = o.fill; lexical = o.lexical; calm = o.calm; opened = λ x s r. absurd (true≢false (sym e ∙ quiet x)) }
  opens_by i here f rest o quiet false e =
      let n = h.opens i here f (o.fill ++ rest) e o.calm in record {
        fill = n.fill ++ o.fill;
        lexical = Lexical-append n.fill o.fill n.lexical o.lexical;
        calm = subst (Quiet is_else) (sym (append_assoc n.fill o.fill rest)) n.calm;
        opened = λ x s r.
            subst (λ u. Opened d (Chain x) s (length u) rest) (sym (append_assoc n.fill o.fill rest))
            (opened_both x s (length (n.fill ++ (o.fill ++ rest))) (o.fill ++ rest) rest (length_behind n.fill (o.fill ++ rest))
            (n.opened x s (r ∙ ap (λ u. here ∷ u) (append_assoc n.fill o.fill rest))) (λ a m j. o.ended (x, a) m j));
      }

  opens_first : able → (here : Token) → first_p here ≡ true → (rest : List Token) → Quiet goes_f rest →
      Quiet is_else rest → Opens d Chain here rest
  opens_first i here f rest q c = let o = k.ends i rest q c in opens_by i here f rest o (quiet_behind g (spoken_trails h) k apart within i rest q o) (first_is goes_p (o.fill ++ rest)) refl

  -- ---- the first has a token at least

  deep_some : (empty_p → ⊥) → (x : X) (asked : Asked) (s : State) (b : B) (s' : State) → Chain x asked s b s' →
      ((first_is first_p s.left ≡ true) × asked s.left Nesting d × length s'.left < length s.left)
      ⊎ (⊥ × (s'.left ≡ s.left))
  deep_some some x asked s b s' r = ⊎_elim (λ y. inl (y.0, y.1, lt_of_le_of_lt (no_more g (spoken_trails h) k apart within x asked r.1 r.0 b s' r.3) y.2)) (λ y. absurd (some y.0)) (h.starts x asked s r.0 r.1 r.2)

  pub followed_spoken : (empty_p → ⊥) → Spoken able d (λ x. language.◌>>=◌ (l x) (g x)) ⊥ first_p goes_f
  followed_spoken some = record {
    carried = carried_both g (spoken_trails h) k apart within;
    starts = deep_some some;
    ends = ends_both g (spoken_trails h) k apart within;
    opens = opens_first;
    skips = λ i none. absurd none;
  }

-- ---- the first may have no token

module _ {X A B : Type 0} {l : X → Language A} (g : X → A → Language B) {able : Type 0} {d : ℕ}
    {empty_p empty_f : Type 0} {first_p first_f goes_p goes_f : Token → Bool}
    (h : Spoken able d l empty_p first_p goes_p) (k : Spoken able d (λ (xa : X × A). g xa.0 xa.1) empty_f first_f goes_f) (apart : Apart first_f goes_p) (within : empty_f → Within goes_p goes_f)
    (calm : Apart first_f is_else) (none : empty_p) where
  abbrev Joint : X → Language B
  Joint x = language.◌>>=◌ (l x) (g x)

  abbrev either : Token → Bool
  either t = first_p t || first_f t

  abbrev Starts : Asked → State → State → Type 0
  Starts asked s s' = ((first_is either s.left ≡ true) × asked s.left Nesting d × length s'.left < length s.left) ⊎ (empty_f × (s'.left ≡ s.left))

  starts_second : (asked : Asked) (s m s' : State) → m.left ≡ s.left →
      ((first_is first_f m.left ≡ true) × asked m.left Nesting d × length s'.left < length m.left)
      ⊎ (empty_f × (s'.left ≡ m.left)) → Starts asked s s'
  starts_second asked s m s' e = ⊎_elim
      (λ y. inl (first_right first_p first_f s.left (first_at first_f s.left m.left true (sym e) y.0), subst (λ z. asked z Nesting d) e y.1, subst (λ z. length s'.left < length z) e y.2)) (λ y. inr (y.0, y.1 ∙ e))

  starts_maybe : (x : X) (asked : Asked) (s : State) (b : B) (s' : State) → Joint x asked s b s' → Starts asked s s'
  starts_maybe x asked s b s' r = ⊎_elim (λ y. inl (first_left first_p first_f s.left y.0, y.1, lt_of_le_of_lt (no_more g (spoken_trails h) (spoken_trails k) apart within x asked r.1 r.0 b s' r.3) y.2)) (λ y. starts_second asked s r.1 s' y.1 (k.starts (x, r.0) asked r.1 b s' r.3))
      (h.starts x asked s r.0 r.1 r.2)

  opened_second : (x : X) (s : State) (more : ℕ) (rest : List Token) → Skipped (l x) s →
      ((a : A) (m : State) → m.left ≡ s.left → Opened d (g x a) m more rest) → Opened d (Joint x) s more rest
  opened_second x s more rest n o =
      let y = o n.value n.after n.behind in record {
        value = y.value;
        after = y.after;
        behind = y.behind;
        read = λ asked silent only. (n.value, n.after, n.read asked, y.read asked silent (AsksOnly-at asked d s.left n.after.left (sym n.behind) only));
      }

  opens_second : able → (here : Token) → first_f here ≡ true → (rest : List Token) → Quiet goes_f rest →
      Quiet is_else rest → Opens d Joint here rest
  opens_second i here f rest q c =
      let o = k.opens i here f rest q c in opens_as o (λ x s e.
      opened_second x s (length (o.fill ++ rest)) rest
      (h.skips i none x s (first_at goes_p s.left (here ∷ (o.fill ++ rest)) false e (apart here f)) (first_at is_else s.left (here ∷ (o.fill ++ rest)) false e (calm here f)))
      (λ a m j. o.opened (x, a) m (j ∙ e)))

  skips_both : able → empty_f → (x : X) (s : State) → Quiet goes_f s.left → Quiet is_else s.left → Skipped (Joint x) s
  skips_both i e x s q c =
      let n = h.skips i none x s (Quiet-within goes_p goes_f (within e) s.left q) c in
      let y = k.skips i e (x, n.value) n.after (first_at goes_f n.after.left s.left false n.behind q) (first_at is_else n.after.left s.left false n.behind c) in record {
        value = y.value;
        after = y.after;
        behind = y.behind ∙ n.behind;
        read = λ asked. (n.value, n.after, n.read asked, y.read asked);
      }

  pub followed_maybe_spoken : Spoken able d (λ x. language.◌>>=◌ (l x) (g x)) empty_f (λ t. first_p t || first_f t)
      goes_f
  followed_maybe_spoken = record {
    carried = carried_both g (spoken_trails h) (spoken_trails k) apart within;
    starts = starts_maybe;
    ends = ends_both g (spoken_trails h) (spoken_trails k) apart within;
    opens = λ i here e rest q c. ⊎_elim (λ y. opens_first g h (spoken_trails k) apart within i here y rest q c) (λ y. opens_second i here y rest q c) (or_cases (first_p here) (first_f here) e);
    skips = skips_both;
  }
