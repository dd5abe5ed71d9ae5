-- Languages and readers of one token.
use Rattle.std.proofs.Common.{◌≡◌, nat_le, leb-true, leb-false, if◌then◌else◌, ◌<◌, arith, refl, sym, ◌∙◌, ap, subst, inl, inr, true≢false, ◌≤◌, ℕ, Bool, true, false, not, ◌&&◌, List, [], ◌∷◌, Option, Some, None, is_some, length}
use Rattle.ec_base.specs.declared.limits.TheConstants.{MAX_NESTING}
use Rattle.std.proofs.lemmas.Bool.{and_parts}
use Rattle.ec_base.specs.declared.token.Token.{Token}
use Rattle.ec_syntax.specs.Grammar.State.{State, Asked, AskedAll, Counts, limit, limits}
use Rattle.ec_syntax.specs.declared.quantity.Quantity.{Quantity}
use Rattle.ec_syntax.specs.declared.quantity.Quantity.TheVariants.{Nesting}
use Rattle.ec_syntax.specs.Grammar.Language as language
use Rattle.ec_syntax.specs.Grammar.Language.{Language}
use Rattle.ec_syntax.specs.Descent.Reader as read
use Rattle.ec_syntax.specs.Descent.Reader.{Reader, Outcome}
use Rattle.ec_syntax.specs.Descent.Reader.Outcome.{Done, Stopped}
use Rattle.ec_syntax.specs.declared.quantity.Fault.{Fault}
use Rattle.ec_syntax.specs.declared.quantity.Fault.TheVariants.{Expected, Passes}
use Rattle.ec_syntax.proofs.Decision.Procedures.{◌with◌, Mild, Silent, upto, Quiet, Lexical, is_else, Carried, Ended, Opened, Opens, Faces, Reads, Stops, Completed, Spoken, Decides}
use Rattle.ec_syntax.proofs.Tokens.Sequences.{first_at, upto_silent_at}

abbrev pub is_nesting : Quantity → Bool
is_nesting Nesting = true
is_nesting _ = false

-- counts that don't have the nesting
abbrev pub no_nesting : Counts → Bool
no_nesting [] = true
no_nesting (c ∷ cs) = not (is_nesting c.0) && no_nesting cs

-- What is counted at a token, but the nesting, doesn't depend on the tokens; the test tells which tokens are taken, and
-- there is one of a text.
pub record Takable {X A : Type 0} (pick : Token → Option A) (counts : X → State → A → Counts) (counted : State → State)
    (first : Token → Bool) : Type 0 where
  pub shallow : (x : X) (s : State) (a : A) → no_nesting (counts x s a) ≡ true
  pub counts_still : (x : X) (s : State) (ts : List Token) (a : A) → counts x (s with ts) a ≡ counts x s a
  pub counted_still : (s : State) (ts : List Token) → counted (s with ts) ≡ counted s with ts
  pub told : (t : Token) → first t ≡ is_some (pick t)
  pub token : Token
  pub value : A
  pub picked : pick token ≡ Some value
  pub lexical : Lexical (token ∷ [])
  pub no_else : is_else token ≡ false

-- ---- counts

within_mild : (asked : Asked) (ts us : List Token) (cs : Counts) → Mild asked → AskedAll limits ts cs →
    AskedAll asked us cs
within_mild asked ts us [] mild h = tt
within_mild asked ts us (c ∷ cs) mild h = (mild us c.0 c.1 h.0, within_mild asked ts us cs mild h.1)

within_silent : (asked : Asked) (ts : List Token) (cs : Counts) → Silent asked (length ts) → AskedAll asked ts cs
within_silent asked ts [] silent = tt
within_silent asked ts (c ∷ cs) silent = (silent ts c.0 c.1 (omega arith), within_silent asked ts cs silent)

not_nesting : (q : Quantity) → not (is_nesting q) ≡ true → q ≡ Nesting → ⊥
not_nesting q h e = true≢false (sym h ∙ ap (λ z. not (is_nesting z)) e)

-- where the nesting alone may be asked for
within_shallow : (asked : Asked) (ts : List Token) (cs : Counts) → no_nesting cs ≡ true →
    ((q : Quantity) (count : ℕ) → (q ≡ Nesting → ⊥) → asked ts q count) → AskedAll asked ts cs
within_shallow asked ts [] h k = tt
within_shallow asked ts (c ∷ cs) h k =
    let both = and_parts (not (is_nesting c.0)) (no_nesting cs) h in
    (k c.0 c.1 (not_nesting c.0 both.0), within_shallow asked ts cs both.1 k)

-- counts of which none is in excess are within the limits, and one in excess is past its limit
limits_by : (ts : List Token) (c : Quantity × ℕ) (cs : Counts) (b : Bool) → nat_le c.1 (limit c.0) ≡ b →
    (read.excess cs ≡ None → AskedAll limits ts cs) → (if b then read.excess cs else Some c.0) ≡ None →
    AskedAll limits ts (c ∷ cs)
limits_by ts c cs true e rest k = (leb-true _ _ e, rest k)
limits_by ts c cs false e rest k = absurd (cc)

within_limits : (ts : List Token) (cs : Counts) → read.excess cs ≡ None → AskedAll limits ts cs
within_limits ts [] h = tt
within_limits ts (c ∷ cs) h = limits_by ts c cs (nat_le c.1 (limit c.0)) refl (within_limits ts cs) h

abbrev Past : Asked → List Token → Quantity → Type 0
Past asked ts q = (count : ℕ) × asked ts q count × (limit q < count)

past_by : (asked : Asked) (ts : List Token) (c : Quantity × ℕ) (cs : Counts) (q : Quantity) (b : Bool) →
    nat_le c.1 (limit c.0) ≡ b → asked ts c.0 c.1 → (read.excess cs ≡ Some q → Past asked ts q) →
    (if b then read.excess cs else Some c.0) ≡ Some q → Past asked ts q
past_by asked ts c cs q true e here rest k = rest k
past_by asked ts c cs q false e here rest k = let same : c.0 ≡ q = cc in (c.1, subst (λ z. asked ts z c.1) same here, subst (λ z. limit z < c.1) same (leb-false _ _ e))

past_limit : (asked : Asked) (ts : List Token) (cs : Counts) (q : Quantity) → read.excess cs ≡ Some q →
    AskedAll asked ts cs → Past asked ts q
past_limit asked ts [] q h k = absurd (cc)
past_limit asked ts (c ∷ cs) q h k = past_by asked ts c cs q (nat_le c.1 (limit c.0)) refl k.0 (λ e. past_limit asked ts cs q e k.1) h

module _ {X A : Type 0} {pick : Token → Option A} {counts : X → State → A → Counts} {counted : State → State}
    {first : Token → Bool} (d : ℕ) (t : Takable pick counts counted first) where
  -- a token is taken, where it is asked for as this says
  takes : (x : X) (asked : Asked) (s : State) (y : Token) (a : A) (rest : List Token) → pick y ≡ Some a →
      s.left ≡ y ∷ rest → asked s.left Nesting d → AskedAll asked s.left (counts x s a) →
      language.one d pick (counts x) counted asked s a (read.behind (counted s) y rest)
  takes x asked s y a rest p e n w = record { token = y; rest = rest; stands = e; picked = p; nested = n; within = w; next = refl }

  first_of_token : (y : Token) (a : A) → pick y ≡ Some a → first y ≡ true
  first_of_token y a p = t.told y ∙ ap is_some p

  token_of_first : (y : Token) (o : Option A) → pick y ≡ o → is_some o ≡ true → (a : A) × (pick y ≡ Some a)
  token_of_first y (Some a) e h = (a, e)
  token_of_first y None e h = absurd (true≢false (sym h))

  carried_token : (x : X) (s : State) (a : A) (m : State) → language.one d pick (counts x) counted limits s a m →
      Carried (language.one d pick (counts x) counted) s a m
  carried_token x s a m h = record {
    word = h.token ∷ [];
    is = h.stands ∙ ap (λ z. h.token ∷ z.left) (sym h.next);
    still = λ asked rest mild q. record {
      token = h.token;
      rest = rest;
      stands = refl;
      picked = h.picked;
      nested = mild _ Nesting d h.nested;
      within = subst (AskedAll asked (h.token ∷ rest)) (sym (t.counts_still x s (h.token ∷ rest) a)) (within_mild asked s.left (h.token ∷ rest) (counts x s a) mild h.within);
      next = ap (λ z. z with rest) h.next ∙ ap (λ z. read.behind z h.token rest) (sym (t.counted_still s (h.token ∷ rest)));
    };
  }

  ended_token : (x : X) (s : State) (rest : List Token) → s.left ≡ t.token ∷ rest →
      Ended (language.one d pick (counts x) counted) s rest
  ended_token x s rest e = record {
    value = t.value;
    after = read.behind (counted s) t.token rest;
    behind = refl;
    read = λ asked q. takes x asked s t.token t.value rest t.picked e (q s.left Nesting d (omega arith)) (within_silent asked s.left (counts x s t.value) q);
  }

  opened_token : (x : X) (s : State) (y : Token) (a : A) (more : ℕ) (rest : List Token) → pick y ≡ Some a →
      s.left ≡ y ∷ rest → Opened d (language.one d pick (counts x) counted) s more rest
  opened_token x s y a more rest p e = record {
    value = a;
    after = read.behind (counted s) y rest;
    behind = refl;
    read = λ asked q k. takes x asked s y a rest p e (k Nesting d (λ _. refl)) (within_shallow asked s.left (counts x s a) (t.shallow x s a) (λ q count n. k q count (λ w. absurd (n w))));
  }

  opens_token : (y : Token) (rest : List Token) → Quiet is_else rest → (a : A) × (pick y ≡ Some a) →
      Opens d (λ x. language.one d pick (counts x) counted) y rest
  opens_token y rest c a = record { fill = []; lexical = refl; calm = c; opened = λ x s e. opened_token x s y a.0 (length rest) rest a.1 e }

  taken_shorter : (x : X) (asked : Asked) (s : State) (a : A) (m : State) →
      language.one d pick (counts x) counted asked s a m → length m.left < length s.left
  taken_shorter x asked s a m h = omega (arith, ap length h.stands, ap (λ z. length z.left) h.next)

  spoken_token : (able : Type 0) (goes : Token → Bool) →
      Spoken able d (λ x. language.one d pick (counts x) counted) ⊥ first goes
  spoken_token able goes = record {
    carried = carried_token;
    starts = λ x asked s a m h. inl (first_at first s.left (h.token ∷ h.rest) true h.stands (first_of_token h.token a h.picked), h.nested, taken_shorter x asked s a m h);
    ends = λ able rest q c. record { fill = t.token ∷ []; lexical = t.lexical; calm = t.no_else; ended = λ x s e. ended_token x s rest e };
    opens = λ able y h rest q c. opens_token y rest c (token_of_first y (pick y) refl (sym (t.told y) ∙ h));
    skips = λ able none. absurd none;
  }

  -- ---- the reader of a token

  -- where nothing is picked
  stopped_none : (x : X) (goes : Token → Bool) (s : State) →
      ((y : Token) (rest : List Token) → s.left ≡ y ∷ rest → pick y ≡ None) →
      Stops (read.one pick (counts x) counted) (language.one d pick (counts x) counted) goes s Expected s.left
  stopped_none x goes s none = record {
    word = [];
    is = refl;
    same = λ y rest others e. ap (λ o. read.picking (counts x) counted (s with (y ∷ others)) y others o) (none y rest e);
    there = λ q e. absurd (cc);
    completed = λ rest q c. record {
      fill = t.token ∷ [];
      lexical = t.lexical;
      calm = t.no_else;
      value = t.value;
      after = read.behind (counted (s with (t.token ∷ rest))) t.token rest;
      behind = refl;
      read = takes x (upto Expected (length (t.token ∷ rest))) (s with (t.token ∷ rest)) t.token t.value rest t.picked refl (silent rest (t.token ∷ rest) Nesting d (omega arith))
          (within_silent (upto Expected (length (t.token ∷ rest))) (t.token ∷ rest) (counts x (s with (t.token ∷ rest)) t.value) (silent rest));
    };
  }
    where
      silent : (rest : List Token) → Silent (upto Expected (length (t.token ∷ rest))) (length (t.token ∷ rest))
      silent rest = upto_silent_at Expected (length (t.token ∷ rest)) refl

  -- where a limit is passed
  stopped_past : (fits : d ≤ MAX_NESTING) (x : X) (goes : Token → Bool) (s : State) (y : Token) (ts : List Token)
      (a : A) (q : Quantity) → s.left ≡ y ∷ ts → pick y ≡ Some a → read.excess (counts x s a) ≡ Some q →
      Stops (read.one pick (counts x) counted) (language.one d pick (counts x) counted) goes s (Passes q) s.left
  stopped_past fits x goes s y ts a q e p k = record {
    word = [];
    is = refl;
    same = λ z rest others h. again z others (sym p ∙ ap pick (heads y z ts rest (sym e ∙ h)));
    there = λ r h j. absurd (no_tokens y ts (sym e ∙ j));
    completed = λ rest r c. subst (λ l. Completed (language.one d pick (counts x) counted) s [] (Passes q) l rest) (sym e) (goes_on rest c);
  }
    where
      heads : (y z : Token) (ts us : List Token) → y ∷ ts ≡ z ∷ us → y ≡ z
      heads y z ts us h = cc

      no_tokens : (y : Token) (ts : List Token) → y ∷ ts ≡ [] → ⊥
      no_tokens y ts h = cc

      again : (z : Token) (others : List Token) → Some a ≡ pick z →
          read.one pick (counts x) counted (s with (z ∷ others)) ≡ Stopped (Passes q) (z ∷ others)
      again z others h =
          ap (λ o. read.picking (counts x) counted (s with (z ∷ others)) z others o) (sym h)
          ∙ ap (λ cs. read.counting counted (s with (z ∷ others)) z others a (read.excess cs)) (t.counts_still x s (z ∷ others) a)
          ∙ ap (λ o. read.counting counted (s with (z ∷ others)) z others a o) k

      goes_on : (rest : List Token) → Quiet is_else rest →
          Completed (language.one d pick (counts x) counted) s [] (Passes q) (y ∷ ts) rest
      goes_on rest c = record {
        fill = [];
        lexical = refl;
        calm = c;
        value = a;
        after = read.behind (counted (s with (y ∷ rest))) y rest;
        behind = refl;
        read = takes x (upto (Passes q) (length (y ∷ rest))) (s with (y ∷ rest)) y a rest p refl
            ((λ l. absurd (omega arith)), λ _ _ _. fits)
            (within_shallow (upto (Passes q) (length (y ∷ rest))) (y ∷ rest) (counts x (s with (y ∷ rest)) a) (t.shallow x (s with (y ∷ rest)) a)
            (λ r count n. ((λ l. absurd (omega arith)), λ _ _ w. absurd (n w))));
      }

  -- where the token is read
  done_token : (fits : d ≤ MAX_NESTING) (x : X) (s : State) (y : Token) (ts : List Token) (a : A) → s.left ≡ y ∷ ts →
      pick y ≡ Some a → read.excess (counts x s a) ≡ None →
      Reads (read.one pick (counts x) counted)
      (language.one d pick (counts x) counted) s a (read.behind (counted s) y ts)
  done_token fits x s y ts a e p k = record {
    read = takes x limits s y a ts p e fits (within_limits s.left (counts x s a) k);
    word = y ∷ [];
    is = e;
    same = λ z rest others h.
        ap (λ o. read.picking (counts x) counted (s with (y ∷ (z ∷ others))) y (z ∷ others) o) p
        ∙ ap (λ cs. read.counting counted (s with (y ∷ (z ∷ others))) y (z ∷ others) a (read.excess cs)) (t.counts_still x s (y ∷ (z ∷ others)) a)
        ∙ ap (λ o. read.counting counted (s with (y ∷ (z ∷ others))) y (z ∷ others) a o) k
        ∙ ap (λ v. Done a (read.behind v y (z ∷ others))) (t.counted_still s (y ∷ (z ∷ others)));
  }

  -- what the reader answers, by what is picked and what is in excess
  answers_done : (fits : d ≤ MAX_NESTING) (x : X) (s : State) (ts : List Token) → s.left ≡ ts → (a : A) (m : State) →
      read.at_front pick (counts x) counted s ts ≡ Done a m →
      Reads (read.one pick (counts x) counted) (language.one d pick (counts x) counted) s a m
  answers_done fits x s [] e a m h = absurd (cc)
  answers_done fits x s (y ∷ ts) e a m h = picked (pick y) refl h
    where
      counted_as : (b : A) → pick y ≡ Some b → (o : Option Quantity) → read.excess (counts x s b) ≡ o →
          read.counting counted s y ts b o ≡ Done a m →
          Reads (read.one pick (counts x) counted) (language.one d pick (counts x) counted) s a m
      counted_as b p None k h =
          let same_value : b ≡ a = cc in
          let same_state : read.behind (counted s) y ts ≡ m = cc in
          subst (λ n. Reads (read.one pick (counts x) counted) (language.one d pick (counts x) counted) s a n) same_state
          (subst (λ c. Reads (read.one pick (counts x) counted) (language.one d pick (counts x) counted) s c (read.behind (counted s) y ts)) same_value (done_token fits x s y ts b e p k))
      counted_as b p (Some q) k h = absurd (cc)

      picked : (o : Option A) → pick y ≡ o → read.picking (counts x) counted s y ts o ≡ Done a m →
          Reads (read.one pick (counts x) counted) (language.one d pick (counts x) counted) s a m
      picked None p h = absurd (cc)
      picked (Some b) p h = counted_as b p (read.excess (counts x s b)) refl h

  abbrev Halts : X → (Token → Bool) → State → Fault → List Token → Type 0
  Halts x goes s fault left = Stops (read.one pick (counts x) counted) (language.one d pick (counts x) counted) goes s fault left

  stops_as : (x : X) (goes : Token → Bool) (s : State) (f fault : Fault) (us left : List Token) →
      (λ (o : Outcome A). o ≡ Stopped fault left) (Stopped f us) → Halts x goes s f us → Halts x goes s fault left
  stops_as x goes s f fault us left h k =
      let same_fault : f ≡ fault = cc in
      let same_left : us ≡ left = cc in
      subst (λ l. Halts x goes s fault l) same_left (subst (λ g. Halts x goes s g us) same_fault k)

  answers_stopped : (fits : d ≤ MAX_NESTING) (x : X) (goes : Token → Bool) (s : State) (ts : List Token) → s.left ≡ ts →
      (fault : Fault) (left : List Token) →
      read.at_front pick (counts x) counted s ts ≡ Stopped fault left → Halts x goes s fault left
  answers_stopped fits x goes s [] e fault left h =
      stops_as x goes s Expected fault [] left h (subst (λ l. Halts x goes s Expected l) e (stopped_none x goes s (λ y rest k. absurd (no_tokens y rest (sym e ∙ k)))))
    where
      no_tokens : (y : Token) (ts : List Token) → [] ≡ y ∷ ts → ⊥
      no_tokens y ts h = cc
  answers_stopped fits x goes s (y ∷ ts) e fault left h = picked (pick y) refl h
    where
      heads : (y z : Token) (ts us : List Token) → y ∷ ts ≡ z ∷ us → y ≡ z
      heads y z ts us h = cc

      counted_as : (b : A) → pick y ≡ Some b → (o : Option Quantity) → read.excess (counts x s b) ≡ o →
          read.counting counted s y ts b o ≡ Stopped fault left → Halts x goes s fault left
      counted_as b p None k h = absurd (cc)
      counted_as b p (Some q) k h = stops_as x goes s (Passes q) fault s.left left h (stopped_past fits x goes s y ts b q e p k)

      picked : (o : Option A) → pick y ≡ o → read.picking (counts x) counted s y ts o ≡ Stopped fault left →
          Halts x goes s fault left
      picked None p h = stops_as x goes s Expected fault s.left left h (stopped_none x goes s (λ z rest k. sym (ap pick (heads y z ts rest (sym e ∙ k))) ∙ p))
      picked (Some b) p h = counted_as b p (read.excess (counts x s b)) refl h

  -- a token of the language is read, or a limit is passed
  complete_token : (x : X) (asked : Asked) (s : State) (a : A) (m : State) →
      language.one d pick (counts x) counted asked s a m → Faces asked (read.one pick (counts x) counted s) a m
  complete_token x asked s a m h = tested (read.excess (counts x s a)) refl
    where
      comes : (o : Option Quantity) → read.excess (counts x s a) ≡ o →
          read.one pick (counts x) counted s ≡ read.counting counted s h.token h.rest a o
      comes o k =
          ap (read.at_front pick (counts x) counted s) h.stands
          ∙ ap (read.picking (counts x) counted s h.token h.rest) h.picked
          ∙ ap (read.counting counted s h.token h.rest a) k

      tested : (o : Option Quantity) → read.excess (counts x s a) ≡ o →
          Faces asked (read.one pick (counts x) counted s) a m
      tested None k = inl (comes None k ∙ ap (λ z. Done a z) (sym h.next))
      tested (Some q) k =
          let past = past_limit asked s.left (counts x s a) q k h.within in
          inr (record { quantity = q; left = s.left; count = past.0; is = comes (Some q) k; wanted = past.1; passes = past.2 })

module _ {X A : Type 0} {pick : Token → Option A} {counts : X → State → A → Counts} {counted : State → State}
    {first : Token → Bool} (able : Type 0) (d : ℕ) (goes : Token → Bool) where
  pub taken_spoken : Takable pick counts counted first →
      Spoken able d (λ x. language.one d pick (counts x) counted) ⊥ first goes
  taken_spoken t = spoken_token d t able goes

  pub taken : d ≤ MAX_NESTING → Takable pick counts counted first →
      Decides able d (λ x. read.one pick (counts x) counted) (λ x. language.one d pick (counts x) counted) ⊥ first goes
  taken fits t = record {
    spoken = spoken_token d t able goes;
    done = λ able x s a m h. answers_done d t fits x s s.left refl a m h;
    stopped = λ able x s fault left h. answers_stopped d t fits x goes s s.left refl fault left h;
    complete = λ x asked s a m h q. complete_token d t x asked s a m h;
  }
