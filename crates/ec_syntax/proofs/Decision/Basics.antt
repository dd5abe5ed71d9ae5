-- Languages and readers that are decided by others, and those of no tokens and of one.
use Rattle.std.proofs.Common.{◌≡◌, refl, sym, ◌∙◌, ap, ap₂, subst, ⊎_elim, inl, inr, true≢false, ℕ, Bool, List, [], ◌∷◌}
use Rattle.ec_base.specs.declared.token.Token.{Token}
use Rattle.ec_syntax.specs.Grammar.State.{State, limits}
use Rattle.ec_syntax.specs.Grammar.Language as language
use Rattle.ec_syntax.specs.Grammar.Language.{Language}
use Rattle.ec_syntax.specs.Descent.Reader as read
use Rattle.ec_syntax.specs.Descent.Reader.{Reader, Outcome}
use Rattle.ec_syntax.specs.Descent.Reader.Outcome.{Done, Stopped}
use Rattle.ec_syntax.proofs.Decision.Procedures.{◌with◌, Faces, Reads, Within, Spoken, Decides}
use Rattle.ec_syntax.proofs.Lookahead.FirstTokens.{ends_as, opens_as, Into, carried_into, ends_into, opens_into, skipped_into, completed_into}
use Rattle.ec_syntax.proofs.Tokens.Sequences.{first_within, Quiet-within}
use Rattle.ec_syntax.proofs.Lookahead.FirstSets.{none}

-- ---- the same language or reader, told otherwise

module _ {X A : Type 0} {able able' : Type 0} {d : ℕ} {l : X → Language A} {empty empty' : Type 0}
    {first goes goes' : Token → Bool} where
  pub weaker_spoken : (able' → able) → (empty → empty') → (empty' → empty) → Within goes goes' →
      Spoken able d l empty first goes → Spoken able' d l empty' first goes'
  weaker_spoken i e f w h = record {
    carried = h.carried;
    starts = λ x asked s a m k. ⊎_elim (λ y. inl y) (λ y. inr (e y.0, y.1)) (h.starts x asked s a m k);
    ends = λ able rest q c. h.ends (i able) rest (Quiet-within goes goes' w rest q) c;
    opens = λ able here y rest q c. h.opens (i able) here y rest (Quiet-within goes goes' w rest q) c;
    skips = λ able none x s q c. h.skips (i able) (f none) x s (Quiet-within goes goes' w s.left q) c;
  }

  pub weaker : {p : X → Reader A} → (able' → able) → (empty → empty') → (empty' → empty) → Within goes goes' →
      Decides able d p l empty first goes → Decides able' d p l empty' first goes'
  weaker i e f w h = record {
    spoken = weaker_spoken i e f w h.spoken;
    done = λ able. h.done (i able);
    stopped = λ able x s fault left k.
        let o = h.stopped (i able) x s fault left k in record {
          word = o.word;
          is = o.is;
          same = o.same;
          there = o.there;
          completed = λ rest q c. o.completed rest (Quiet-within goes goes' w rest q) c;
        };
    complete = λ x asked s a m k q. h.complete x asked s a m k (Quiet-within goes goes' w m.left q);
  }

module _ {X A : Type 0} {able : Type 0} {d : ℕ} {l : X → Language A} {empty : Type 0}
    {first first' goes : Token → Bool} where
  pub renamed_spoken : Within first first' → Within first' first → Spoken able d l empty first goes →
      Spoken able d l empty first' goes
  renamed_spoken w v h = record {
    carried = h.carried;
    starts = λ x asked s a m k. ⊎_elim (λ y. inl (first_within first first' w s.left y.0, y.1, y.2)) (λ y. inr y) (h.starts x asked s a m k);
    ends = h.ends;
    opens = λ able here y. h.opens able here (v here y);
    skips = h.skips;
  }

  pub renamed : {p : X → Reader A} → Within first first' → Within first' first → Decides able d p l empty first goes →
      Decides able d p l empty first' goes
  renamed w v h = record {
    spoken = renamed_spoken w v h.spoken;
    done = h.done;
    stopped = h.stopped;
    complete = h.complete;
  }

module _ {X A : Type 0} {able : Type 0} {d : ℕ} {l : X → Language A} {empty : Type 0} {first goes : Token → Bool} where
  pub same_reader : {p p' : X → Reader A} → ((x : X) (s : State) → p x s ≡ p' x s) →
      Decides able d p l empty first goes → Decides able d p' l empty first goes
  same_reader {p} {p'} e h = record {
    spoken = h.spoken;
    done = λ able x s a m k.
        let o = h.done able x s a m (e x s ∙ k) in record {
          read = o.read;
          word = o.word;
          is = o.is;
          same = λ y rest others q. sym (e x _) ∙ o.same y rest others q;
        };
    stopped = λ able x s fault left k.
        let o = h.stopped able x s fault left (e x s ∙ k) in record {
          word = o.word;
          is = o.is;
          same = λ y rest others q. sym (e x _) ∙ o.same y rest others q;
          there = o.there;
          completed = o.completed;
        };
    complete = λ x asked s a m k q. subst (λ o. Faces asked o a m) (e x s) (h.complete x asked s a m k q);
  }

  pub same_language_spoken : {l' : X → Language A} → ((x : X) → Into (l x) (l' x)) → ((x : X) → Into (l' x) (l x)) →
      Spoken able d l empty first goes → Spoken able d l' empty first goes
  same_language_spoken to from h = record {
    carried = λ x s a m k. carried_into (to x) (h.carried x s a m (from x limits s a m k));
    starts = λ x asked s a m k. h.starts x asked s a m (from x asked s a m k);
    ends = λ able rest q c. ends_into to (h.ends able rest q c);
    opens = λ able here y rest q c. opens_into to (h.opens able here y rest q c);
    skips = λ able none x s q c. skipped_into (to x) (h.skips able none x s q c);
  }

  pub same_language : {l' : X → Language A} {p : X → Reader A} → ((x : X) → Into (l x) (l' x)) →
      ((x : X) → Into (l' x) (l x)) → Decides able d p l empty first goes → Decides able d p l' empty first goes
  same_language to from h = record {
    spoken = same_language_spoken to from h.spoken;
    done = λ able x s a m k.
        let o = h.done able x s a m k in record {
          read = to x limits s a m o.read;
          word = o.word;
          is = o.is;
          same = o.same;
        };
    stopped = λ able x s fault left k.
        let o = h.stopped able x s fault left k in record {
          word = o.word;
          is = o.is;
          same = o.same;
          there = o.there;
          completed = λ rest q c. completed_into (to x) (o.completed rest q c);
        };
    complete = λ x asked s a m k. h.complete x asked s a m (from x asked s a m k);
  }

module _ {X Y A : Type 0} (k : Y → X) {able : Type 0} {d : ℕ} {l : X → Language A} {empty : Type 0}
    {first goes : Token → Bool} where
  pub reindexed_spoken : Spoken able d l empty first goes → Spoken able d (λ y. l (k y)) empty first goes
  reindexed_spoken h = record {
    carried = λ y. h.carried (k y);
    starts = λ y. h.starts (k y);
    ends = λ able rest q c. let o = h.ends able rest q c in ends_as o (λ y. o.ended (k y));
    opens = λ able here e rest q c. let o = h.opens able here e rest q c in opens_as o (λ y. o.opened (k y));
    skips = λ able none y. h.skips able none (k y);
  }

  pub reindexed : {p : X → Reader A} → Decides able d p l empty first goes →
      Decides able d (λ y. p (k y)) (λ y. l (k y)) empty first goes
  reindexed h = record {
    spoken = reindexed_spoken h.spoken;
    done = λ able y. h.done able (k y);
    stopped = λ able y. h.stopped able (k y);
    complete = λ y. h.complete (k y);
  }

-- ---- no tokens

module _ {X A : Type 0} (f : X → State → A) (able : Type 0) (d : ℕ) (goes : Token → Bool) where
  pub looked_spoken : ((x : X) (s : State) (ts : List Token) → f x (s with ts) ≡ f x s) →
      Spoken able d (λ x. language.look (f x)) (Unit {0}) none goes
  looked_spoken e = record {
    carried = λ x s a m h. record {
      word = [];
      is = ap (λ z. z.left) (sym h.1);
      still = λ asked rest mild q. (h.0 ∙ sym (e x s rest), ap (λ z. z with rest) h.1);
    };
    starts = λ x asked s a m h. inr (tt, ap (λ z. z.left) h.1);
    ends = λ able rest q c. record {
      fill = [];
      lexical = refl;
      calm = c;
      ended = λ x s h. record { value = f x s; after = s; behind = h; read = λ asked k. (refl, refl) };
    };
    opens = λ able here h. absurd (true≢false (sym h));
    skips = λ able none x s q c. record { value = f x s; after = s; behind = refl; read = λ asked. (refl, refl) };
  }

  pub looked : ((x : X) (s : State) (ts : List Token) → f x (s with ts) ≡ f x s) →
      Decides able d (λ x. read.look (f x)) (λ x. language.look (f x)) (Unit {0}) none goes
  looked e = record {
    spoken = looked_spoken e;
    done = λ able x s a m h. looks x s a m h;
    stopped = λ able x s fault left h. absurd (cc);
    complete = λ x asked s a m h q. inl (ap₂ (λ b z. Done b z) (sym h.0) (sym h.1));
  }
    where
      looks : (x : X) (s : State) (a : A) (m : State) → Done (f x s) s ≡ Done a m →
          Reads (read.look (f x)) (language.look (f x)) s a m
      looks x s a m h =
          let same_value : f x s ≡ a = cc in
          let same_state : s ≡ m = cc in record {
            read = (sym same_value, sym same_state);
            word = [];
            is = ap (λ z. z.left) same_state;
            same = λ y rest others q. ap₂ (λ b z. Done b (z with (y ∷ others))) (e x s (y ∷ others) ∙ same_value) same_state;
          }

module _ {X A : Type 0} (f : X → A) (able : Type 0) (d : ℕ) (goes : Token → Bool) where
  pub given_spoken : Spoken able d (λ x. language.give (f x)) (Unit {0}) none goes
  given_spoken = looked_spoken (λ x s. f x) able d goes (λ x s ts. refl)

  pub given : Decides able d (λ x. read.give (f x)) (λ x. language.give (f x)) (Unit {0}) none goes
  given = looked (λ x s. f x) able d goes (λ x s ts. refl)
