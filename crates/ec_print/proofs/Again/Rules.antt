-- The rules of the grammar's combinators: what is put together of languages that are read again is read again.
use Rattle.std.proofs.Common.{◌≡◌, refl, sym, ◌∙◌, ap, subst, inl, inr, ◌≤◌, ℕ, Bool, true, false, [], ◌++◌, append_assoc, append-nil, Option, Some, None}
use Rattle.ec_base.specs.declared.token.Span.{Span}
use Rattle.ec_syntax.specs.Grammar.State.{State, limit, limits}
use Rattle.ec_syntax.specs.Grammar.Language as L
use Rattle.ec_syntax.specs.Grammar.Language.{Language, Turns}
use Rattle.ec_syntax.specs.Grammar.Language.Turns.{over, more}
use Rattle.ec_syntax.specs.declared.quantity.Quantity.{Quantity}
use Rattle.ec_print.specs.Phrase.{Phrase, tokens}
use Rattle.ec_print.specs.Sentence as S
use Rattle.ec_print.specs.Unplaced as U
use Rattle.ec_print.proofs.Again.Readings.{Again, Agree, Kinds, Quiet, no_word, mapped, as_language, given, behind, is_else}

-- Where the value a was read from s to m, the tokens of its phrase are read as a value with the same image.
abbrev pub Repeats : {A C : Type 0} → Bool → (A → Phrase) → (A → C) → Language A → State → A → State → Type 0
Repeats tight phrase image l s a m = Again tight s m l (tokens (phrase a)) (λ b. image b ≡ image a)

-- what holds of a value holds of an equal one
pub settled : {A C : Type 0} {tight : Bool} (phrase : A → Phrase) (image : A → C) {l : Language A} {s : State} {a b : A} {m n : State} → b ≡ a → n ≡ m → Repeats tight phrase image l s a m → Repeats tight phrase image l s b n
settled {tight = tight} phrase image {l} {s} {a} {b} {m} {n} e f h = subst (λ z. Repeats tight phrase image l s b z) (sym f) (subst (λ z. Repeats tight phrase image l s z m) (sym e) h)

module _ {tight : Bool} where
  -- ---- values made of others

  pub made : {A B : Type 0} {s m : State} {l : Language A} {ks : Kinds} {like : A → Type 0} {like' : B → Type 0} (g : A → B) → ((a : A) → like a → like' (g a)) → Again tight s m l ks like → Again tight s m (L.◌>>=◌ l (λ a. L.give (g a))) ks like'
  made g f h = mapped (λ t b n r k. (g b, (b, n, r, (refl, refl)), f b k)) h

  pub placed_again : {A B : Type 0} {s m : State} {l : Language A} {ks : Kinds} {like : A → Type 0} {like' : B → Type 0} (make : A → Span → B) → ((a : A) (at : Span) → like a → like' (make a at)) →
      Again tight s m l ks like → Again tight s m (L.placed make l) ks like'
  placed_again make f h = mapped (λ t b n r k. (make b (L.span (L.begin t) n.end), (L.begin t, t, (refl, refl), (b, n, r, (n.end, n, (refl, refl), (refl, refl)))), f b (L.span (L.begin t) n.end) k)) h

  pub kth_again : {A : Type 0} {s m : State} {l : Language A} {ks : Kinds} {like : A → Type 0} (q : Quantity) (k : ℕ) → k ≤ limit q → Again tight s m l ks like → Again tight s m (L.kth q k l) ks like
  kth_again q k within h = as_language (λ t b n r. (within, r)) h

  -- ---- options

  pub some_again : {A : Type 0} {s m : State} {l : Language A} {ks : Kinds} {like : A → Type 0} {like' : Option A → Type 0} → ((a : A) → like a → like' (Some a)) → Again tight s m l ks like → Again tight s m (L.maybe l) ks like'
  some_again f h = mapped (λ t b n r k. (Some b, inl (b, n, r, (refl, refl)), f b k)) h

  pub none_again : {A : Type 0} {s : State} {l : Language A} {like' : Option A → Type 0} → like' None → Again tight s s (L.maybe l) [] like'
  none_again {l = l} {like' = like'} k = as_language {l = L.give None} (λ t b n r. inr r) (given {like = like'} k)

  pub maybe_again : {A : Type 0} (phrase : A → Phrase) (image : A → A) (l : Language A) {l' : Language A} → ((s : State) (a : A) (m : State) → l limits s a m → Repeats tight phrase image l' s a m) →
      (s : State) (o : Option A) (m : State) → L.maybe l limits s o m → Repeats tight (S.optional phrase) (U.optional image) (L.maybe l') s o m
  maybe_again phrase image l h s o m (inl (a, n, r, (e, f))) = settled (S.optional phrase) (U.optional image) e f (some_again (λ b k. ap Some k) (h s a n r))
  maybe_again phrase image l h s o m (inr (e, f)) = settled (S.optional phrase) (U.optional image) e f (none_again refl)

  -- ---- turns

  pub over_again : {A : Type 0} {s : State} {turn : A → Language A} {like : A → Type 0} (a : A) → like a → Again tight s s (L.turns turn a) [] like
  over_again {turn = turn} {like = like} a k = mapped {l = L.give a} {like = like} (λ t b n r g. (a, subst (λ z. Turns turn limits t a a z) (sym r.1) over, k)) (given k)

-- What each turn of one language adds, the other reads again by turns of its own.
abbrev pub Grows : {A C : Type 0} → Bool → (A → Kinds) → (A → C) → (A → Language A) → State → A → A → State → Type 0
Grows tight says image l s a b m = (ks : Kinds) × (says b ≡ says a ++ ks) × ((a' : _) → image a' ≡ image a → Again tight s m (l a') ks (λ b'. image b' ≡ image b))

module _ {tight : Bool} {A C : Type 0} (says : A → Kinds) (image : A → C) {turn turn' : A → Language A} {l : A → Language A}
    (glue : (t : State) (a b c : A) (m n : State) → l a limits t b m → Turns turn' limits m b c n → Turns turn' limits t a c n)
    (step : (s : State) (a b : A) (m : State) → turn a limits s b m → Grows tight says image l s a b m) where
  pub turns_grow : (s : State) (a c : A) (m : State) → Turns turn limits s a c m → Grows tight says image (L.turns turn') s a c m
  turns_grow s a c m over = ([], sym (append-nil (says a)), λ a' k. over_again a' k)
  turns_grow s a c n (more {m = m} {b = b} r rs) =
      let one = step s a b m r in
      let all = turns_grow m b c n rs in (
        one.0 ++ all.0,
        all.1 ∙ ap (λ z. z ++ all.0) one.1 ∙ append_assoc (says a) one.0 all.0,
        λ a' k. mapped (λ t d o r g. (d, glue t a' r.0 d r.1 o r.2 r.3, g)) (behind b refl (one.2 a' k) all.2),
      )

-- turns of one language by turns of another, one for one
pub turns_again : {tight : Bool} {A C : Type 0} (says : A → Kinds) (image : A → C) {turn turn' : A → Language A} → ((s : State) (a b : A) (m : State) → turn a limits s b m → Grows tight says image turn' s a b m) →
    (s : State) (a c : A) (m : State) → Turns turn limits s a c m → Grows tight says image (L.turns turn') s a c m
turns_again says image step = turns_grow says image (λ t a b c m n r rs. more r rs) step

-- ---- parts and items

pub loose : {tight : Bool} {s t : State} → Agree true s t → Agree tight s t
loose a = record { marks = λ _. a.marks refl; variables = a.variables; functions = a.functions; structs = a.structs }

pub part_again : {A : Type 0} {s m : State} {l : Language A} {ks : Kinds} {like : A → Type 0} → Again true (record s { marks = 0 }) m l ks like → Again false s m (L.part l) ks like
part_again {s = s} h = record {
  starts = h.starts;
  reads = λ t word rest e is agrees quiet.
      let r = h.reads (record t { marks = 0 }) word rest e is (record { marks = λ _. refl; variables = agrees.variables; functions = agrees.functions; structs = agrees.structs }) quiet in
      record { value = r.value; after = r.after; read = r.read; liked = r.liked; left = r.left; agrees = loose r.agrees };
}

pub item_again : {A : Type 0} {s m : State} {l : Language A} {ks : Kinds} {like : A → Type 0} → Again false (record s { variables = 0 }) m l ks like → Again false s m (L.function l) ks like
item_again {s = s} h = record {
  starts = h.starts;
  reads = λ t word rest e is agrees quiet.
      let r = h.reads (record t { variables = 0 }) word rest e is (record { marks = agrees.marks; variables = refl; functions = agrees.functions; structs = agrees.structs }) quiet in
      record { value = r.value; after = r.after; read = r.read; liked = r.liked; left = r.left; agrees = r.agrees };
}

-- where no `else` comes, none comes again
pub lacks_again : {tight : Bool} {s : State} {u : Unit {0}} → Quiet s.left → Again tight s s (L.lacks is_else) [] (λ b. Unit {0})
lacks_again calm = record {
  starts = λ word rest e quiet first. subst (λ w. Quiet (w ++ rest)) (sym (no_word word e)) (quiet first);
  reads = λ t word rest e is agrees quiet.
      let left : t.left ≡ rest = is ∙ ap (λ w. w ++ rest) (no_word word e) in
      record { value = tt; after = t; read = (subst (λ z. Quiet z) (sym left) (quiet calm), refl); liked = tt; left = left; agrees = agrees };
}

-- Other states before and behind, of which no less is known.
pub ends_at : {tight : Bool} {A : Type 0} {s m : State} {l : Language A} {ks : Kinds} {like : A → Type 0} (n : State) → (Quiet m.left → Quiet n.left) → ((t : State) → Agree tight m t → Agree tight n t) → Again tight s m l ks like →
    Again tight s n l ks like
ends_at n q f h = record {
  starts = λ word rest e quiet first. h.starts word rest e (λ z. quiet (q z)) first;
  reads = λ t word rest e is agrees quiet.
      let r = h.reads t word rest e is agrees (λ z. quiet (q z)) in
      record { value = r.value; after = r.after; read = r.read; liked = r.liked; left = r.left; agrees = f r.after r.agrees };
}

pub begins_at : {tight : Bool} {A : Type 0} {s m : State} {l : Language A} {ks : Kinds} {like : A → Type 0} (n : State) → (Quiet n.left → Quiet s.left) → ((t : State) → Agree tight n t → Agree tight s t) → Again tight s m l ks like →
    Again tight n m l ks like
begins_at n q f h = record {
  starts = λ word rest e quiet first. h.starts word rest e quiet (q first);
  reads = λ t word rest e is agrees quiet. h.reads t word rest e is (f t agrees) quiet;
}

-- what was read at a place
pub without_place : {A B : Type 0} (make : A → Span → B) (l : Language A) (s : State) (b : B) (m : State) → L.placed make l limits s b m → (a : A) × (at : Span) × l limits s a m × (b ≡ make a at)
without_place make l s b m (from, s', (e, f), (a, n, r, (to, n', (g, h), (i, j)))) =
    (a, L.span from to, subst (λ z. l limits z a m) f (subst (λ z. l limits s' a z) (sym (j ∙ h)) r), i)
