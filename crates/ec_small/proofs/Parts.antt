-- Reading functions that are put together: what is told of the parts is told of the whole.
use Rattle.std.proofs.Common.{◌≡◌, refl, sym, ◌∙◌, ap, subst, Bool, true, false, [], ◌∷◌, ◌++◌, append_assoc}
use Rattle.std.specs.Prelude.{Option, Some, None, Ok, Err, if◌then◌else◌}
use Rattle.ec_base.specs.declared.token.TokenKind.{TokenKind}
use Rattle.ec_small.specs.Grammar.{Kinds}
use Rattle.ec_small.specs.Descent.{Read, and_then, only, past, past_or, only_some, past_some}
use Rattle.std.specs.List.{list_all}
use Rattle.std.proofs.lemmas.Bool.{and_from}
use Rattle.ec_base.specs.Lexical.{is_lexical, AllLexical}
use Rattle.ec_small.proofs.Rules.{Rule, AllLexical-append}

-- ---- what is told

-- after these tokens the function answers as told, whatever comes behind the token at the front of r
abbrev pub Same : {A : Type 0} → (Kinds → Read A) → Kinds → Kinds → (Kinds → Read A) → Type 0
Same f done [] told = Unit {0}
Same f done (x ∷ r) told = (behind : Kinds) → f (done ++ (x ∷ behind)) ≡ told (x ∷ behind)

-- these tokens can be ended by tokens that a source text can give, whatever follows
abbrev pub Ended : {A : Type 0} → Rule A → Kinds → Type 0
Ended {A} P done = (ys : Kinds) × (a : A) × ((after : Kinds) → P (done ++ (ys ++ after)) a after) × AllLexical ys

-- what is read is right, before anything else too
abbrev pub Passes : {A : Type 0} → Rule A → (Kinds → Read A) → Kinds → A → Kinds → Type 0
Passes P f ts a r = (done : Kinds) × (ts ≡ done ++ r) × ((after : Kinds) → P (done ++ after) a after) × Same f done r (λ us. Ok (a, us))

-- what stands before r can be ended, and the token at the front of r is refused
abbrev pub Halts : {A : Type 0} → Rule A → (Kinds → Read A) → Kinds → Kinds → Type 0
Halts P f ts r = (done : Kinds) × (ts ≡ done ++ r) × Ended P done × Same f done r Err

abbrev pub Told : {A : Type 0} → Rule A → (Kinds → Read A) → Kinds → Read A → Type 0
Told P f ts (Ok p) = Passes P f ts p.0 p.1
Told P f ts (Err r) = Halts P f ts r

-- what a function answers of each list of tokens is right
abbrev pub Right : {A : Type 0} → Rule A → (Kinds → Read A) → Type 0
Right P f = (ts : Kinds) → Told P f ts (f ts)

pub sound : {A : Type 0} (P : Rule A) (f : Kinds → Read A) (ts : Kinds) (a : A) (r : Kinds) → Passes P f ts a r → P ts a r
sound P f ts a r h = subst (λ l. P l a r) (sym h.1) (h.2 r)

-- ---- nothing is read

abbrev pub Here : {A : Type 0} → A → Rule A
Here a ts b rest = (a ≡ b) × (ts ≡ rest)

pub at_once : {A : Type 0} (P : Rule A) (f : Kinds → Read A) (a : A) (ts : Kinds) → ((after : Kinds) → P after a after) → Same f [] ts (λ us. Ok (a, us)) → Passes P f ts a ts
at_once P f a ts h s = ([], refl, h, s)

pub stops_here : {A : Type 0} (P : Rule A) (f : Kinds → Read A) (ts : Kinds) → Ended P [] → Same f [] ts Err → Halts P f ts ts
stops_here P f ts e s = ([], refl, e, s)

-- ---- another rule, and a token before

pub same_by : {A B : Type 0} (f : Kinds → Read A) (g : Kinds → Read B) (done more r : Kinds) (told : Kinds → Read A) (tell : Kinds → Read B) →
    ((x : TokenKind) (behind : Kinds) → f (done ++ (x ∷ behind)) ≡ told (x ∷ behind) → g (more ++ (x ∷ behind)) ≡ tell (x ∷ behind)) → Same f done r told → Same g more r tell
same_by f g done more [] told tell h s = tt
same_by f g done more (x ∷ r) told tell h s = λ behind. h x behind (s behind)

pub told_by : {A : Type 0} (P Q : Rule A) (f : Kinds → Read A) (ts : Kinds) (p : Read A) → ((us : Kinds) (a : A) (rest : Kinds) → P us a rest → Q us a rest) → Told P f ts p → Told Q f ts p
told_by P Q f ts (Ok p) h s = (s.0, s.1, (λ after. h (s.0 ++ after) p.0 after (s.2 after)), s.3)
told_by P Q f ts (Err r) h s = (s.0, s.1, (s.2.0, s.2.1, (λ after. h (s.0 ++ (s.2.0 ++ after)) s.2.1 after (s.2.2 after)), s.2.3), s.3)

-- the function goes on as another behind a token
pub told_behind : {A : Type 0} (P Q : Rule A) (f g : Kinds → Read A) (x : TokenKind) (us : Kinds) (p : Read A) → ((vs : Kinds) → g (x ∷ vs) ≡ f vs) →
    ((vs : Kinds) (a : A) (rest : Kinds) → P vs a rest → Q (x ∷ vs) a rest) → Told P f us p → Told Q g (x ∷ us) p
told_behind P Q f g x us (Ok p) is h s = (
  x ∷ s.0,
  ap (λ l. x ∷ l) s.1,
  (λ after. h (s.0 ++ after) p.0 after (s.2 after)),
  same_by f g s.0 (x ∷ s.0) p.1 (λ us. Ok (p.0, us)) (λ us. Ok (p.0, us)) (λ y behind e. is (s.0 ++ (y ∷ behind)) ∙ e) s.3,
)
told_behind P Q f g x us (Err r) is h s = (
  x ∷ s.0,
  ap (λ l. x ∷ l) s.1,
  (s.2.0, s.2.1, (λ after. h (s.0 ++ (s.2.0 ++ after)) s.2.1 after (s.2.2 after)), s.2.3),
  same_by f g s.0 (x ∷ s.0) r Err Err (λ y behind e. is (s.0 ++ (y ∷ behind)) ∙ e) s.3,
)

-- two functions that agree on what begins with x
same_front : {A : Type 0} (f g : Kinds → Read A) (x : TokenKind) (us done r : Kinds) (told : Kinds → Read A) → ((vs : Kinds) → g (x ∷ vs) ≡ f (x ∷ vs)) → x ∷ us ≡ done ++ r →
    Same f done r told → Same g done r told
same_front f g x us done [] told is e s = tt
same_front f g x us [] (y ∷ r) told is e s =
    let here : x ≡ y = cc in
    λ behind. subst (λ z. (vs : Kinds) → g (z ∷ vs) ≡ f (z ∷ vs)) here is behind ∙ s behind
same_front f g x us (z ∷ done) (y ∷ r) told is e s =
    let here : x ≡ z = cc in
    λ behind. subst (λ w. (vs : Kinds) → g (w ∷ vs) ≡ f (w ∷ vs)) here is (done ++ (y ∷ behind)) ∙ s behind

pub told_as : {A : Type 0} (P Q : Rule A) (f g : Kinds → Read A) (x : TokenKind) (us : Kinds) (p : Read A) → ((vs : Kinds) → g (x ∷ vs) ≡ f (x ∷ vs)) →
    ((vs : Kinds) (a : A) (rest : Kinds) → P vs a rest → Q vs a rest) → Told P f (x ∷ us) p → Told Q g (x ∷ us) p
told_as P Q f g x us (Ok p) is h s =
    (s.0, s.1, (λ after. h (s.0 ++ after) p.0 after (s.2 after)), same_front f g x us s.0 p.1 (λ us. Ok (p.0, us)) is s.1 s.3)
told_as P Q f g x us (Err r) is h s =
    (s.0, s.1, (s.2.0, s.2.1, (λ after. h (s.0 ++ (s.2.0 ++ after)) s.2.1 after (s.2.2 after)), s.2.3), same_front f g x us s.0 r Err is s.1 s.3)

-- ---- one part, then another

-- a part that was read is read again before what begins with the same token
again : {A : Type 0} (f : Kinds → Read A) (a : A) (done more : Kinds) (x : TokenKind) (r : Kinds) (behind : Kinds) → Same f done (more ++ (x ∷ r)) (λ us. Ok (a, us)) →
    f (done ++ (more ++ (x ∷ behind))) ≡ Ok (a, more ++ (x ∷ behind))
again f a done [] x r behind s = s behind
again f a done (y ∷ more) x r behind s = s (more ++ (x ∷ behind))

same_then : {A B : Type 0} (f : Kinds → Read A) (g : A → Kinds → Read B) (a : A) (done us more r : Kinds) (told : Kinds → Read B) → us ≡ more ++ r → Same f done us (λ vs. Ok (a, vs)) →
    Same (g a) more r told → Same (λ vs. and_then (f vs) g) (done ++ more) r told
same_then f g a done us more [] told e s h = tt
same_then f g a done us more (x ∷ r) told e s h = λ behind.
    rw (append_assoc done more (x ∷ behind)) (ap (λ p. and_then p g) (again f a done more x r behind (subst (λ l. Same f done l (λ vs. Ok (a, vs))) e s)) ∙ h behind)

module _ {A B : Type 0} (P : Rule A) (G : A → Rule B) (Q : Rule B) (f : Kinds → Read A) (g : A → Kinds → Read B)
    (join : (ts : Kinds) (a : A) (us : Kinds) (b : B) (rest : Kinds) → P ts a us → G a us b rest → Q ts b rest) where
  seam : (done more after us : Kinds) (a : A) (b : B) → ((vs : Kinds) → P (done ++ vs) a vs) → G a (more ++ us) b after → Q ((done ++ more) ++ us) b after
  seam done more after us a b p q = rw (append_assoc done more us) (join (done ++ (more ++ us)) a (more ++ us) b after (p (more ++ us)) q)

  goes : (ts : Kinds) (a : A) (us : Kinds) (q : Read B) → Passes P f ts a us → Told (G a) (g a) us q → Told Q (λ vs. and_then (f vs) g) ts q
  goes ts a us (Ok q) p s = (
    p.0 ++ s.0,
    p.1 ∙ ap (λ l. p.0 ++ l) s.1 ∙ sym (append_assoc p.0 s.0 q.1),
    (λ after. seam p.0 s.0 after after a q.0 p.2 (s.2 after)),
    same_then f g a p.0 us s.0 q.1 (λ vs. Ok (q.0, vs)) s.1 p.3 s.3,
  )
  goes ts a us (Err r) p s = (
    p.0 ++ s.0,
    p.1 ∙ ap (λ l. p.0 ++ l) s.1 ∙ sym (append_assoc p.0 s.0 r),
    (s.2.0, s.2.1, (λ after. seam p.0 s.0 after (s.2.0 ++ after) a s.2.1 p.2 (s.2.2 after)), s.2.3),
    same_then f g a p.0 us s.0 r Err s.1 p.3 s.3,
  )

  -- a part that is right, and for each answer the other part
  pub told_then : ((a : A) → Ended (G a) []) → (ts : Kinds) (p : Read A) → Told P f ts p → ((a : A) (us : Kinds) → Passes P f ts a us → Told (G a) (g a) us (g a us)) →
      Told Q (λ vs. and_then (f vs) g) ts (and_then p g)
  told_then begun ts (Ok p) h k = goes ts p.0 p.1 (g p.0 p.1) h (k p.0 p.1 h)
  told_then begun ts (Err r) h k =
      let b = begun h.2.1 in (
        h.0,
        h.1,
        (
          h.2.0 ++ b.0,
          b.1,
          (λ after.
              subst (λ l. Q (h.0 ++ l) b.1 after) (sym (append_assoc h.2.0 b.0 after)) (join (h.0 ++ (h.2.0 ++ (b.0 ++ after))) h.2.1 (b.0 ++ after) b.1 after (h.2.2 (b.0 ++ after)) (b.2 after))),
          AllLexical-append h.2.0 b.0 h.2.3 b.3,
        ),
        same_by f (λ vs. and_then (f vs) g) h.0 h.0 r Err Err (λ x behind e. ap (λ p. and_then p g) e) h.3,
      )

  pub right_then : ((a : A) → Ended (G a) []) → Right P f → ((a : A) → Right (G a) (g a)) → Right Q (λ ts. and_then (f ts) g)
  right_then begun p q ts = told_then begun ts (f ts) (p ts) (λ a us h. q a us)

  pub ended_then : Ended P [] → ((a : A) → Ended (G a) []) → Ended Q []
  ended_then p begun =
      let b = begun p.1 in
      (p.0 ++ b.0, b.1, (λ after. subst (λ l. Q l b.1 after) (sym (append_assoc p.0 b.0 after)) (join (p.0 ++ (b.0 ++ after)) p.1 (b.0 ++ after) b.1 after (p.2 (b.0 ++ after)) (b.2 after))), AllLexical-append p.0 b.0 p.3 b.3)

-- ---- a token, then what follows

module _ {B : Type 0} (test : TokenKind → Bool) (x₀ : TokenKind) (G Q : Rule B) (go : Kinds → Read B)
    (join : (x : TokenKind) (us : Kinds) (b : B) (rest : Kinds) → test x ≡ true → G us b rest → Q (x ∷ us) b rest) where
  pub ended_past : test x₀ ≡ true → is_lexical x₀ ≡ true → Ended G [] → Ended Q []
  ended_past e lexical h = (x₀ ∷ h.0, h.1, (λ after. join x₀ (h.0 ++ after) h.1 after e (h.2 after)), and_from (is_lexical x₀) (list_all is_lexical h.0) lexical h.3)

  past_at : (x : TokenKind) (us : Kinds) (b : Bool) → test x ≡ b → Ended Q [] → Told G go us (go us) → Told Q (past test go) (x ∷ us) (only b (go us) (x ∷ us))
  past_at x us true e h k = told_behind G Q go (past test go) x us (go us) (λ vs. ap (λ b. only b (go vs) (x ∷ vs)) e) (λ vs a rest. join x vs a rest e) k
  past_at x us false e h k = stops_here Q (past test go) (x ∷ us) h (λ behind. ap (λ b. only b (go behind) (x ∷ behind)) e)

  pub right_past : test x₀ ≡ true → is_lexical x₀ ≡ true → Ended G [] → Right G go → Right Q (past test go)
  right_past e lexical h k [] = stops_here Q (past test go) [] (ended_past e lexical h) tt
  right_past e lexical h k (x ∷ us) = past_at x us (test x) refl (ended_past e lexical h) (k us)

module _ {A B : Type 0} (pick : TokenKind → Option A) (G : A → Rule B) (Q : Rule B) (go : A → Kinds → Read B)
    (join : (x : TokenKind) (a : A) (us : Kinds) (b : B) (rest : Kinds) → pick x ≡ Some a → G a us b rest → Q (x ∷ us) b rest) where
  some_at : (x : TokenKind) (us : Kinds) (o : Option A) → pick x ≡ o → Ended Q [] → ((a : A) → pick x ≡ Some a → Right (G a) (go a)) → Told Q (past_some pick go) (x ∷ us) (only_some o (λ a. go a us) (x ∷ us))
  some_at x us (Some a) e h k = told_behind (G a) Q (go a) (past_some pick go) x us (go a us) (λ vs. ap (λ o. only_some o (λ a. go a vs) (x ∷ vs)) e) (λ vs b rest. join x a vs b rest e) (k a e us)
  some_at x us None e h k = stops_here Q (past_some pick go) (x ∷ us) h (λ behind. ap (λ o. only_some o (λ a. go a behind) (x ∷ behind)) e)

  pub right_some : Ended Q [] → ((x : TokenKind) (a : A) → pick x ≡ Some a → Right (G a) (go a)) → Right Q (past_some pick go)
  right_some h k [] = stops_here Q (past_some pick go) [] h tt
  right_some h k (x ∷ us) = some_at x us (pick x) refl h (k x)

-- ---- a token, or something else

module _ {B : Type 0} (test : TokenKind → Bool) (G H Q : Rule B) (go other : Kinds → Read B)
    (join : (x : TokenKind) (us : Kinds) (b : B) (rest : Kinds) → test x ≡ true → G us b rest → Q (x ∷ us) b rest)
    (turn : (us : Kinds) (b : B) (rest : Kinds) → H us b rest → Q us b rest) where
  choice_at : (x : TokenKind) (us : Kinds) (b : Bool) → test x ≡ b → Right G go → Told H other (x ∷ us) (other (x ∷ us)) → Told Q (past_or test go other) (x ∷ us) (if b then go us else other (x ∷ us))
  choice_at x us true e k h = told_behind G Q go (past_or test go other) x us (go us) (λ vs. ap (λ b. if b then go vs else other (x ∷ vs)) e) (λ vs a rest. join x vs a rest e) (k us)
  choice_at x us false e k h = told_as H Q other (past_or test go other) x us (other (x ∷ us)) (λ vs. ap (λ b. if b then go vs else other (x ∷ vs)) e) turn h

  same_none : (f : Kinds → Read B) (done r : Kinds) (told : Kinds → Read B) → [] ≡ done ++ r → Same f done r told
  same_none f done [] told e = tt
  same_none f [] (y ∷ r) told e = absurd (cc)
  same_none f (z ∷ done) (y ∷ r) told e = absurd (cc)

  choice_none : (p : Read B) → Told H other [] p → Told Q (past_or test go other) [] p
  choice_none (Ok p) s = (s.0, s.1, (λ after. turn (s.0 ++ after) p.0 after (s.2 after)), same_none (past_or test go other) s.0 p.1 (λ us. Ok (p.0, us)) s.1)
  choice_none (Err r) s = (s.0, s.1, (s.2.0, s.2.1, (λ after. turn (s.0 ++ (s.2.0 ++ after)) s.2.1 after (s.2.2 after)), s.2.3), same_none (past_or test go other) s.0 r Err s.1)

  pub told_choice : (ts : Kinds) → Right G go → Told H other ts (other ts) → Told Q (past_or test go other) ts (past_or test go other ts)
  told_choice [] k h = choice_none (other []) h
  told_choice (x ∷ us) k h = choice_at x us (test x) refl k h

  pub right_choice : Right G go → Right H other → Right Q (past_or test go other)
  right_choice k h ts = told_choice ts k (h ts)
