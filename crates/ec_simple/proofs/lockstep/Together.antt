-- Two parts that are alike from every core, within so many ticks: the relation by which lemmas are put together.
use Rattle.std.proofs.Common.{subst₂, ◌≡◌, refl, sym, ap, ◌∙◌, ℕ, suc, ◌≤◌, Bool, true, false, if◌then◌else◌, List, [], ◌∷◌, ◌++◌, arith}
use Rattle.ec_simple.specs.declared.form.SStmt.TheOpen.{SStmt-F}
use Rattle.ec_simple.specs.declared.form.SStmt.{SStmt}
use Rattle.ec_simple.specs.declared.form.Shape.{Shape}
use Rattle.ec_simple.specs.Meaning.{Runs, SCaller, run, does, of_statement}
use Rattle.ec_simple.proofs.lockstep.Alike.{Alike, same_state, alike_may, alike_map, alike_then, alike_left, alike_right, alike_enter, alike_fork, Steady, alike_same, and_then_same, run_append}
use Rattle.ec_types.specs.Meaning.Evaluation.{Caller, fork}
use Rattle.ec_types.specs.Meaning.State.{Site, Core, With, Returns, Traps, Going, Out, Does, and_then, ◌>>=◌, pure, enter, Vars}

pub record Together {A B : Type 0} (may : Bool) (k : ℕ) (P : A → B → Type 0) (d : Does A) (e : Does B) : Type 0 where
  pub is : (c : Core) (r : ℕ) → r ≤ k → Alike may P r (d c r) (e c r)

-- ---- within fewer ticks, where both may return, and with a weaker relation

pub together_less : {A B : Type 0} {may : Bool} {P : A → B → Type 0} {d : Does A} {e : Does B} (j k : ℕ) → j ≤ k →
    Together may k P d e → Together may j P d e
together_less j k h s = record { is = λ c r l. s.is c r (omega (arith, h, l)) }

pub together_may : {A B : Type 0} {k : ℕ} {P : A → B → Type 0} {d : Does A} {e : Does B} (may : Bool) →
    Together false k P d e → Together may k P d e
together_may {P = P} {d = d} {e = e} may s = record { is = λ c r l. alike_may may P r (d c r) (e c r) (s.is c r l) }

pub together_map : {A B : Type 0} {may : Bool} {k : ℕ} {P Q : A → B → Type 0} {d : Does A} {e : Does B} →
    ((a : A) (b : B) → P a b → Q a b) → Together may k P d e → Together may k Q d e
together_map {may = may} {P = P} {Q = Q} {d = d} {e = e} h s = record { is = λ c r l. alike_map may P Q r (d c r) (e c r) h (s.is c r l) }

-- ---- one part after another

pub together_then : {A B C D : Type 0} {may : Bool} {k : ℕ} {P : A → B → Type 0} {Q : C → D → Type 0} {d : Does A}
    {e : Does B} {f : A → Does C} {g : B → Does D} →
    Together may k P d e → ((a : A) (b : B) → P a b → Together may k Q (f a) (g b)) →
    Together may k Q (d >>= f) (e >>= g)
together_then {may = may} {P = P} {Q = Q} {d = d} {e = e} {f = f} {g = g} s h = record {
  is = λ c r l. alike_then may P Q r (d c r) (e c r) f g (s.is c r l)
      (λ a b x q m p. (h a b p).is x q (omega (arith, l, m)));
}

-- a part more on one side alone
pub together_left : {A B C : Type 0} {may : Bool} {k : ℕ} {P : A → B → Type 0} {Q : C → B → Type 0} {d : Does A}
    {e : Does B} {f : A → Does C} →
    Together may k P d e → ((a : A) (b : B) → P a b → Together may k Q (f a) (pure b)) → Together may k Q (d >>= f) e
together_left {may = may} {P = P} {Q = Q} {d = d} {e = e} {f = f} s h = record {
  is = λ c r l. alike_left may P Q r (d c r) (e c r) f (s.is c r l)
      (λ a b x q m p. (h a b p).is x q (omega (arith, l, m)));
}

pub together_right : {A B D : Type 0} {may : Bool} {k : ℕ} {P : A → B → Type 0} {Q : A → D → Type 0} {d : Does A}
    {e : Does B} {g : B → Does D} →
    Together may k P d e → ((a : A) (b : B) → P a b → Together may k Q (pure a) (g b)) → Together may k Q d (e >>= g)
together_right {may = may} {P = P} {Q = Q} {d = d} {e = e} {g = g} s h = record {
  is = λ c r l. alike_right may P Q r (d c r) (e c r) g (s.is c r l)
      (λ a b x q m p. (h a b p).is x q (omega (arith, l, m)));
}

pub together_pure : {A B : Type 0} {may : Bool} {k : ℕ} {P : A → B → Type 0} {a : A} {b : B} → P a b →
    Together may k P (pure a) (pure b)
together_pure p = record { is = λ c r l. (same_state r c r (omega arith), p) }

-- what one side gives is replaced by what the other knows
pub together_gives : {A B C : Type 0} {may : Bool} {k : ℕ} {P : A → B → Type 0} {Q : C → B → Type 0} {d : Does A}
    {e : Does B} (f : A → C) →
    Together may k P d e → ((a : A) (b : B) → P a b → Q (f a) b) → Together may k Q (d >>= (λ a. pure (f a))) e
together_gives f s h = together_left s (λ a b p. together_pure (h a b p))

-- ---- tests, activations, forks, and steps of both sides

pub together_if : {A B : Type 0} {may : Bool} {k : ℕ} {P : A → B → Type 0} {f g : Does A} {h i : Does B} (b : Bool) →
    (b ≡ true → Together may k P f h) → (b ≡ false → Together may k P g i) →
    Together may k P (if b then f else g) (if b then h else i)
together_if true yea nay = yea refl
together_if false yea nay = nay refl

-- its tick is spent before
pub together_enter : {A B : Type 0} {may : Bool} {P : A → B → Type 0} {f : Does A} {g : Does B} (k : ℕ) (at : Site) →
    ((j : ℕ) → suc j ≤ k → Together may j P f g) → Together may k P (enter true at f) (enter true at g)
together_enter {may = may} {P = P} {f = f} {g = g} k at h =
    record { is = λ c r l. alike_enter may P at f g c r (λ d q e. (h q (omega (arith, e, l))).is d q (omega arith)) }

pub together_fork : {may : Bool} {k : ℕ} {P : Vars → Vars → Type 0} {f g : Does Vars} (small : Bool) (call : Caller)
    (big : Bool) (n : ℕ) (small' : Bool) (call' : Caller) (big' : Bool) (n' : ℕ) →
    Together may k P f g → Together may k P (fork small call big n f) (fork small' call' big' n' g)
together_fork {may = may} {P = P} {f = f} {g = g} small call big n small' call' big' n' s =
    record { is = λ c r l. alike_fork small call big n small' call' big' n' may P f g c r (s.is c r l) }

-- a part that neither returns nor makes ticks
abbrev pub IsSteady : {A : Type 0} → Does A → Type 0
IsSteady d = (c : Core) (r : ℕ) → Steady r (d c r)

pub together_same : {A : Type 0} {may : Bool} {k : ℕ} (d : Does A) → IsSteady d → Together may k (λ a b. a ≡ b) d d
together_same {may = may} d h = record { is = λ c r l. alike_same may r (d c r) (h c r) }

-- ---- equal parts

pub together_is : {A B : Type 0} {may : Bool} {k : ℕ} {P : A → B → Type 0} {d d' : Does A} {e e' : Does B} →
    ((c : Core) (r : ℕ) → d c r ≡ d' c r) → ((c : Core) (r : ℕ) → e c r ≡ e' c r) → Together may k P d' e' →
    Together may k P d e
together_is {may = may} {P = P} {d = d} {d' = d'} {e = e} {e' = e'} h i s =
    record { is = λ c r l. subst₂ (Alike may P r) (sym (h c r)) (sym (i c r)) (s.is c r l) }

-- two parts one after the other, and what both give
abbrev pub paired : {A B : Type 0} → A → B → Does (A × B)
paired a b = pure (a, b)

abbrev pub both : {A B : Type 0} → Does A → Does B → Does (A × B)
both d e = d >>= (λ a. e >>= paired a)

abbrev pub of_pair : {A B C : Type 0} → (A → B → Does C) → A × B → Does C
of_pair f p = f p.0 p.1

pub of_both : {A B C : Type 0} (d : Does A) (e : Does B) (f : A → B → Does C) (c : Core) (r : ℕ) →
    (d >>= (λ a. e >>= f a)) c r ≡ (both d e >>= of_pair f) c r
of_both {A} {B} {C} d e f c r = first (d c r)
  where
    second : (a : A) (x : Out B) → and_then x (f a) ≡ and_then (and_then x (paired a)) (of_pair f)
    second a (With b, c, r) = refl
    second a (Returns v, c, r) = refl
    second a (Traps t, c, r) = refl
    second a (Going, c, r) = refl

    first : (x : Out A) → and_then x (λ a. e >>= f a) ≡ and_then (and_then x (λ a. e >>= paired a)) (of_pair f)
    first (With a, c, r) = second a (e c r)
    first (Returns v, c, r) = refl
    first (Traps t, c, r) = refl
    first (Going, c, r) = refl

-- ---- code

module _ {may : Bool} {k : ℕ} (shapes : List Shape) (scall : SCaller) (n : ℕ) where
  pub together_append : {A C : Type 0} {P : A → Vars → Type 0} {Q : C → Vars → Type 0} {d : Does A} {f : A → Does C}
      (a b : List SStmt) (us : Vars) →
      Together may k P d (run shapes true scall n a us) →
      ((x : A) (ws : Vars) → P x ws → Together may k Q (f x) (run shapes true scall n b ws)) →
      Together may k Q (d >>= f) (run shapes true scall n (a ++ b) us)
  together_append {P = P} {Q = Q} {d = d} {f = f} a b us s h =
      together_is (λ c r. refl) (λ c r. run_append shapes true scall n a b us c r)
      (together_then {P = P} {Q = Q} {d = d} {e = run shapes true scall n a us} {f = f} {g = run shapes true scall n b} s h)

  -- code that is one statement
  pub together_one : {A : Type 0} {P : A → Vars → Type 0} {d : Does A} (x : SStmt) (y : SStmt-F Runs Runs Runs)
      (us : Vars) →
      does shapes true scall n x ≡ of_statement shapes true scall n y →
      Together may k P d (of_statement shapes true scall n y us) →
      Together may k P d (run shapes true scall n (x ∷ []) us)
  together_one {P = P} {d = d} x y us h s =
      together_is (λ c r. refl) (λ c r. one c r)
      (together_right {P = P} {Q = P} {d = d} {e = of_statement shapes true scall n y us} {g = pure} s (λ a b p. together_pure p))
    where
      one : (c : Core) (r : ℕ) →
          run shapes true scall n (x ∷ []) us c r ≡ (of_statement shapes true scall n y us >>= pure) c r
      one c r = ap (λ f. and_then (f us c r) pure) h

  -- code, and then one statement
  pub together_step : {A : Type 0} {P : A → Vars → Type 0} {d : Does A} (a : List SStmt) (x : SStmt)
      (y : SStmt-F Runs Runs Runs) (us : Vars) →
      does shapes true scall n x ≡ of_statement shapes true scall n y →
      Together may k P d (run shapes true scall n a us >>= of_statement shapes true scall n y) →
      Together may k P d (run shapes true scall n (a ++ x ∷ []) us)
  together_step a x y us h s =
      together_is (λ c r. refl) (λ c r. run_append shapes true scall n a (x ∷ []) us c r ∙ behind (run shapes true scall n a us c r)) s
    where
      nothing_more : (o : Out Vars) → and_then o pure ≡ o
      nothing_more (With ws, c, r) = refl
      nothing_more (Returns v, c, r) = refl
      nothing_more (Traps t, c, r) = refl
      nothing_more (Going, c, r) = refl

      one : (ws : Vars) (c : Core) (r : ℕ) →
          run shapes true scall n (x ∷ []) ws c r ≡ of_statement shapes true scall n y ws c r
      one ws c r = ap (λ f. and_then (f ws c r) pure) h ∙ nothing_more (of_statement shapes true scall n y ws c r)

      behind : (o : Out Vars) → and_then o (run shapes true scall n (x ∷ [])) ≡ and_then o (of_statement shapes true scall n y)
      behind o = and_then_same o (run shapes true scall n (x ∷ [])) (of_statement shapes true scall n y) one

  pub together_last : {A C : Type 0} {P : A → Vars → Type 0} {Q : C → Vars → Type 0} {d : Does A} {f : A → Does C}
      (a : List SStmt) (x : SStmt) (y : SStmt-F Runs Runs Runs) (us : Vars) →
      does shapes true scall n x ≡ of_statement shapes true scall n y →
      Together may k P d (run shapes true scall n a us) →
      ((v : A) (ws : Vars) → P v ws → Together may k Q (f v) (of_statement shapes true scall n y ws)) →
      Together may k Q (d >>= f) (run shapes true scall n (a ++ x ∷ []) us)
  together_last {P = P} {Q = Q} {d = d} {f = f} a x y us e s h =
      together_append a (x ∷ []) us s (λ v ws p. together_one x y ws e (h v ws p))
