-- Outcomes that are alike: of one ending, one core and one number of ticks left, which has not grown. What goes on has
-- printed the same.
use Rattle.std.proofs.Common.{◌≡◌, ◌≢◌, refl, sym, ap, ◌∙◌, subst, ℕ, zero, suc, ◌-◌, ◌<◌, ◌≤◌, Bool, true, false, if◌then◌else◌, List, [], ◌∷◌, ◌++◌, length, get_or, arith, eq-eqb, ne_eqb, true≢false, IsTrue}
use Rattle.ec_simple.specs.declared.form.Shape.{Shape}
use Rattle.ec_simple.specs.declared.form.SStmt.{SStmt}
use Rattle.ec_simple.specs.Expressions.{no_function}
use Rattle.ec_simple.specs.Meaning.{Runs, SCaller, in_order, run, does}
use Rattle.ec_types.specs.Meaning.Evaluation.{Caller, forked, fork}
use Rattle.ec_types.specs.Meaning.State.{Site, Core, With, Returns, Traps, Going, Out, Does, and_then, ◌>>=◌, pure, spend, inner, back_in, outer, opened, activate, enter, births_after, Vars, set}
use Rattle.ec_types.specs.Meaning.Tree.{Function}
use Rattle.ec_types.specs.Meaning.Values.{Val}

pub record Kept (k : ℕ) (c d : Core) (r q : ℕ) : Type 0 where
  pub core : c ≡ d
  pub ticks : r ≡ q
  pub fewer : r ≤ k

-- k: the ticks that there were; may: whether both may return
abbrev pub Alike : {A B : Type 0} → Bool → (A → B → Type 0) → ℕ → Out A → Out B → Type 0
Alike may P k (With a, c, r) (With b, d, q) = Kept k c d r q × P a b
Alike may P k (Returns v, c, r) (Returns w, d, q) = Kept k c d r q × (v ≡ w) × IsTrue may
Alike may P k (Traps t, c, r) (Traps u, d, q) = Kept k c d r q × (t ≡ u)
Alike may P k (Going, c, r) (Going, d, q) = c.output ≡ d.output
Alike may P k x y = ⊥

pub same_state : (k : ℕ) (c : Core) (r : ℕ) → r ≤ k → Kept k c c r r
same_state k c r h = record { core = refl; ticks = refl; fewer = h }

later : (k j : ℕ) (c d : Core) (r q : ℕ) → k ≤ j → Kept k c d r q → Kept j c d r q
later k j c d r q h s = record { core = s.core; ticks = s.ticks; fewer = let f = s.fewer in omega (arith, f) }

pub weaker : {A B : Type 0} (may : Bool) (P : A → B → Type 0) (k j : ℕ) (x : Out A) (y : Out B) → k ≤ j →
    Alike may P k x y → Alike may P j x y
weaker may P k j (With a, c, r) (With b, d, q) h s = (later k j c d r q h s.0, s.1)
weaker may P k j (Returns v, c, r) (Returns w, d, q) h s = (later k j c d r q h s.0, s.1, s.2)
weaker may P k j (Traps t, c, r) (Traps u, d, q) h s = (later k j c d r q h s.0, s.1)
weaker may P k j (Going, c, r) (Going, d, q) h s = s
weaker may P k j x y h s = absurd s

pub alike_map : {A B : Type 0} (may : Bool) (P Q : A → B → Type 0) (k : ℕ) (x : Out A) (y : Out B) →
    ((a : A) (b : B) → P a b → Q a b) → Alike may P k x y → Alike may Q k x y
alike_map may P Q k (With a, c, r) (With b, d, q) h s = (s.0, h a b s.1)
alike_map may P Q k (Returns v, c, r) (Returns w, d, q) h s = s
alike_map may P Q k (Traps t, c, r) (Traps u, d, q) h s = s
alike_map may P Q k (Going, c, r) (Going, d, q) h s = s
alike_map may P Q k x y h s = absurd s

-- what doesn't return is alike also where it may
pub alike_may : {A B : Type 0} (may : Bool) (P : A → B → Type 0) (k : ℕ) (x : Out A) (y : Out B) → Alike false P k x y →
    Alike may P k x y
alike_may may P k (With a, c, r) (With b, d, q) s = s
alike_may may P k (Returns v, c, r) (Returns w, d, q) s = absurd (true≢false (sym s.2))
alike_may may P k (Traps t, c, r) (Traps u, d, q) s = s
alike_may may P k (Going, c, r) (Going, d, q) s = s
alike_may may P k x y s = absurd s

-- ---- one part after another

-- from the core and the ticks of one side to those of the other
moved : {A B : Type 0} (may : Bool) (P : A → B → Type 0) (k : ℕ) (x : Out A) (g : Does B) (c d : Core) (r q : ℕ) →
    Kept k c d r q → Alike may P r x (g c r) → Alike may P k x (g d q)
moved may P k x g c d r q m h =
    subst (λ e. Alike may P k x (g e q)) m.core
    (subst (λ p. Alike may P k x (g c p)) m.ticks (weaker may P r k x (g c r) m.fewer h))

pub alike_then : {A B C D : Type 0} (may : Bool) (P : A → B → Type 0) (Q : C → D → Type 0) (k : ℕ) (x : Out A)
    (y : Out B) (f : A → Does C) (g : B → Does D) →
    Alike may P k x y → ((a : A) (b : B) (c : Core) (r : ℕ) → r ≤ k → P a b → Alike may Q r (f a c r) (g b c r)) →
    Alike may Q k (and_then x f) (and_then y g)
alike_then may P Q k (With a, c, r) (With b, d, q) f g s h =
    moved may Q k (f a c r) (g b) c d r q s.0 (h a b c r s.0.fewer s.1)
alike_then may P Q k (Returns v, c, r) (Returns w, d, q) f g s h = s
alike_then may P Q k (Traps t, c, r) (Traps u, d, q) f g s h = s
alike_then may P Q k (Going, c, r) (Going, d, q) f g s h = s
alike_then may P Q k x y f g s h = absurd s

-- a part more on the right side alone
pub alike_right : {A B D : Type 0} (may : Bool) (P : A → B → Type 0) (Q : A → D → Type 0) (k : ℕ) (x : Out A)
    (y : Out B) (g : B → Does D) →
    Alike may P k x y → ((a : A) (b : B) (c : Core) (r : ℕ) → r ≤ k → P a b → Alike may Q r (With a, c, r) (g b c r)) →
    Alike may Q k x (and_then y g)
alike_right may P Q k (With a, c, r) (With b, d, q) g s h =
    moved may Q k (With a, c, r) (g b) c d r q s.0 (h a b c r s.0.fewer s.1)
alike_right may P Q k (Returns v, c, r) (Returns w, d, q) g s h = s
alike_right may P Q k (Traps t, c, r) (Traps u, d, q) g s h = s
alike_right may P Q k (Going, c, r) (Going, d, q) g s h = s
alike_right may P Q k x y g s h = absurd s

-- and on the left side alone
pub alike_left : {A B C : Type 0} (may : Bool) (P : A → B → Type 0) (Q : C → B → Type 0) (k : ℕ) (x : Out A) (y : Out B)
    (f : A → Does C) →
    Alike may P k x y → ((a : A) (b : B) (c : Core) (r : ℕ) → r ≤ k → P a b → Alike may Q r (f a c r) (With b, c, r)) →
    Alike may Q k (and_then x f) y
alike_left may P Q k (With a, c, r) (With b, d, q) f s h =
    moved may Q k (f a c r) (pure b) c d r q s.0 (h a b c r s.0.fewer s.1)
alike_left may P Q k (Returns v, c, r) (Returns w, d, q) f s h = s
alike_left may P Q k (Traps t, c, r) (Traps u, d, q) f s h = s
alike_left may P Q k (Going, c, r) (Going, d, q) f s h = s
alike_left may P Q k x y f s h = absurd s

-- a test on both sides
pub alike_if : {A B : Type 0} (may : Bool) (P : A → B → Type 0) (b : Bool) (f g : Does A) (h i : Does B) (c : Core)
    (r : ℕ) →
    (b ≡ true → Alike may P r (f c r) (h c r)) → (b ≡ false → Alike may P r (g c r) (i c r)) →
    Alike may P r ((if b then f else g) c r) ((if b then h else i) c r)
alike_if may P true f g h i c r yea nay = yea refl
alike_if may P false f g h i c r yea nay = nay refl

-- ---- ticks, activations and forks

-- a tick on both sides
pub alike_spend : {A B : Type 0} (may : Bool) (P : A → B → Type 0) (f : Does A) (g : Does B) (c : Core) (r : ℕ) →
    ((q : ℕ) → r ≡ suc q → Alike may P q (f c q) (g c q)) → Alike may P r (spend f c r) (spend g c r)
alike_spend may P f g c zero h = refl
alike_spend may P f g c (suc q) h = weaker may P q (suc q) (f c q) (g c q) (omega arith) (h q refl)

back : (k : ℕ) (e c d : Core) (r q : ℕ) → Kept k c d r q → Kept k (back_in e c) (back_in e d) r q
back k e c d r q m = record { core = ap (back_in e) m.core; ticks = m.ticks; fewer = m.fewer }

pub alike_outer : {A B : Type 0} (may : Bool) (P : A → B → Type 0) (k : ℕ) (e : Core) (x : Out A) (y : Out B) →
    Alike may P k x y → Alike may P k (outer e x) (outer e y)
alike_outer may P k e (With a, c, r) (With b, d, q) s = (back k e c d r q s.0, s.1)
alike_outer may P k e (Returns v, c, r) (Returns w, d, q) s = (back k e c d r q s.0, s.1, s.2)
alike_outer may P k e (Traps t, c, r) (Traps u, d, q) s = (back k e c d r q s.0, s.1)
alike_outer may P k e (Going, c, r) (Going, d, q) s = s
alike_outer may P k e x y s = absurd s

-- an activation on both sides, at one place
pub alike_activate : {A B : Type 0} (may : Bool) (P : A → B → Type 0) (at : Site) (f : Does A) (g : Does B) (c : Core)
    (r : ℕ) →
    ((d : Core) (q : ℕ) → r ≡ suc q → Alike may P q (f d q) (g d q)) →
    Alike may P r (activate true at f c r) (activate true at g c r)
alike_activate may P at f g c r h =
    alike_spend may P (λ d q. f (opened at d) q) (λ d q. g (opened at d) q) c r (λ q e. h (opened at c) q e)

pub alike_enter : {A B : Type 0} (may : Bool) (P : A → B → Type 0) (at : Site) (f : Does A) (g : Does B) (c : Core)
    (r : ℕ) →
    ((d : Core) (q : ℕ) → r ≡ suc q → Alike may P q (f d q) (g d q)) →
    Alike may P r (enter true at f c r) (enter true at g c r)
alike_enter may P at f g c r h =
    alike_outer may P r c (activate true at f (inner c) r) (activate true at g (inner c) r) (alike_activate may P at f g (inner c) r h)

abbrev with_fork : ℕ → Core → Core
with_fork m c = record c { forks = c.forks ++ record { path = c.path; births = births_after m (c.births - m) } ∷ [] }

-- what is forked is written down by the core alone
module _ (small : Bool) (call : Caller) (big : Bool) (n : ℕ) (small' : Bool) (call' : Caller) (big' : Bool)
    (n' : ℕ) where
  pub alike_forked : (may : Bool) (P : Vars → Vars → Type 0) (k m : ℕ) (x y : Out Vars) → Alike may P k x y →
      Alike may P k (forked small call big n m x) (forked small' call' big' n' m y)
  alike_forked may P k m (With a, c, r) (With b, d, q) s =
      (record { core = ap (with_fork m) s.0.core; ticks = s.0.ticks; fewer = s.0.fewer }, s.1)
  alike_forked may P k m (Returns v, c, r) (Returns w, d, q) s = s
  alike_forked may P k m (Traps t, c, r) (Traps u, d, q) s = s
  alike_forked may P k m (Going, c, r) (Going, d, q) s = s
  alike_forked may P k m x y s = absurd s

  pub alike_fork : (may : Bool) (P : Vars → Vars → Type 0) (f g : Does Vars) (c : Core) (r : ℕ) →
      Alike may P r (f c r) (g c r) → Alike may P r (fork small call big n f c r) (fork small' call' big' n' g c r)
  alike_fork may P f g c r s = alike_forked may P r c.births (f c r) (g c r) s

-- ---- one and the same part on both sides

-- it does not return from the activation, and makes no ticks
abbrev pub Steady : {A : Type 0} → ℕ → Out A → Type 0
Steady k (With a, c, r) = r ≤ k
Steady k (Returns v, c, r) = ⊥
Steady k (Traps t, c, r) = r ≤ k
Steady k (Going, c, r) = r ≤ k

pub alike_same : {A : Type 0} (may : Bool) (k : ℕ) (x : Out A) → Steady k x → Alike may (λ a b. a ≡ b) k x x
alike_same may k (With a, c, r) h = (same_state k c r h, refl)
alike_same may k (Returns v, c, r) h = absurd h
alike_same may k (Traps t, c, r) h = (same_state k c r h, refl)
alike_same may k (Going, c, r) h = refl

-- ---- code, one after another

pub and_then_same : {A B : Type 0} (x : Out A) (f g : A → Does B) → ((a : A) (c : Core) (r : ℕ) → f a c r ≡ g a c r) →
    and_then x f ≡ and_then x g
and_then_same (With a, c, r) f g h = h a c r
and_then_same (Returns v, c, r) f g h = refl
and_then_same (Traps t, c, r) f g h = refl
and_then_same (Going, c, r) f g h = refl

pub and_then_then : {A B C : Type 0} (x : Out A) (f : A → Does B) (g : B → Does C) →
    and_then x (λ a. f a >>= g) ≡ and_then (and_then x f) g
and_then_then (With a, c, r) f g = refl
and_then_then (Returns v, c, r) f g = refl
and_then_then (Traps t, c, r) f g = refl
and_then_then (Going, c, r) f g = refl

module _ (shapes : List Shape) (big : Bool) (call : SCaller) (n : ℕ) where
  abbrev Run : List SStmt → Runs
  Run = run shapes big call n

  abbrev Order : List Runs → Runs
  Order = in_order shapes big call n

  pub run_append : (a b : List SStmt) (us : Vars) (c : Core) (r : ℕ) →
      run shapes big call n (a ++ b) us c r ≡ and_then (run shapes big call n a us c r) (run shapes big call n b)
  run_append [] b us c r = refl
  run_append (x ∷ a) b us c r =
      and_then_same (does shapes big call n x us c r) (Run (a ++ b)) (λ ws. Run a ws >>= Run b) (run_append a b)
      ∙ and_then_then (does shapes big call n x us c r) (Run a) (Run b)

  -- code that stands in order with other code
  pub in_order_append : (a b : List Runs) (us : Vars) (c : Core) (r : ℕ) →
      in_order shapes big call n (a ++ b) us c r ≡ and_then (Order a us c r) (Order b)
  in_order_append [] b us c r = refl
  in_order_append (x ∷ a) b us c r =
      and_then_same (x us c r) (Order (a ++ b)) (λ ws. Order a ws >>= Order b) (in_order_append a b)
      ∙ and_then_then (x us c r) (Order a) (Order b)

  pub alike_append : {A C : Type 0} (may : Bool) (P : A → Vars → Type 0) (Q : C → Vars → Type 0) (k : ℕ) (x : Out A)
      (f : A → Does C) (a b : List SStmt) (us : Vars) (c : Core) (r : ℕ) →
      Alike may P k x (run shapes big call n a us c r) →
      ((v : A) (ws : Vars) (d : Core) (q : ℕ) → q ≤ k → P v ws → Alike may Q q (f v d q) (run shapes big call n b ws d q)) →
      Alike may Q k (and_then x f) (run shapes big call n (a ++ b) us c r)
  alike_append may P Q k x f a b us c r s h =
      subst (Alike may Q k (and_then x f)) (sym (run_append a b us c r))
      (alike_then may P Q k x (Run a us c r) f (Run b) s h)

-- ---- variables

pub set_here : (x : ℕ) (v : Val) (vs : Vars) → set x v vs x ≡ v
set_here x v vs = rw (eq-eqb x x refl) refl

pub set_other : (x y : ℕ) (v : Val) (vs : Vars) → y ≢ x → set x v vs y ≡ vs y
set_other x y v vs h = rw (ne_eqb y x h) refl

-- ---- calls

-- the simple form's call gives the value, or none where the function is void
abbrev pub Given : Function → Val → List Val → Type 0
Given f v l = l ≡ (if f.void then [] else v ∷ [])

abbrev pub function_in : List Function → ℕ → Function
function_in fs f = get_or fs f no_function

-- calls of the program's functions with their arguments are alike on both sides, within k ticks
abbrev pub GoodCalls : List Function → Caller → SCaller → ℕ → Type 0
GoodCalls fs call scall k =
    (f : ℕ) → f < length fs → (us : List Val) → length us ≡ length (function_in fs f).params →
    (at : Site) (c : Core) (r : ℕ) → r ≤ k →
    Alike false (Given (function_in fs f)) r (call f us at c r) (scall f us at c r)
