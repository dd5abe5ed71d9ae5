-- With more ticks and more room a meaning is the same where it comes to an end, and otherwise goes on from there.
use Rattle.std.proofs.Common.{◌≡◌, refl, sym, ap, subst, ℕ, zero, suc, ◌+◌, ◌≤◌, arith, Bool, true, false, List, map, Option, Some, None, slice_get, ℤ}
use Rattle.ec_types.specs.Meaning.Values.{Val, Num, zero_value}
use Rattle.ec_types.specs.Meaning.State.{Site, Here, Core, Ends, Out, Does, With, Returns, Traps, Going, and_then, pure, going, spend, tick, inner, outer, opened, activate, Vars}
use Rattle.ec_types.specs.Meaning.Tree.{Function}
use Rattle.ec_types.specs.Meaning.Evaluation.{Caller, turns, forked, fork, Program, body, run_function, calls}
use Rattle.ec_types.specs.Meaning.Programs.{root, main_or, run}
use Rattle.ec_types.proofs.meaning.Growth.{Grows, grows_refl, grows_trans, grows_opened}
use Rattle.ec_types.proofs.meaning.Steps.{IsOver, pure_step}
use Rattle.ec_types.proofs.meaning.Relations.{caught, turned, Relation, Each, EachCall, Steps, Binds, Catches, Ticks, Enters}
use Rattle.ec_types.proofs.meaning.Closed.{turned_both, body_done}

-- y, with j ticks more, is x or goes on from it
abbrev pub Up : {A : Type 0} → ℕ → Out A → Out A → Type 0
Up j (With a, c, q) y = y ≡ (With a, c, q + j)
Up j (Returns v, c, q) y = y ≡ (Returns v, c, q + j)
Up j (Traps t, c, q) y = y ≡ (Traps t, c, q + j)
Up j (Going, c, q) y = Grows c y.1

pub record Under {A : Type 0} (c : Core) (j : ℕ) (x y : Out A) : Type 0 where
  pub up : Up j x y
  pub grows : Grows c y.1

abbrev pub Below : Relation
Below A d e = (c : Core) (r j : ℕ) → Under c j (d c r) (e c (r + j))

-- ---- steps

step_up : {A : Type 0} (e : Ends A) (c : Core) (r j : ℕ) → IsOver e → Up j (e, c, r) (e, c, r + j)
step_up (With a) c r j o = refl
step_up (Returns v) c r j o = refl
step_up (Traps t) c r j o = refl
step_up Going c r j o = absurd o

more_steps : Steps Below
more_steps A d s c r j =
    let t = s c in
    record {
      up =
          subst (λ x. Up j x (d c (r + j))) (sym (t.is r))
          (subst (λ y. Up j (t.end, t.core, r) y) (sym (t.is (r + j))) (step_up t.end t.core r j t.over));
      grows = subst (λ y. Grows c y.1) (sym (t.is (r + j))) t.grows;
    }

-- ---- one after the other

grows_on :
    {A B : Type 0} (y : Out A) (g : A → Does B) → ((a : A) (c : Core) (r : ℕ) → Grows c (g a c r).1) →
    Grows y.1 (and_then y g).1
grows_on (With a, c, r) g h = h a c r
grows_on (Returns v, c, r) g h = grows_refl c
grows_on (Traps t, c, r) g h = grows_refl c
grows_on (Going, c, r) g h = grows_refl c

grown : {A : Type 0} (d e : Does A) → Below A d e → (c : Core) (r : ℕ) → Grows c (e c r).1
grown d e h c r = subst (λ n. Grows c (e c n).1) (omega arith) (h c 0 r).grows

ended_then :
    {A B : Type 0} (c : Core) (j : ℕ) (x : Out B) (y z : Out A) (g : A → Does B) → y ≡ z →
    Under c j x (and_then z g) → Under c j x (and_then y g)
ended_then c j x y z g e u = subst (λ o. Under c j x (and_then o g)) (sym e) u

grows_to : {A : Type 0} (c : Core) (y z : Out A) → y ≡ z → Grows c y.1 → Grows c z.1
grows_to c y z e g = subst (λ o. Grows c o.1) e g

more_then :
    {A B : Type 0} (c : Core) (j : ℕ) (x y : Out A) (f g : A → Does B) → Under c j x y → Each Below A B f g →
    Under c j (and_then x f) (and_then y g)
more_then {A = A} {B = B} c j (With a, d, q) y f g u h =
    let z : Out A = (With a, d, q + j) in
    let v = h a d q j in
    let grows = grows_trans c d (g a d (q + j)).1 (grows_to c y z u.up u.grows) v.grows in
    ended_then c j (f a d q) y z g u.up (record { up = v.up; grows = grows })
more_then {A = A} {B = B} c j (Returns v, d, q) y f g u h =
    let z : Out A = (Returns v, d, q + j) in
    ended_then c j (Returns v, d, q) y z g u.up (record { up = refl; grows = grows_to c y z u.up u.grows })
more_then {A = A} {B = B} c j (Traps t, d, q) y f g u h =
    let z : Out A = (Traps t, d, q + j) in
    ended_then c j (Traps t, d, q) y z g u.up (record { up = refl; grows = grows_to c y z u.up u.grows })
more_then {A = A} {B = B} c j (Going, d, q) y f g u h =
    let z = and_then y g in
    let on = grows_on y g (λ a e r. grown (f a) (g a) (h a) e r) in
    record { up = grows_trans d y.1 z.1 u.up on; grows = grows_trans c y.1 z.1 u.grows on }

more_binds : Binds Below
more_binds A B d e f g h k c r j = more_then c j (d c r) (e c (r + j)) f g (h c r j) k

-- ---- results and forks

caught_grows : {A B : Type 0} (f : A → B) (g : Val → B) (c : Core) (y : Out A) → Grows c y.1 → Grows c (caught f g y).1
caught_grows f g c (With a, d, r) h = h
caught_grows f g c (Returns v, d, r) h = h
caught_grows f g c (Traps t, d, r) h = h
caught_grows f g c (Going, d, r) h = h

caught_up :
    {A B : Type 0} (f : A → B) (g : Val → B) (j : ℕ) (x y : Out A) → Up j x y →
    Up j (caught f g x) (caught f g y)
caught_up f g j (With a, c, q) y h = ap (caught f g) h
caught_up f g j (Returns v, c, q) y h = ap (caught f g) h
caught_up f g j (Traps t, c, q) y h = ap (caught f g) h
caught_up f g j (Going, c, q) y h = caught_grows f g c y h

more_catches : Catches Below
more_catches A B f g d e h c r j =
    let u = h c r j in
    record { up = caught_up f g j (d c r) (e c (r + j)) u.up; grows = caught_grows f g c (e c (r + j)) u.grows }

module _ (small big small' big' : Bool) (call call' : Caller) (n n' : ℕ) where
  forked_grows : (b : ℕ) (c : Core) (y : Out Vars) → Grows c y.1 → Grows c (forked small' call' big' n' b y).1
  forked_grows b c (With a, d, r) h = h
  forked_grows b c (Returns v, d, r) h = h
  forked_grows b c (Traps t, d, r) h = h
  forked_grows b c (Going, d, r) h = h

  forked_up :
      (b j : ℕ) (x y : Out Vars) → Up j x y →
      Up j (forked small call big n b x) (forked small' call' big' n' b y)
  forked_up b j (With a, c, q) y h = ap (forked small' call' big' n' b) h
  forked_up b j (Returns v, c, q) y h = ap (forked small' call' big' n' b) h
  forked_up b j (Traps t, c, q) y h = ap (forked small' call' big' n' b) h
  forked_up b j (Going, c, q) y h = forked_grows b c y h

  more_forks : (d e : Does Vars) → Below Vars d e → Below Vars (fork small call big n d) (fork small' call' big' n' e)
  more_forks d e h c r j =
      let u = h c r j in
      let y = e c (r + j) in
      record { up = forked_up c.births j (d c r) y u.up; grows = forked_grows c.births c y u.grows }

-- ---- ticks and activations

more_ticks : (b : Bool) → Ticks Below b b
more_ticks false A d e h c r j = h c r j
more_ticks true A d e h c zero j = let grows = spent (0 + j) in record { up = grows; grows = grows }
  where
    spent : (r : ℕ) → Grows c (spend e c r).1
    spent zero = grows_refl c
    spent (suc r) = grown d e h c r
more_ticks true A d e h c (suc r) j =
    let same : suc (r + j) ≡ suc r + j = omega arith in
    subst (λ n. Under c j (d c r) (spend e c n)) same (h c r j)

more_activates :
    (b : Bool) (s : Site) (A : Type 0) (d e : Does A) → Below A d e → Below A (activate b s d) (activate b s e)
more_activates b s A d e h = more_ticks b A (λ c r. d (opened s c) r) (λ c r. e (opened s c) r) opens
  where
    opens : Below A (λ c r. d (opened s c) r) (λ c r. e (opened s c) r)
    opens c r j =
        let o = opened s c in
        let u = h o r j in
        record { up = u.up; grows = grows_trans c o (e o (r + j)).1 (grows_opened s c) u.grows }

outer_up : {A : Type 0} (o : Core) (j : ℕ) (x y : Out A) → Up j x y → Up j (outer o x) (outer o y)
outer_up o j (With a, c, q) y h = ap (outer o) h
outer_up o j (Returns v, c, q) y h = ap (outer o) h
outer_up o j (Traps t, c, q) y h = ap (outer o) h
outer_up o j (Going, c, q) y h = record { output = h.output; most = h.most }

more_enters : (b : Bool) → Enters Below b b
more_enters b s A d e h c r j =
    let i = inner c in
    let u = more_activates b s A d e h i r j in
    record { up = outer_up c j (activate b s d i r) (activate b s e i (r + j)) u.up; grows = u.grows }

-- ---- loops and calls

-- what goes on at once is below all that only adds
more_going : (A : Type 0) (e : Does A) → ((c : Core) (r : ℕ) → Grows c (e c r).1) → Below A going e
more_going A e h c r j = let grows = h c (r + j) in record { up = grows; grows = grows }

module _ (small big : Bool) where
  module _ (call call' : Caller) (n n' : ℕ) (test test' : Vars → Does Val) (body body' : Vars → Does Vars)
      (tests : Each Below Vars Val test test') (bodies : Each Below Vars Vars body body') where
    more_turn :
        (rest rest' : Vars → Does Vars) → Each Below Vars Vars rest rest' →
        Each Below Vars Vars (λ vs. tick big (turned test body rest vs)) (λ vs. tick big (turned test' body' rest' vs))
    more_turn rest rest' rests vs =
        more_ticks big Vars (turned test body rest vs) (turned test' body' rest' vs)
        (turned_both Below more_steps more_binds test test' body body' rest rest' tests bodies rests vs)

    more_turns :
        (i i' : ℕ) → i ≤ i' →
        Each Below Vars Vars (turns small call big n i test body) (turns small call' big n' i' test' body')
    more_turns zero zero l vs = more_going Vars going (λ c r. grows_refl c)
    more_turns zero (suc i') l vs =
        let rest' = turns small call' big n' i' test' body' in
        let turn' = tick big (turned test' body' rest' vs) in
        more_going Vars turn'
        (grown (tick big (turned test body (λ ws. going) vs)) turn'
        (more_turn (λ ws. going) rest' (more_turns zero i' (omega arith)) vs))
    more_turns (suc i) zero l vs = absurd (omega (arith, l))
    more_turns (suc i) (suc i') l vs =
        let rest = turns small call big n i test body in
        let rest' = turns small call' big n' i' test' body' in
        more_turn rest rest' (more_turns i i' (omega (arith, l))) vs

  module _ (call call' : Caller) (called : EachCall Below call call') (n n' : ℕ) (l : n ≤ n') where
    more_body :
        (f : Function) (us : List Val) → Below Val (body small big call n f us) (body small big call' n' f us)
    more_body =
        body_done Below more_steps more_binds small small (more_ticks small) call call' called big big n n' more_catches
        (more_enters big) (more_forks small big small big call call' n n')
        (λ test test' body body' tests bodies. more_turns call call' n n' test test' body body' tests bodies n n' l)

    more_function :
        (o : Option Function) (us : List Val) (s : Site) →
        Below Val (run_function small big call n o us s) (run_function small big call' n' o us s)
    more_function None us s = more_steps Val (pure zero_value) (pure_step zero_value)
    more_function (Some f) us s =
        more_enters big s Val (body small big call n f us) (body small big call' n' f us) (more_body f us)

  pub more_calls : (p : Program) (n n' : ℕ) → n ≤ n' → EachCall Below (calls small big p n) (calls small big p n')
  more_calls p zero zero l f us s = more_going Val going (λ c r. grows_refl c)
  more_calls p zero (suc n') l f us s =
      let o = slice_get p f in
      let call' = calls small big p n' in
      let run' = run_function small big call' n' o us s in
      more_going Val run'
      (grown (run_function small big (λ f us s. going) n' o us s) run'
      (more_function (λ f us s. going) call' (more_calls p zero n' (omega arith)) n' n' (omega arith) o us s))
  more_calls p (suc n) zero l f us s = absurd (omega (arith, l))
  more_calls p (suc n) (suc n') l f us s =
      let within : n ≤ n' = omega (arith, l) in
      let o = slice_get p f in
      more_function (calls small big p n) (calls small big p n') (more_calls p n n' within) n n' within o us s

-- ---- whole programs

pub more_run : (p : Program) (main : ℕ) (args : List ℤ) (k j : ℕ) → Up j (run p main args k) (run p main args (k + j))
more_run p main args k j =
    let within : k ≤ k + j = omega arith in
    let call = calls true true p k in
    let call' = calls true true p (k + j) in
    let f = main_or (slice_get p main) in
    let us = map Num args in
    let bodies = more_body true true call call' (more_calls true true p k (k + j) within) k (k + j) within f us in
    (more_activates true Here Val (body true true call k f us) (body true true call' (k + j) f us) bodies root k j).up
