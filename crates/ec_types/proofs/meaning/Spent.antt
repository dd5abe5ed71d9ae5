-- A meaning goes on exactly where its ticks are spent: room for calls and turns never ends first.
use Rattle.std.proofs.Common.{◌≡◌, refl, sym, subst, ℕ, zero, suc, ◌≤◌, arith, Bool, true, false, List, map, Option, Some, None, slice_get, ℤ}
use Rattle.ec_types.specs.Meaning.Values.{Val, Num, zero_value}
use Rattle.ec_types.specs.Meaning.State.{Site, Here, Core, Ends, Out, Does, With, Returns, Traps, Going, and_then, pure, going, spend, inner, outer, opened, activate, enter, Vars}
use Rattle.ec_types.specs.Meaning.Tree.{Function}
use Rattle.ec_types.specs.Meaning.Evaluation.{Caller, turns, forked, fork, Program, body, run_function, calls}
use Rattle.ec_types.specs.Meaning.Programs.{root, main_or, run}
use Rattle.ec_types.proofs.meaning.Steps.{IsOver, pure_step}
use Rattle.ec_types.proofs.meaning.Relations.{caught, turned, Relation, Each, EachCall, Steps, Binds, Catches, Ticks, Enters}
use Rattle.ec_types.proofs.meaning.Closed.{turned_both, body_done}

-- no ticks are made, and where it goes on none is left
abbrev pub Left : {A : Type 0} → ℕ → Out A → Type 0
Left k (With a, c, q) = q ≤ k
Left k (Returns v, c, q) = q ≤ k
Left k (Traps t, c, q) = q ≤ k
Left k (Going, c, q) = q ≡ 0

-- so it is within n ticks; of the two sides only the first is looked at
abbrev pub Spends : ℕ → Relation
Spends n A d e = (c : Core) (r : ℕ) → r ≤ n → Left r (d c r)

more_left : {A : Type 0} (k j : ℕ) (x : Out A) → k ≤ j → Left k x → Left j x
more_left k j (With a, c, q) h l = omega (arith, h, l)
more_left k j (Returns v, c, q) h l = omega (arith, h, l)
more_left k j (Traps t, c, q) h l = omega (arith, h, l)
more_left k j (Going, c, q) h l = l

within : {A : Type 0} (n m : ℕ) (d e : Does A) → m ≤ n → Spends n A d e → Spends m A d e
within n m d e l s c r h = s c r (omega (arith, h, l))

spent_going : (A : Type 0) → Spends 0 A going going
spent_going A c r h = omega (arith, h)

-- ---- ticks and activations: there can be one tick more

pub spent_tick : {A : Type 0} (n : ℕ) (d e : Does A) → Spends n A d e → Spends (suc n) A (spend d) (spend e)
spent_tick n d e s c zero h = refl
spent_tick n d e s c (suc r) h = more_left r (suc r) (d c r) (omega arith) (s c r (omega (arith, h)))

spent_activation :
    {A : Type 0} (n : ℕ) (s : Site) (d e : Does A) → Spends n A d e →
    Spends (suc n) A (activate true s d) (activate true s e)
spent_activation n s d e h =
    spent_tick n (λ c r. d (opened s c) r) (λ c r. e (opened s c) r) (λ c r l. h (opened s c) r l)

outer_left : {A : Type 0} (o : Core) (k : ℕ) (x : Out A) → Left k x → Left k (outer o x)
outer_left o k (With a, c, q) l = l
outer_left o k (Returns v, c, q) l = l
outer_left o k (Traps t, c, q) l = l
outer_left o k (Going, c, q) l = l

pub spent_entry :
    {A : Type 0} (n : ℕ) (s : Site) (d e : Does A) → Spends n A d e → Spends (suc n) A (enter true s d) (enter true s e)
spent_entry n s d e h c r l =
    outer_left c r (activate true s d (inner c) r) (spent_activation n s d e h (inner c) r l)

-- ---- what is closed under the words of meanings

step_left : {A : Type 0} (e : Ends A) (c : Core) (r : ℕ) → IsOver e → Left r (e, c, r)
step_left (With a) c r o = omega arith
step_left (Returns v) c r o = omega arith
step_left (Traps t) c r o = omega arith
step_left Going c r o = absurd o

caught_left : {A B : Type 0} (f : A → B) (g : Val → B) (k : ℕ) (x : Out A) → Left k x → Left k (caught f g x)
caught_left f g k (With a, c, q) l = l
caught_left f g k (Returns v, c, q) l = l
caught_left f g k (Traps t, c, q) l = l
caught_left f g k (Going, c, q) l = l

module _ (n : ℕ) where
  pub spent_steps : Steps (Spends n)
  spent_steps A d s c r h = let t = s c in subst (Left r) (sym (t.is r)) (step_left t.end t.core r t.over)

  left_then :
      {A B : Type 0} (k : ℕ) (x : Out A) (f g : A → Does B) → k ≤ n → Left k x → Each (Spends n) A B f g →
      Left k (and_then x f)
  left_then k (With a, c, q) f g h l s = more_left q k (f a c q) l (s a c q (omega (arith, h, l)))
  left_then k (Returns v, c, q) f g h l s = l
  left_then k (Traps t, c, q) f g h l s = l
  left_then k (Going, c, q) f g h l s = l

  pub spent_binds : Binds (Spends n)
  spent_binds A B d e f g s t c r h = left_then r (d c r) f g h (s c r h) t

  pub spent_catches : Catches (Spends n)
  spent_catches A B f g d e s c r h = caught_left f g r (d c r) (s c r h)

  pub spent_ticks : (b : Bool) → Ticks (Spends n) b b
  spent_ticks false A d e s = s
  spent_ticks true A d e s = within (suc n) n (spend d) (spend e) (omega arith) (spent_tick n d e s)

  pub spent_enters : Enters (Spends n) true true
  spent_enters s A d e h =
      within (suc n) n (enter true s d) (enter true s e) (omega arith) (spent_entry n s d e h)

module _ (small : Bool) (call : Caller) (n : ℕ) where
  forked_left : (b k : ℕ) (x : Out Vars) → Left k x → Left k (forked small call true n b x)
  forked_left b k (With a, c, q) l = l
  forked_left b k (Returns v, c, q) l = l
  forked_left b k (Traps t, c, q) l = l
  forked_left b k (Going, c, q) l = l

  pub spent_forks :
      (d e : Does Vars) → Spends n Vars d e →
      Spends n Vars (fork small call true n d) (fork small call true n e)
  spent_forks d e s c r h = forked_left c.births r (d c r) (s c r h)

  -- ---- loops and calls: as many turns and activations as there are ticks are room enough

  module _ (test test' : Vars → Does Val) (body body' : Vars → Does Vars)
      (tests : Each (Spends n) Vars Val test test') (bodies : Each (Spends n) Vars Vars body body') where
    pub spent_turns :
        (i : ℕ) → i ≤ n →
        Each (Spends i) Vars Vars (turns small call true n i test body) (turns small call true n i test' body')
    spent_turns zero l vs = spent_going Vars
    spent_turns (suc i) l vs =
        let below : i ≤ n = omega (arith, l) in
        let rest = turns small call true n i test body in
        let rest' = turns small call true n i test' body' in
        spent_tick i (turned test body rest vs) (turned test' body' rest' vs)
        (turned_both (Spends i) (spent_steps i) (spent_binds i) test test' body body' rest rest'
        (λ ws. within n i (test ws) (test' ws) below (tests ws))
        (λ ws. within n i (body ws) (body' ws) below (bodies ws)) (spent_turns i below) vs)

  spent_body :
      EachCall (Spends n) call call → (f : Function) (us : List Val) →
      Spends n Val (body small true call n f us) (body small true call n f us)
  spent_body called =
      body_done (Spends n) (spent_steps n) (spent_binds n) small small (spent_ticks n small) call call called
      true true n n (spent_catches n) (spent_enters n) spent_forks
      (λ test test' body body' tests bodies. spent_turns test test' body body' tests bodies n (omega arith))

module _ (small : Bool) where
  spent_function :
      (call : Caller) (n : ℕ) → EachCall (Spends n) call call → (o : Option Function) (us : List Val) (s : Site) →
      Spends (suc n) Val (run_function small true call n o us s) (run_function small true call n o us s)
  spent_function call n called None us s = spent_steps (suc n) Val (pure zero_value) (pure_step zero_value)
  spent_function call n called (Some f) us s =
      let d = body small true call n f us in spent_entry n s d d (spent_body small call n called f us)

  pub spent_calls : (p : Program) (n : ℕ) → EachCall (Spends n) (calls small true p n) (calls small true p n)
  spent_calls p zero f us s = spent_going Val
  spent_calls p (suc n) f us s = spent_function (calls small true p n) n (spent_calls p n) (slice_get p f) us s

-- ---- whole programs

pub spent_run : (p : Program) (main : ℕ) (args : List ℤ) (k : ℕ) → Left k (run p main args k)
spent_run p main args k =
    let call = calls true true p k in
    let f = main_or (slice_get p main) in
    let us = map Num args in
    let d = body true true call k f us in
    spent_activation k Here d d (spent_body true call k (spent_calls true p k) f us) root k (omega arith)
