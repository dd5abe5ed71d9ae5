-- Every part of a meaning stays in the activation in which it began, and no fewer activations were open at once.
use Rattle.std.proofs.Common.{◌≡◌, refl, sym, subst, ◌∙◌, ℕ, zero, suc, ◌≤◌, le_refl, le_trans, Bool, true, false, List, Option, Some, None, slice_get}
use Rattle.std.proofs.Math.Nat.{le-max_left}
use Rattle.ec_types.specs.Meaning.Values.{Val, zero_value}
use Rattle.ec_types.specs.Meaning.State.{Site, Core, Out, Does, With, Returns, Traps, Going, and_then, pure, going, spend, depth, inner, opened, activate, Vars}
use Rattle.ec_types.specs.Meaning.Tree.{Function}
use Rattle.ec_types.specs.Meaning.Evaluation.{Caller, turns, forked, fork, Program, body, run_function, calls}
use Rattle.ec_types.proofs.meaning.Steps.{pure_step}
use Rattle.ec_types.proofs.meaning.Relations.{caught, turned, Relation, Each, EachCall, Steps, Binds, Catches, Ticks, Enters}
use Rattle.ec_types.proofs.meaning.Closed.{turned_both, body_done}

pub record Kept (c d : Core) : Type 0 where
  pub path : d.path ≡ c.path
  pub most : c.most ≤ d.most

-- of the two sides only the first is looked at
abbrev pub Keeps : Relation
Keeps A d e = (c : Core) (r : ℕ) → Kept c (d c r).1

kept_refl : (c : Core) → Kept c c
kept_refl c = record { path = refl; most = le_refl c.most }

kept_trans : (c d e : Core) → Kept c d → Kept d e → Kept c e
kept_trans c d e a b = record { path = b.path ∙ a.path; most = le_trans a.most b.most }

kept_going : (A : Type 0) → Keeps A going going
kept_going A c r = kept_refl c

-- ---- steps, one after the other, and what is caught

pub kept_steps : Steps Keeps
kept_steps A d s c r =
    let t = s c in
    subst (λ x. Kept c x.1) (sym (t.is r)) (record { path = t.stays; most = t.grows.most })

kept_then :
    {A B : Type 0} (c : Core) (x : Out A) (f g : A → Does B) → Kept c x.1 → Each Keeps A B f g → Kept c (and_then x f).1
kept_then c (With a, d, r) f g h k = kept_trans c d (f a d r).1 h (k a d r)
kept_then c (Returns v, d, r) f g h k = h
kept_then c (Traps t, d, r) f g h k = h
kept_then c (Going, d, r) f g h k = h

pub kept_binds : Binds Keeps
kept_binds A B d e f g h k c r = kept_then c (d c r) f g (h c r) k

kept_caught : {A B : Type 0} (f : A → B) (g : Val → B) (c : Core) (x : Out A) → Kept c x.1 → Kept c (caught f g x).1
kept_caught f g c (With a, d, r) h = h
kept_caught f g c (Returns v, d, r) h = h
kept_caught f g c (Traps t, d, r) h = h
kept_caught f g c (Going, d, r) h = h

pub kept_catches : Catches Keeps
kept_catches A B f g d e h c r = kept_caught f g c (d c r) (h c r)

-- ---- ticks and activations

kept_spend : {A : Type 0} (d : Does A) (c : Core) (r : ℕ) → ((q : ℕ) → Kept c (d c q).1) → Kept c (spend d c r).1
kept_spend d c zero h = kept_refl c
kept_spend d c (suc r) h = h r

pub kept_ticks : (b : Bool) → Ticks Keeps b b
kept_ticks true A d e h c r = kept_spend d c r (h c)
kept_ticks false A d e h c r = h c r

kept_activates :
    {A : Type 0} (b : Bool) (s : Site) (d : Does A) → Keeps A d d → Keeps A (activate b s d) (activate b s d)
kept_activates b s d h = kept_ticks b _ (λ c r. d (opened s c) r) (λ c r. d (opened s c) r) opens
  where
    opens : Keeps _ (λ c r. d (opened s c) r) (λ c r. d (opened s c) r)
    opens c r =
        let o = opened s c in
        let k = h o r in
        record { path = k.path; most = le_trans (le-max_left c.most (depth c.path)) k.most }

-- back in the activation from which it was entered
pub kept_enters : (b : Bool) → Enters Keeps b b
kept_enters b s A d e h c r =
    let k = kept_activates b s d h (inner c) r in
    record { path = refl; most = k.most }

-- ---- constructs and loops

module _ (small big : Bool) (call : Caller) (n : ℕ) where
  kept_forked : (b : ℕ) (c : Core) (x : Out Vars) → Kept c x.1 → Kept c (forked small call big n b x).1
  kept_forked b c (With vs, d, r) h = record { path = h.path; most = h.most }
  kept_forked b c (Returns v, d, r) h = h
  kept_forked b c (Traps t, d, r) h = h
  kept_forked b c (Going, d, r) h = h

  pub kept_forks : (d e : Does Vars) → Keeps Vars d e → Keeps Vars (fork small call big n d) (fork small call big n e)
  kept_forks d e h c r = kept_forked c.births c (d c r) (h c r)

  module _ (test test' : Vars → Does Val) (body body' : Vars → Does Vars)
      (tests : Each Keeps Vars Val test test') (bodies : Each Keeps Vars Vars body body') where
    pub kept_turns :
        (i : ℕ) → Each Keeps Vars Vars (turns small call big n i test body) (turns small call big n i test' body')
    kept_turns zero vs = kept_going Vars
    kept_turns (suc i) vs =
        let rest = turns small call big n i test body in
        let rest' = turns small call big n i test' body' in
        kept_ticks big Vars (turned test body rest vs) (turned test' body' rest' vs)
        (turned_both Keeps kept_steps kept_binds test test' body body' rest rest' tests bodies (kept_turns i) vs)

  pub kept_body :
      EachCall Keeps call call → (f : Function) (us : List Val) →
      Keeps Val (body small big call n f us) (body small big call n f us)
  kept_body called =
      body_done Keeps kept_steps kept_binds small small (kept_ticks small) call call called big big n n kept_catches
      (kept_enters big) kept_forks
      (λ test test' body body' tests bodies. kept_turns test test' body body' tests bodies n)

-- ---- calls

module _ (small big : Bool) where
  kept_function :
      (call : Caller) (n : ℕ) → EachCall Keeps call call → (o : Option Function) (us : List Val) (s : Site) →
      Keeps Val (run_function small big call n o us s) (run_function small big call n o us s)
  kept_function call n called None us s = kept_steps Val (pure zero_value) (pure_step zero_value)
  kept_function call n called (Some f) us s =
      let d = body small big call n f us in kept_enters big s Val d d (kept_body small big call n called f us)

  pub kept_calls : (p : Program) (n : ℕ) → EachCall Keeps (calls small big p n) (calls small big p n)
  kept_calls p zero f us s = kept_going Val
  kept_calls p (suc n) f us s = kept_function (calls small big p n) n (kept_calls p n) (slice_get p f) us s
