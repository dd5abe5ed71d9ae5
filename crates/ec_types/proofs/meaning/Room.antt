-- Room for calls and turns doesn't matter where there are no more ticks than there is room.
use Rattle.std.proofs.Common.{◌≡◌, refl, sym, ap, ◌∙◌, subst, ℕ, zero, suc, ◌≤◌, arith, Bool, true, false, if◌then◌else◌, List, [], ◌∷◌, Option, Some, None, slice_get}
use Rattle.ec_types.specs.Meaning.Values.{Val, Null, zero_value}
use Rattle.ec_types.specs.Meaning.State.{Site, Core, Out, Does, With, Returns, Traps, Going, and_then, pure, spend, inner, outer, opened, activate, enter, Vars, set, set_all, unset}
use Rattle.ec_types.specs.Meaning.Memory.{load, born}
use Rattle.ec_types.specs.Meaning.Tree as t
use Rattle.ec_types.specs.Meaning.Tree.{Function}
use Rattle.ec_types.specs.Meaning.Evaluation.{Caller, value, place, given, declared, all_declared, turns, does, all, forked, fork, Program, body, run_function, calls}
use Rattle.ec_types.proofs.meaning.Steps.{pure_step, born_step}
use Rattle.ec_types.proofs.meaning.Relations.{caught, turned, Each, Steps, Binds, Catches, Ticks, Enters}
use Rattle.ec_types.proofs.meaning.Closed.{turned_both, body_done}
use Rattle.ec_types.proofs.meaning.Spent.{Left, Spends, spent_steps, spent_binds, spent_catches, spent_tick, spent_entry, spent_forks}

-- within k ticks both do the same, and make no ticks
pub record Same (k : ℕ) (A : Type 0) (d e : Does A) : Type 0 where
  pub left : Spends k A d e
  pub same : (c : Core) (r : ℕ) → r ≤ k → d c r ≡ e c r

lefts : {k : ℕ} {A B : Type 0} {f g : A → Does B} → Each (Same k) A B f g → Each (Spends k) A B f g
lefts h a = (h a).left

pub same_spent : (k : ℕ) (A : Type 0) (d : Does A) → Spends k A d d → Same k A d d
same_spent k A d h = record { left = h; same = λ c r l. refl }

pub same_below : (n k : ℕ) (A : Type 0) (d e : Does A) → k ≤ n → Same n A d e → Same k A d e
same_below n k A d e l h = record {
  left = λ c r m. h.left c r (omega (arith, l, m));
  same = λ c r m. h.same c r (omega (arith, l, m));
}

-- ---- ticks and activations: there can be one tick more

same_tick : {A : Type 0} (k : ℕ) (d e : Does A) → Same k A d e → Same (suc k) A (spend d) (spend e)
same_tick k d e h = record { left = spent_tick k d e h.left; same = ticked }
  where
    ticked : (c : Core) (r : ℕ) → r ≤ suc k → spend d c r ≡ spend e c r
    ticked c zero l = refl
    ticked c (suc r) l = h.same c r (omega (arith, l))

same_entry :
    {A : Type 0} (k : ℕ) (s : Site) (d e : Does A) → Same k A d e → Same (suc k) A (enter true s d) (enter true s e)
same_entry k s d e h = record {
  left = spent_entry k s d e h.left;
  same = λ c r l. ap (outer c) (entered.same (inner c) r l);
}
  where
    inside : Same k _ (λ c r. d (opened s c) r) (λ c r. e (opened s c) r)
    inside = record { left = λ c r l. h.left (opened s c) r l; same = λ c r l. h.same (opened s c) r l }

    entered : Same (suc k) _ (activate true s d) (activate true s e)
    entered = same_tick k (λ c r. d (opened s c) r) (λ c r. e (opened s c) r) inside

-- ---- what is closed under the words of meanings

module _ (k : ℕ) where
  pub same_steps : Steps (Same k)
  same_steps A d s = same_spent k A d (spent_steps k A d s)

  same_then :
      {A B : Type 0} (j : ℕ) (x : Out A) (f g : A → Does B) → j ≤ k → Left j x → Each (Same k) A B f g →
      and_then x f ≡ and_then x g
  same_then j (With a, c, r) f g l m h = (h a).same c r (omega (arith, l, m))
  same_then j (Returns v, c, r) f g l m h = refl
  same_then j (Traps t, c, r) f g l m h = refl
  same_then j (Going, c, r) f g l m h = refl

  pub same_binds : Binds (Same k)
  same_binds A B d e f g h i = record {
    left = spent_binds k A B d e f g h.left (λ a. (i a).left);
    same = λ c r l. same_then r (d c r) f g l (h.left c r l) i ∙ ap (λ x. and_then x g) (h.same c r l);
  }

  same_catches : Catches (Same k)
  same_catches A B f g d e h = record {
    left = spent_catches k A B f g d e h.left;
    same = λ c r l. ap (caught f g) (h.same c r l);
  }

  same_ticks : (b : Bool) → Ticks (Same k) b b
  same_ticks false A d e h = h
  same_ticks true A d e h = same_below (suc k) k A (spend d) (spend e) (omega arith) (same_tick k d e h)

  same_enters : Enters (Same k) true true
  same_enters s A d e h =
      same_below (suc k) k A (enter true s d) (enter true s e) (omega arith) (same_entry k s d e h)

-- ---- without ticks

same_without :
    (A : Type 0) (d e : Does A) → ((c : Core) → Left zero (d c zero)) → ((c : Core) → d c zero ≡ e c zero) →
    Same 0 A d e
same_without A d e l h = record { left = lefts_at; same = same_at }
  where
    lefts_at : (c : Core) (r : ℕ) → r ≤ 0 → Left r (d c r)
    lefts_at c zero m = l c
    lefts_at c (suc r) m = absurd (omega (arith, m))

    same_at : (c : Core) (r : ℕ) → r ≤ 0 → d c r ≡ e c r
    same_at c zero m = h c
    same_at c (suc r) m = absurd (omega (arith, m))

-- what begins with a tick goes on at once
abbrev pub Idle : {A : Type 0} → Does A → Type 0
Idle d = (c : Core) → d c zero ≡ (Going, c, zero)

same_idle : (A : Type 0) (d e : Does A) → Idle d → Idle e → Same 0 A d e
same_idle A d e h i =
    same_without A d e (λ c. subst (Left zero) (sym (h c)) refl) (λ c. h c ∙ sym (i c))

module _ (call : Caller) where
  idle_place : (p : t.Place) (vs : Vars) → Idle (place true call p vs)
  idle_place (t.Element at size base index) vs c = refl
  idle_place (t.Behind at size f base) vs c = refl
  idle_place (t.Field at f p) vs c = refl
  idle_place (t.Item at p index) vs c = refl

  idle_value : (e : t.Expr) (vs : Vars) → Idle (value true call e vs)
  idle_value (t.Number at n) vs c = refl
  idle_value (t.Nil at) vs c = refl
  idle_value (t.Var at x) vs c = refl
  idle_value (t.Unary at op a) vs c = refl
  idle_value (t.Binary at op a b) vs c = refl
  idle_value (t.And at a b) vs c = refl
  idle_value (t.Or at a b) vs c = refl
  idle_value (t.Load pointer p) vs c = ap (λ x. and_then x load) (idle_place p vs c)
  idle_value (t.Called i) vs c = refl
  idle_value (t.New at shape element count) vs c = refl
  idle_value (t.ValueOf at a) vs c = refl

  module _ (n : ℕ) where
    pub idle_does : (s : t.Stmt) (vs : Vars) → Idle (does true call true n s vs)
    idle_does t.Skip vs c = refl
    idle_does (t.Block ds ss) vs c = refl
    idle_does (t.Par at bs) vs c = refl
    idle_does (t.If e s z) vs c = refl
    idle_does (t.While e s) vs c = refl
    idle_does (t.For at a e b s) vs c = refl
    idle_does (t.Forall at a e b s) vs c = refl
    idle_does (t.Set a) vs c = refl
    idle_does (t.Eval i) vs c = refl
    idle_does (t.WriteTo at p e) vs c = refl
    idle_does (t.AddTo at p e) vs c = refl
    idle_does (t.Print string es) vs c = refl
    idle_does (t.Return e) vs c = refl

    idle_turns :
        (i : ℕ) (test : Vars → Does Val) (body : Vars → Does Vars) (vs : Vars) →
        Idle (turns true call true n i test body vs)
    idle_turns zero test body vs c = refl
    idle_turns (suc i) test body vs c = refl

-- without ticks a function calls none
module _ (call call' : Caller) (n n' : ℕ) where
  pures : {A : Type 0} (a : A) → Same 0 A (pure a) (pure a)
  pures {A = A} a = same_steps 0 A (pure a) (pure_step a)

  given_without :
      (v : Val) (e : t.Part) (vs : Vars) → Same 0 Val (given true call v e vs) (given true call' v e vs)
  given_without v t.Missing vs = pures v
  given_without v (t.Given e) vs = same_idle Val _ _ (idle_value call e vs) (idle_value call' e vs)

  declared_without : (d : t.Decl) (vs : Vars) → Same 0 Vars (declared true call d vs) (declared true call' d vs)
  declared_without (t.Plain x v e) vs =
      same_binds 0 Val Vars _ _ _ _ (given_without v e (set x v vs)) (λ w. pures (set x w vs))
  declared_without (t.Shared x) vs =
      let cells = zero_value ∷ [] in
      same_binds 0 Val Vars _ _ _ _ (same_steps 0 Val (born cells) (born_step cells)) (λ p. pures (set x p vs))

  all_declared_without :
      (ds : List t.Decl) (vs : Vars) → Same 0 Vars (all_declared true call ds vs) (all_declared true call' ds vs)
  all_declared_without [] vs = pures vs
  all_declared_without (d ∷ ds) vs =
      same_binds 0 Vars Vars _ _ _ _ (declared_without d vs) (all_declared_without ds)

  all_without : (ss : t.Stmts) (vs : Vars) → Same 0 Vars (all true call true n ss vs) (all true call' true n' ss vs)
  all_without t.End vs = pures vs
  all_without (t.Then s ss) vs =
      let first = same_idle Vars _ _ (idle_does call n s vs) (idle_does call' n' s vs) in
      same_binds 0 Vars Vars _ _ _ _ first (all_without ss)

  body_without :
      (f : Function) (us : List Val) → Same 0 Val (body true true call n f us) (body true true call' n' f us)
  body_without f us =
      same_catches 0 Vars Val (λ vs. if f.pointer then Null else zero_value) (λ v. v) _ _
      (same_binds 0 Vars Vars _ _ _ _ (all_declared_without f.decls (set_all f.params us unset)) (all_without f.body))

-- ---- constructs and loops

module _ (call call' : Caller) (n n' : ℕ) where
  same_forks :
      (k : ℕ) (d e : Does Vars) → Same k Vars d e → Same k Vars (fork true call true n d) (fork true call' true n' e)
  same_forks k d e h = record {
    left = spent_forks true call k d e h.left;
    same = λ c r l. ap (forked true call true n c.births) (h.same c r l);
  }

  module _ (k : ℕ) (test test' : Vars → Does Val) (body body' : Vars → Does Vars)
      (tests : Each (Same k) Vars Val test test') (bodies : Each (Same k) Vars Vars body body') where
    pub same_turns :
        (j i i' : ℕ) → j ≤ k → j ≤ i → j ≤ i' →
        Each (Same j) Vars Vars (turns true call true n i test body) (turns true call' true n' i' test' body')
    same_turns zero i i' l m m' vs =
        same_idle Vars _ _ (idle_turns call n i test body vs) (idle_turns call' n' i' test' body' vs)
    same_turns (suc j) zero i' l m m' vs = absurd (omega (arith, m))
    same_turns (suc j) (suc i) zero l m m' vs = absurd (omega (arith, m'))
    same_turns (suc j) (suc i) (suc i') l m m' vs =
        let below : j ≤ k = omega (arith, l) in
        let rest = turns true call true n i test body in
        let rest' = turns true call' true n' i' test' body' in
        same_tick j (turned test body rest vs) (turned test' body' rest' vs)
        (turned_both (Same j) (same_steps j) (same_binds j) test test' body body' rest rest'
        (λ ws. same_below k j Val (test ws) (test' ws) below (tests ws))
        (λ ws. same_below k j Vars (body ws) (body' ws) below (bodies ws))
        (same_turns j i i' below (omega (arith, m)) (omega (arith, m'))) vs)

-- ---- functions and calls

-- within no more ticks than either has room
abbrev pub SameBodies : Program → ℕ → ℕ → Type 0
SameBodies p m n =
    (k : ℕ) → k ≤ m → k ≤ n → (f : Function) (us : List Val) →
    Same k Val (body true true (calls true true p m) m f us) (body true true (calls true true p n) n f us)

module _ (p : Program) where
  same_function :
      (m n : ℕ) → SameBodies p m n → (k : ℕ) → k ≤ suc m → k ≤ suc n →
      (o : Option Function) (us : List Val) (s : Site) →
      let call = calls true true p m in
      let call' = calls true true p n in
      Same k Val (run_function true true call m o us s) (run_function true true call' n o us s)
  same_function m n h k l l' None us s = same_steps k Val (pure zero_value) (pure_step zero_value)
  same_function m n h zero l l' (Some f) us s =
      same_below 1 0 Val _ _ (omega arith) (same_entry 0 s _ _ (h 0 (omega arith) (omega arith) f us))
  same_function m n h (suc k) l l' (Some f) us s =
      same_entry k s _ _ (h k (omega (arith, l)) (omega (arith, l')) f us)

  pub same_bodies : (m n : ℕ) → SameBodies p m n
  same_bodies zero n k l l' f us =
      same_below 0 k Val _ _ l (body_without (calls true true p zero) (calls true true p n) zero n f us)
  same_bodies (suc m) zero k l l' f us =
      same_below 0 k Val _ _ l' (body_without (calls true true p (suc m)) (calls true true p zero) (suc m) zero f us)
  same_bodies (suc m) (suc n) k l l' f us =
      let call = calls true true p (suc m) in
      let call' = calls true true p (suc n) in
      body_done (Same k) (same_steps k) (same_binds k) true true (same_ticks k true) call call'
      (λ f us s. same_function m n (same_bodies m n) k l l' (slice_get p f) us s) true true (suc m) (suc n)
      (same_catches k) (same_enters k) (same_forks call call' (suc m) (suc n) k)
      (λ test test' body body' tests bodies.
      same_turns call call' (suc m) (suc n) k test test' body body' tests bodies k (suc m) (suc n) (omega arith) l l')
      f us
