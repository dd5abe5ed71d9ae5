-- Branches of parallel sequences, and `forall`s.
use Rattle.std.proofs.Common.{◌≡◌, refl, sym, ap, ◌∙◌, subst, ℕ, suc, ◌+◌, ◌≤◌, Bool, true, false, if◌then◌else◌, List, [], ◌∷◌, ◌++◌, map, length, arith}
use Rattle.ec_base.specs.declared.token.Span.{Span}
use Rattle.ec_simple.specs.declared.form.FuncKind.TheVariants as kind
use Rattle.ec_simple.specs.declared.form.SBranch.{SBranch}
use Rattle.ec_simple.specs.declared.form.SCall.{SCall}
use Rattle.ec_simple.specs.declared.form.SForall.{SForall}
use Rattle.ec_simple.specs.declared.form.SStmt.TheOpen.{SStmt-F, SForall-F}
use Rattle.ec_simple.specs.declared.form.SStmt.TheVariants as s
use Rattle.ec_simple.specs.declared.form.SStmt.{SStmt}
use Rattle.ec_simple.specs.Expressions.{Scope, Low, function_at, low, low_call}
use Rattle.ec_simple.specs.Meaning.{Runs, in_order, of_forall, turns as simple_turns}
use Rattle.ec_simple.specs.Sound.{IsIn, SoundCall, SoundStmt}
use Rattle.ec_simple.specs.Statements.{LowStmt, LowBranches, low_stmt, low_call_branch, outlined_branch, outlined_call, inside, own, low_assignment, forall_loop, is_counted, loop_variable}
use Rattle.ec_simple.specs.Uses.{assignment_reads, assignment_writes, reads, declares}
use Rattle.ec_simple.proofs.lockstep.Code.{branch_does, branch_is, forall_is, header_is}
use Rattle.ec_simple.proofs.lockstep.Functions.{Holds}
use Rattle.ec_simple.proofs.lockstep.Loops.{turns_run}
use Rattle.ec_simple.proofs.lockstep.Outlined.{Means, outlined_runs}
use Rattle.ec_simple.proofs.lockstep.Scopes.{assignment_writes_in}
use Rattle.ec_simple.proofs.lockstep.Stages.{Setting, Stage, did_set, did_then, scope, code_runs, Leaves, numbers_of, value_on, call_on, calls_on, Follows, Calls_as, call_runs, one_on, One_does, Doing}
use Rattle.ec_simple.proofs.lockstep.Statements.{assignment_runs, left_runs}
use Rattle.ec_simple.proofs.lockstep.Together.{Together, together_is, together_map, together_then, together_left, together_right, together_pure, together_fork}
use Rattle.ec_simple.proofs.lockstep.Used.{nowhere}
use Rattle.ec_simple.proofs.lockstep.Variables.{Within, Agrees}
use Rattle.ec_types.specs.Meaning.Branches.{is_call_branch}
use Rattle.ec_types.specs.Meaning.Evaluation.{Caller, value, invoked, assigned, turns, branch, does}
use Rattle.ec_types.specs.Meaning.State.{Core, Does, and_then, going, pure, Vars, set, set_all, ◌>>=◌}
use Rattle.ec_types.specs.Meaning.Tree.{Expr, Called, Exprs, Placing, Invoke, Assignment, SetVar, Stmt, Set, Eval, Forall}
use Rattle.ec_types.specs.Meaning.Values.{Val}

-- what a branch means
abbrev pub branching : Caller → ℕ → Stmt → Bool → Vars → Does Vars
branching call n x b vs =
    if b then does false call true n x vs
    else branch false call true n (does false call true n x vs) vs

-- what a branch becomes
abbrev pub chosen : Scope → Span → Stmt → ℕ → ℕ → Bool → LowBranches
chosen c at x t g b =
    if b then low_call_branch c x t
    else outlined_branch c at x g (low_stmt (inside c [] x) x (length (own c [] x)) (suc g))

-- the result of a function that gives one
gave_one : (b : Bool) (y : ℕ) (v : Val) (vals : List Val) (ws xs : Vars) → b ≡ false →
    vals ≡ (if b then [] else v ∷ []) → xs ≡ set_all (y ∷ []) vals ws → xs ≡ set y v ws
gave_one true y v vals ws xs e i h = nowhere (sym e)
gave_one false y v vals ws xs e i h = h ∙ ap (λ l. set_all (y ∷ []) l ws) i

module _ {here : Setting} where
  abbrev pub Branches_on : Stage here → List SBranch → Vars → Does Vars
  Branches_on z bs =
      in_order here.form.shapes true (calls_on z) z.sn (map (branch_does here.form.shapes true (calls_on z) z.sn) bs)

  -- from values that agree branches follow what is meant
  abbrev pub Follow : (z : Stage here) → ℕ → (Vars → Does Vars) → List SBranch → Type 0
  Follow z t d bs =
      (vs us : Vars) → Agrees z.place z.sc vs us → Together z.may z.k (Leaves z t us) (d vs) (Branches_on z bs us)

  -- ---- one branch

  branch_one : {A : Type 0} {P : A → Vars → Type 0} {d : Does A} (z : Stage here) (before : List SStmt) (c : SCall)
      (us : Vars) →
      Together z.may z.k P d (code_runs z before us >>= call_runs z c) →
      Together z.may z.k P d (Branches_on z (record { before = before; call = c } ∷ []) us)
  branch_one {P = P} {d = d} z before c us h =
      together_is (λ e r. refl) (λ e r. one e r)
      (together_right {P = P} {Q = P} {d = d} {e = code_runs z before us >>= call_runs z c} {g = pure} h
      (λ a b p. together_pure p))
    where
      one : (e : Core) (r : ℕ) → Branches_on z (record { before = before; call = c } ∷ []) us e r
          ≡ ((code_runs z before us >>= call_runs z c) >>= pure) e r
      one e r = ap (λ f. and_then (f us e r) pure) (branch_is here.form.shapes true (calls_on z) z.sn before c)

  -- the result goes to a variable
  set_runs : (z : Stage here) (x : ℕ) (at : Span) (f : ℕ) (es : Exprs) (q : Placing) → IsIn x z.sc →
      SoundCall here.form.shapes (scope z) z.sc (Invoke at f es q) → (function_at (scope z) f).void ≡ false → (t : ℕ) →
      z.v ≤ t →
      Calls_as z (Leaves z t) (λ vs. invoked false here.call (Invoke at f es q) vs >>= (λ v. pure (set x v vs)))
      (low_call (scope z) (Invoke at f es q) t) (z.place x ∷ [])
  set_runs z x at f es q i sound gives t h vs us a =
      together_left (call_on z at f es q sound t h (z.place x ∷ []) vs us a)
      (λ v xs p. together_pure
      (subst (Leaves z t us (set x v vs))
      (sym (gave_one (function_at (scope z) f).void (z.place x) v p.results p.before xs gives p.gives p.set))
      (did_set z.place z.v z.sc t x v v vs us p.before (numbers_of z) i h a p.kept refl)))

  call_branch_runs : (z : Stage here) (x : Stmt) → is_call_branch x ≡ true →
      SoundStmt here.form.shapes (scope z) false z.sc x →
      (t : ℕ) → z.v ≤ t → Follow z t (does false here.call true here.n x) (low_call_branch (scope z) x t).branches
  call_branch_runs z (Set (SetVar at x (Called (Invoke to f es q)))) e sound t h vs us a =
      branch_one z (low_call (scope z) (Invoke to f es q) t).code _ us
      (set_runs z x to f es q sound.0 sound.1.0 sound.1.1 t h vs us a)
  call_branch_runs z (Eval (Invoke at f es q)) e sound t h vs us a =
      branch_one z (low_call (scope z) (Invoke at f es q) t).code _ us (left_runs z at f es q sound t h vs us a)
  call_branch_runs z x e sound t h vs us a = nowhere e

  pub branch_runs : (z : Stage here) (at : Span) (x : Stmt) → SoundStmt here.form.shapes (scope z) false z.sc x →
      Within (declares x) z.ns →
      Means here x → (t g : ℕ) → z.v ≤ t → (b : Bool) → is_call_branch x ≡ b →
      Holds here.form.funcs g (chosen (scope z) at x t g b).funcs →
      Follow z t (branching here.call here.n x b) (chosen (scope z) at x t g b).branches
  branch_runs z at x sound w means t g h true e hold vs us a = call_branch_runs z x e sound t h vs us a
  branch_runs z at x sound w means t g h false e hold vs us a =
      branch_one z [] (outlined_call (scope z) at [] x g) us
      (outlined_runs z [] x sound w (λ y i. nowhere i) means kind.Branch at g hold t vs us a)

  -- ---- foralls: the body is outlined

  abbrev Each_does : Stage here → List SStmt → List Runs
  Each_does z code = map (One_does z) code

  abbrev forall_parts : Stage here → SForall → SForall-F Runs Runs Runs
  forall_parts z f = record {
    at = f.at;
    var = f.var;
    init = Each_does z f.init;
    before = Each_does z f.before;
    test = f.test;
    step = Each_does z f.step;
    body = f.body;
    counted = f.counted;
    reads = f.reads;
    writes = f.writes;
  }

  -- what a `forall` of these parts does
  forall_step : (z : Stage here) (f : SForall) →
      One_does z (s.Forall f)
      ≡ Doing z (SStmt-F.Forall (of_forall here.form.shapes true (calls_on z) z.sn (forall_parts z f)))
  forall_step z f =
      forall_is here.form.shapes true (calls_on z) z.sn f
      ∙ ap (λ r. Doing z (SStmt-F.Forall r))
      (header_is here.form.shapes true (calls_on z) z.sn f.at f.var f.init f.before f.test f.step f.body f.counted f.reads
      f.writes)

  module _ (z : Stage here) (at : Span) (a : Assignment) (test : Expr) (b : Assignment) (x : Stmt)
      (sound : SoundStmt here.form.shapes (scope z) z.may z.sc (Forall at a test b x))
      (within : Within (declares x) z.ns)
      (means : Means here x) (t g : ℕ) (above : z.v ≤ t) where
    abbrev first : LowStmt
    first = low_assignment (scope z) a t

    abbrev t1 : ℕ
    t1 = t + length first.vars

    abbrev tested : Low
    tested = low (scope z) test t1

    abbrev t2 : ℕ
    t2 = t1 + length tested.vars

    abbrev stepped : LowStmt
    stepped = low_assignment (scope z) b t2

    abbrev callee : SCall
    callee = outlined_call (scope z) at (assignment_writes a) x g

    abbrev body : Vars → Does Vars
    body ws = branching here.call here.n x false ws >>= assigned false here.call b

    abbrev simple_body : Vars → Does Vars
    simple_body ws = call_runs z callee ws >>= code_runs z stepped.code

    abbrev whole : Vars → Does Vars
    whole vs = assigned false here.call a vs >>= turns false here.call true here.n here.n (value false here.call test) body

    abbrev simple_whole : Vars → Does Vars
    simple_whole us =
        code_runs z first.code us
        >>= simple_turns here.form.shapes true (calls_on z) z.sn z.sn (code_runs z tested.code) tested.to simple_body

    abbrev Stands_there : Type 0
    Stands_there = Holds here.form.funcs g (low_stmt (scope z) (Forall at a test b x) t g).funcs

    body_runs : Stands_there → (vs us : Vars) → Agrees z.place z.sc vs us →
        Together z.may z.k (Leaves z t2 us) (body vs) (simple_body us)
    body_runs hold vs us ag =
        together_then
        (outlined_runs z (assignment_writes a) x sound.3 within
        (assignment_writes_in here.form.shapes (scope z) z.sc a sound.0) means kind.Body at g hold t2 vs us ag)
        (λ ws xs did. together_map (λ ys zs e. did_then z.place z.v z.sc t2 t2 us ws xs ys zs (omega arith) did e)
        (assignment_runs z b sound.2 t2 (omega (arith, above)) ws xs did.agrees))

    header_runs : Stands_there → (vs us : Vars) → Agrees z.place z.sc vs us →
        Together z.may z.k (Leaves z t us) (whole vs) (simple_whole us)
    header_runs hold vs us ag =
        together_then (assignment_runs z a sound.0 t above vs us ag)
        (λ ws xs did. together_map (λ ys zs e. did_then z.place z.v z.sc t t1 us ws xs ys zs (omega arith) did e)
        (turns_run here.form.shapes here.call here.n (calls_on z) z.sn z.k z.may z.place z.v z.sc
        (numbers_of z) t1 t2 tested.to (omega (arith, above)) (omega arith)
        (value false here.call test) body (code_runs z tested.code) simple_body
        (value_on z test sound.1 t1 (omega (arith, above))) (body_runs hold)
        here.n z.sn z.k (let k = z.most in let m = here.most in omega (arith, k, m)) z.room
        (omega arith) ws xs did.agrees))

    pub forall_runs : Stands_there →
        Follows z (Leaves z t) (does false here.call true here.n (Forall at a test b x))
        (low_stmt (scope z) (Forall at a test b x) t g).code
    forall_runs hold vs us ag =
        let f = forall_loop (scope z) at (loop_variable a) first tested stepped callee (is_counted a test b)
        (assignment_reads a ++ reads test ++ assignment_reads b) (assignment_writes a ++ assignment_writes b) in
        one_on z (s.Forall f) (SStmt-F.Forall (of_forall here.form.shapes true (calls_on z) z.sn (forall_parts z f))) us
        (forall_step z f)
        (together_fork {f = whole vs} {g = simple_whole us}
        false here.call true here.n true (λ f us s. going) true z.sn (header_runs hold vs us ag))
