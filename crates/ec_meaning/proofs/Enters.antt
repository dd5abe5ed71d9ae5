-- Steps that enter an activation: a child runs, and the one that runs so far waits for it.
use Rattle.std.proofs.Common.{◌≡◌, sym, ap, ◌∙◌, ℕ, zero, suc, ◌-◌, ◌<◌, arith, Bool, true, false, List, [], ◌∷◌, ◌++◌, length, take, get_or, slice_get, length-append, Option, Some, None}
use Rattle.std.proofs.Math.Seq.{take-append_seam, get_or-append_seam}
use Rattle.ec_types.specs.Meaning.Values.{Path, Val, zero_value}
use Rattle.ec_types.specs.Meaning.State as state
use Rattle.ec_types.specs.Meaning.State.{Core, Out, Does, With, Returns, Traps, Going, and_then, ◌>>=◌, pure, next_path, inner, back_in, outer, opened, enter, Vars, set_all, unset}
use Rattle.ec_types.specs.Meaning.Tree.{Stmt, Function}
use Rattle.ec_types.specs.Meaning.Evaluation.{Caller, Program, all_declared, all, branched, does, result, run_function, calls}
use Rattle.ec_types.proofs.meaning.Keeps.{kept_body, kept_calls}
use Rattle.ec_types.proofs.meaning.Room.{same_bodies}
use Rattle.ec_meaning.specs.Works.{Placement, Work, Enter, Declare, Statement, Statements, Branch, Hand}
use Rattle.ec_meaning.specs.Acts.{top, push, without, replaced, last_values, operands, site, with_vars, keeping, acts, act_all}
use Rattle.ec_meaning.specs.Machine.{Awaits, AwaitsValue, AwaitsVars, Waiting, missing, above, resumed, shown, Turns}
use Rattle.ec_meaning.proofs.Binds.{and_then-pure, then_then, then_pure}
use Rattle.ec_meaning.proofs.Steps.{turns_to, resumed-traps, resumed-going}
use Rattle.ec_meaning.proofs.Keeps.{acts-keeps}

-- ---- back in the activation above

shorter : (p : Path) (b : ℕ) → length (p ++ b ∷ []) - 1 ≡ length p
shorter p b = rw length-append (omega arith)

pub path_above : (p : Path) (b : ℕ) → take (length (p ++ b ∷ []) - 1) (p ++ b ∷ []) ≡ p
path_above p b = ap (λ n. take n (p ++ b ∷ [])) (shorter p b) ∙ take-append_seam p (b ∷ [])

pub birth_above : (p : Path) (b : ℕ) → get_or (p ++ b ∷ []) (length (p ++ b ∷ []) - 1) 0 ≡ b
birth_above p b = ap (λ n. get_or (p ++ b ∷ []) n 0) (shorter p b) ∙ get_or-append_seam p b [] 0

pub above_child : (c d : Core) → d.path ≡ next_path c → back_in c d ≡ above d
above_child c d h =
    let q = next_path c in
    sym
    (ap (λ q. record d { path = take (length q - 1) q; births = get_or q (length q - 1) 0 }) h
    ∙ ap (λ p. record d { path = p; births = get_or q (length q - 1) 0 }) (path_above c.path (suc c.births))
    ∙ ap (λ b. record d { path = c.path; births = b }) (birth_above c.path (suc c.births)))

-- ---- what a child comes to

module _ (p : Program) (n : ℕ) (pointer : Bool) (c : Core) (ws : List Work) (h : Hand) (us : List Waiting) where
  abbrev called : Caller
  called = calls true true p n

  -- the activation goes on from this
  abbrev on_from : Out Hand → Out Val
  on_from x = shown (resumed p n pointer us (and_then x (act_all called n ws)))

  -- it waits for a child that comes to this
  abbrev waits_for : Awaits → Out Hand → Out Val
  waits_for awaits x = shown (resumed p n pointer (record { awaits = awaits; works = ws; hand = h } ∷ us) x)

  back_above :
      (k : Hand) (d : Core) (r : ℕ) → d.path ≡ next_path c →
      on_from (With k, back_in c d, r) ≡ shown (resumed p n pointer us (act_all called n ws k (above d) r))
  back_above k d r e = ap (λ a. on_from (With k, a, r)) (above_child c d e)

  value_back :
      (gives : Bool) (child : Hand) (x : Out Vars) → (result gives x).1.path ≡ next_path c →
      on_from (and_then (outer c (result gives x)) (λ v. pure (push v h)))
      ≡ waits_for (AwaitsValue gives) (and_then x (λ vs. pure (with_vars vs child)))
  value_back gives child (With vs, d, r) e = back_above (push (missing gives) h) d r e
  value_back gives child (Returns v, d, r) e = back_above (push v h) d r e
  value_back gives child (Traps t, d, r) e = ap shown (resumed-traps p n pointer us t (back_in c d) r)
  value_back gives child (Going, d, r) e = ap shown (resumed-going p n pointer us (back_in c d) r)

  vars_back :
      (child : Hand) (x : Out Vars) → (and_then x (λ vs. pure (with_vars vs child))).1.path ≡ next_path c →
      on_from (and_then (outer c (branched true called true n h.vars x)) (λ vs. pure (with_vars vs h)))
      ≡ waits_for AwaitsVars (and_then x (λ vs. pure (with_vars vs child)))
  vars_back child (With vs, d, r) e = back_above (with_vars vs h) d r e
  vars_back child (Returns v, d, r) e = back_above h d r e
  vars_back child (Traps t, d, r) e = ap shown (resumed-traps p n pointer us t (back_in c d) r)
  vars_back child (Going, d, r) e = ap shown (resumed-going p n pointer us (back_in c d) r)

-- ---- branches

pub branches :
    (p : Program) (pointer : Bool) (s : Stmt) (h : Hand) (ws : List Work) (us : List Waiting) (c : Core) →
    Turns p pointer true (record { works = Branch s ∷ ws; hand = h; waiting = us; core = c })
    (record {
      works = Statement s ∷ [];
      hand = record { values = []; accesses = []; vars = h.vars };
      waiting = record { awaits = AwaitsVars; works = ws; hand = h } ∷ us;
      core = opened state.Here (inner c);
    })
branches p pointer s h ws us c n r l =
    let call = calls true true p n in
    let child : Hand = record { values = []; accesses = []; vars = h.vars } in
    let d = opened state.Here (inner c) in
    let stays = (acts-keeps p n (Statement s) child d r).path in
    vars_back p n pointer c ws h us child (does true call true n s h.vars d r) stays
    ∙ ap (waits_for p n pointer c ws h us AwaitsVars) (sym (and_then-pure (acts call n (Statement s) child d r)))

-- ---- calls of functions

module _ (call : Caller) (n : ℕ) where
  -- the body of a function, from the variables that are set
  pub body_acts :
      (g : Function) (h : Hand) →
      keeping call n h (all_declared true call g.decls h.vars >>= all true call true n g.body)
      ≡ act_all call n (Declare g.decls ∷ Statements g.body ∷ []) h
  body_acts g h = simp (then_then, then_pure)

pub enters :
    (p : Program) (pointer : Bool) (kind : Placement) (f k : ℕ) (g : Function) (h : Hand) (ws : List Work)
    (us : List Waiting) (c : Core) → slice_get p f ≡ Some g →
    let args = without (operands kind) h in
    Turns p pointer true (record { works = Enter kind f k ∷ ws; hand = h; waiting = us; core = c })
    (record {
      works = Declare g.decls ∷ Statements g.body ∷ [];
      hand = record { values = []; accesses = []; vars = set_all g.params (last_values k args) unset };
      waiting = record { awaits = AwaitsValue g.pointer; works = ws; hand = without k args } ∷ us;
      core = opened (site kind (top h)) (inner c);
    })
enters p pointer kind f k g h ws us c e zero r l = absurd (omega (arith, l))
enters p pointer kind f k g h ws us c e (suc n) r l =
    let call = calls true true p (suc n) in
    let values = last_values k (without (operands kind) h) in
    let rest = without k (without (operands kind) h) in
    let s = site kind (top h) in
    let d = opened s (inner c) in
    let child : Hand = record { values = []; accesses = []; vars = set_all g.params values unset } in
    let room = same_bodies p n (suc n) n (omega arith) (omega arith) g values in
    let stays = (kept_body true true call (suc n) (kept_calls true true p (suc n)) g values d r).path in
    let on : Out Val → Out Val = λ x. on_from p (suc n) pointer c ws rest us (and_then x (λ v. pure (push v rest))) in
    ap (λ o. on (run_function true true (calls true true p n) n o values s c (suc r))) e
    ∙ ap (λ x. on (outer c x)) (room.same d r (omega (arith, l)))
    ∙ value_back p (suc n) pointer c ws rest us g.pointer child
    ((all_declared true call g.decls child.vars >>= all true call true (suc n) g.body) d r) stays
    ∙ ap (λ (a : Does Hand). waits_for p (suc n) pointer c ws rest us (AwaitsValue g.pointer) (a d r))
    (body_acts call (suc n) g child)

-- what is no function is 0
pub enters_none :
    (p : Program) (pointer : Bool) (kind : Placement) (f k : ℕ) (h : Hand) (ws : List Work) (us : List Waiting)
    (c : Core) → slice_get p f ≡ None →
    Turns p pointer false (record { works = Enter kind f k ∷ ws; hand = h; waiting = us; core = c })
    (record { works = ws; hand = replaced k zero_value (without (operands kind) h); waiting = us; core = c })
enters_none p pointer kind f k h ws us c e =
    let new = replaced k zero_value (without (operands kind) h) in
    turns_to p pointer false (Enter kind f k) h new [] ws us c c gives_zero
  where
    gives_zero :
        (n r : ℕ) → r < n →
        acts (calls true true p n) n (Enter kind f k) h c r
        ≡ (With (replaced k zero_value (without (operands kind) h)), c, r)
    gives_zero zero r l = absurd (omega (arith, l))
    gives_zero (suc n) r l =
        let args = without (operands kind) h in
        let called : Option Function → Out Val =
        λ o. run_function true true (calls true true p n) n o (last_values k args) (site kind (top h)) c r in
        ap (λ o. and_then (called o) (λ v. pure (replaced k v args))) e
