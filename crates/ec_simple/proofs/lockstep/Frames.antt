-- A statement changes no variable but those that it writes or declares.
use Rattle.std.proofs.Common.{◌≡◌, refl, sym, ◌∙◌, ℕ, zero, suc, Bool, true, false, if◌then◌else◌, List, [], ◌∷◌, ◌++◌, map, Option, Some, None, pos}
use Rattle.ec_base.specs.Format.{formatted}
use Rattle.ec_simple.specs.Sound.{IsIn, IsNew}
use Rattle.ec_simple.specs.Uses.{Use, assignment_writes, of_some, declared, stmt_writes, else_writes, stmts_writes, declares, else_declares, all_declare}
use Rattle.ec_simple.proofs.lockstep.Alike.{Alike, set_other}
use Rattle.ec_simple.proofs.lockstep.Together.{Together}
use Rattle.ec_simple.proofs.lockstep.Used.{IsUsed, used_front, used_back}
use Rattle.ec_simple.proofs.lockstep.Variables.{Within, in_head, in_tail, in_front, in_back, other}
use Rattle.ec_types.specs.Meaning.Branches.{is_call_branch}
use Rattle.ec_types.specs.Meaning.Evaluation.{Caller, value, given, place, invoked, values, assigned, optional, declared as declaring, all_declared, turns, forked, branched, branch, does, otherwise, all, branches, print}
use Rattle.ec_types.specs.Meaning.Memory.{save, copy, shared, add, born}
use Rattle.ec_types.specs.Meaning.State.{Here, Core, With, Returns, Traps, Going, Out, Does, and_then, ◌>>=◌, pure, give_back, spend, outer, opened, inner, Vars, set, activate}
use Rattle.ec_types.specs.Meaning.Tree.{Assignment, SetVar, Store, Copy, Decl, Plain, Shared, Stmt, Skip, Block, Par, If, While, For, Forall, Set, Eval, WriteTo, AddTo, Print, Return, Else, NoElse, Otherwise, Stmts, End, Then}
use Rattle.ec_types.specs.Meaning.Values.{Val, Num, holds, number, zero_value}

-- only variables of the list differ
abbrev pub Same : List ℕ → Vars → Vars → Type 0
Same ou vs ws = (x : ℕ) → IsNew x ou → ws x ≡ vs x

abbrev pub Stays : List ℕ → Vars → Out Vars → Type 0
Stays ou vs (With ws, c, r) = Same ou vs ws
Stays ou vs (Returns v, c, r) = Unit {0}
Stays ou vs (Traps t, c, r) = Unit {0}
Stays ou vs (Going, c, r) = Unit {0}

-- what is alike is so with what stays
pub alike_staying : (may : Bool) (P : Vars → Vars → Type 0) (k : ℕ) (ou : List ℕ) (vs : Vars) (x y : Out Vars) →
    Alike may P k x y → Stays ou vs x → Alike may (λ ws us. P ws us × Same ou vs ws) k x y
alike_staying may P k ou vs (With a, c, r) (With b, d, q) s h = (s.0, (s.1, h))
alike_staying may P k ou vs (Returns v, c, r) (Returns w, d, q) s h = s
alike_staying may P k ou vs (Traps t, c, r) (Traps u, d, q) s h = s
alike_staying may P k ou vs (Going, c, r) (Going, d, q) s h = s
alike_staying may P k ou vs x y s h = absurd s

pub together_staying : (may : Bool) (P : Vars → Vars → Type 0) (k : ℕ) (ou : List ℕ) (vs : Vars) (d e : Does Vars) →
    Together may k P d e → ((c : Core) (r : ℕ) → Stays ou vs (d c r)) →
    Together may k (λ ws us. P ws us × Same ou vs ws) d e
together_staying may P k ou vs d e s h =
    record { is = λ c r l. alike_staying may P r ou vs (d c r) (e c r) (s.is c r l) (h c r) }

module _ (ou : List ℕ) where
  same_both : (us vs ws : Vars) → Same ou us vs → Same ou vs ws → Same ou us ws
  same_both us vs ws h k x n = k x n ∙ h x n

  same_set : (x : ℕ) (v : Val) (vs : Vars) → IsIn x ou → Same ou vs (set x v vs)
  same_set x v vs i y n = set_other x y v vs (λ e. other x y ou i n (sym e))

  stays_from : (us vs : Vars) (x : Out Vars) → Same ou us vs → Stays ou vs x → Stays ou us x
  stays_from us vs (With ws, c, r) h s = same_both us vs ws h s
  stays_from us vs (Returns v, c, r) h s = tt
  stays_from us vs (Traps t, c, r) h s = tt
  stays_from us vs (Going, c, r) h s = tt

  stays_then : (vs : Vars) (x : Out Vars) (f : Vars → Does Vars) → Stays ou vs x →
      ((ws : Vars) (c : Core) (r : ℕ) → Stays ou ws (f ws c r)) → Stays ou vs (and_then x f)
  stays_then vs (With ws, c, r) f s h = stays_from vs ws (f ws c r) s (h ws c r)
  stays_then vs (Returns v, c, r) f s h = tt
  stays_then vs (Traps t, c, r) f s h = tt
  stays_then vs (Going, c, r) f s h = tt

  -- behind what changes no variable
  behind : {A : Type 0} (vs : Vars) (x : Out A) (f : A → Does Vars) →
      ((a : A) (c : Core) (r : ℕ) → Stays ou vs (f a c r)) → Stays ou vs (and_then x f)
  behind vs (With a, c, r) f h = h a c r
  behind vs (Returns v, c, r) f h = tt
  behind vs (Traps t, c, r) f h = tt
  behind vs (Going, c, r) f h = tt

  -- and nothing more
  left : {A : Type 0} (vs : Vars) (x : Out A) → Stays ou vs (and_then x (λ a. pure vs))
  left vs x = behind vs x (λ a. pure vs) (λ a c r y n. refl)

  stays_outer : (vs : Vars) (c : Core) (x : Out Vars) → Stays ou vs x → Stays ou vs (outer c x)
  stays_outer vs c (With ws, d, r) s = s
  stays_outer vs c (Returns v, d, r) s = tt
  stays_outer vs c (Traps t, d, r) s = tt
  stays_outer vs c (Going, d, r) s = tt

  stays_spend : (vs : Vars) (d : Does Vars) (c : Core) (r : ℕ) → ((q : ℕ) → Stays ou vs (d c q)) →
      Stays ou vs (spend d c r)
  stays_spend vs d c zero h = tt
  stays_spend vs d c (suc r) h = h r

  stays_if : (vs : Vars) (b : Bool) (f g : Does Vars) (c : Core) (r : ℕ) → Stays ou vs (f c r) → Stays ou vs (g c r) →
      Stays ou vs ((if b then f else g) c r)
  stays_if vs true f g c r h k = h
  stays_if vs false f g c r h k = k

  module _ (call : Caller) (n : ℕ) where
    abbrev Does_stay : (Vars → Does Vars) → Type 0
    Does_stay d = (vs : Vars) (c : Core) (r : ℕ) → Stays ou vs (d vs c r)

    turns_stay : (m : ℕ) (test : Vars → Does Val) (body : Vars → Does Vars) → Does_stay body →
        Does_stay (turns false call true n m test body)
    turns_stay zero test body h vs c r = tt
    turns_stay (suc m) test body h vs c r =
        let more = turns false call true n m test body in
        stays_spend vs (test vs >>= (λ v. if holds v then (body vs >>= more) else pure vs)) c r
        (λ q. behind vs (test vs c q) (λ v. if holds v then (body vs >>= more) else pure vs)
        (λ v d p. stays_if vs (holds v) (body vs >>= more) (pure vs) d p
        (stays_then vs (body vs d p) more (h vs d p) (λ ws e o. turns_stay m test body h ws e o))
        (λ x i. refl)))

    forked_stay : (m : ℕ) (vs : Vars) (x : Out Vars) → Stays ou vs x → Stays ou vs (forked false call true n m x)
    forked_stay m vs (With ws, c, r) s = s
    forked_stay m vs (Returns v, c, r) s = tt
    forked_stay m vs (Traps t, c, r) s = tt
    forked_stay m vs (Going, c, r) s = tt

    branched_stay : (vs : Vars) (x : Out Vars) → Stays ou vs x → Stays ou vs (branched false call true n vs x)
    branched_stay vs (With ws, c, r) s = s
    branched_stay vs (Returns v, c, r) s = λ x i. refl
    branched_stay vs (Traps t, c, r) s = tt
    branched_stay vs (Going, c, r) s = tt

    branch_stays : (d : Vars → Does Vars) → Does_stay d → Does_stay (λ vs. branch false call true n (d vs) vs)
    branch_stays d h vs c r =
        stays_outer vs c (activate true Here (λ e q. branched false call true n vs (d vs e q)) (inner c) r)
        (stays_spend vs (λ e q. branched false call true n vs (d vs (opened Here e) q)) (inner c) r
        (λ q. branched_stay vs (d vs (opened Here (inner c)) q) (h vs (opened Here (inner c)) q)))

    -- ---- assignments and declarations

    abbrev Writes : List Use → Type 0
    Writes us = (x : ℕ) → IsUsed x us → IsIn x ou

    assigned_stays : (a : Assignment) → Writes (assignment_writes a) → Does_stay (assigned false call a)
    assigned_stays (SetVar at x e) w vs c r =
        behind vs (value false call e vs c r) (λ v. pure (set x v vs))
        (λ v d q. same_set x v vs (w x (in_head x x [] refl)))
    assigned_stays (Store p e) w vs c r =
        behind vs (place false call p vs c r) (λ a. value false call e vs >>= (λ v. save a v >>= (λ u. pure vs)))
        (λ a d q. behind vs (value false call e vs d q) (λ v. save a v >>= (λ u. pure vs))
        (λ v f o. left vs (save a v f o)))
    assigned_stays (Copy p s) w vs c r =
        behind vs (place false call p vs c r) (λ a. place false call s vs >>= (λ b. copy a b >>= (λ u. pure vs)))
        (λ a d q. behind vs (place false call s vs d q) (λ b. copy a b >>= (λ u. pure vs))
        (λ b f o. left vs (copy a b f o)))

    optional_stays : (a : Option Assignment) → Writes (of_some assignment_writes a) → Does_stay (optional false call a)
    optional_stays None w vs c r = λ x n. refl
    optional_stays (Some a) w vs c r = assigned_stays a w vs c r

    declared_stays : (d : Decl) → IsIn (declared d) ou → Does_stay (declaring false call d)
    declared_stays (Plain x v init) i vs c r =
        behind vs (given false call v init (set x v vs) c r) (λ w. pure (set x w vs)) (λ w d q. same_set x w vs i)
    declared_stays (Shared x) i vs c r =
        behind vs (born (zero_value ∷ []) c r) (λ p. pure (set x p vs)) (λ p d q. same_set x p vs i)

    all_declared_stay : (ds : List Decl) → Within (map declared ds) ou → Does_stay (all_declared false call ds)
    all_declared_stay [] w vs c r = λ x n. refl
    all_declared_stay (d ∷ ds) w vs c r =
        stays_then vs (declaring false call d vs c r) (all_declared false call ds)
        (declared_stays d (w (declared d) (in_head (declared d) (declared d) (map declared ds) refl)) vs c r)
        (λ ws e q. all_declared_stay ds (λ x i. w x (in_tail x (declared d) (map declared ds) i)) ws e q)

    -- ---- statements

    writes_front : (us ws : List Use) → Writes (us ++ ws) → Writes us
    writes_front us ws w x i = w x (used_front x us ws i)

    writes_back : (us ws : List Use) → Writes (us ++ ws) → Writes ws
    writes_back us ws w x i = w x (used_back x us ws i)

    within_front : (a b : List ℕ) → Within (a ++ b) ou → Within a ou
    within_front a b w x i = w x (in_front x a b i)

    within_back : (a b : List ℕ) → Within (a ++ b) ou → Within b ou
    within_back a b w x i = w x (in_back x a b i)

    mutual
      pub does_stay : (s : Stmt) → Within (declares s) ou → Writes (stmt_writes s) →
          Does_stay (does false call true n s)
      does_stay Skip d w vs c r = λ x i. refl
      does_stay (Block ds ss) d w vs c r =
          stays_then vs (all_declared false call ds vs c r) (all false call true n ss)
          (all_declared_stay ds (within_front (map declared ds) (all_declare ss) d) vs c r)
          (all_stay ss (within_back (map declared ds) (all_declare ss) d) w)
      does_stay (Par at bs) d w vs c r =
          forked_stay c.births vs (branches false call true n bs vs c r) (branches_stay bs d w vs c r)
      does_stay (If e s z) d w vs c r =
          behind vs (value false call e vs c r)
          (λ v. if holds v then does false call true n s vs else otherwise false call true n z vs)
          (λ v f q. stays_if vs (holds v) (does false call true n s vs) (otherwise false call true n z vs) f q
          (does_stay s (within_front (declares s) (else_declares z) d)
          (writes_front (stmt_writes s) (else_writes z) w) vs f q)
          (otherwise_stays z (within_back (declares s) (else_declares z) d)
          (writes_back (stmt_writes s) (else_writes z) w) vs f q))
      does_stay (While e s) d w vs c r =
          turns_stay n (value false call e) (does false call true n s) (does_stay s d w) vs c r
      does_stay (For at a e b s) d w vs c r =
          let w' = writes_back (of_some assignment_writes a) (of_some assignment_writes b ++ stmt_writes s) w in
          let body : Vars → Does Vars = λ ws. does false call true n s ws >>= optional false call b in
          stays_then vs (optional false call a vs c r)
          (turns false call true n n (given false call (Num (pos 1)) e) body)
          (optional_stays a (writes_front (of_some assignment_writes a)
          (of_some assignment_writes b ++ stmt_writes s) w) vs c r)
          (turns_stay n (given false call (Num (pos 1)) e) body
          (λ ws f q. stays_then ws (does false call true n s ws f q) (optional false call b)
          (does_stay s d (writes_back (of_some assignment_writes b) (stmt_writes s) w') ws f q)
          (optional_stays b (writes_front (of_some assignment_writes b) (stmt_writes s) w'))))
      does_stay (Forall at a e b s) d w vs c r =
          let w' = writes_back (assignment_writes a) (assignment_writes b ++ stmt_writes s) w in
          let body : Vars → Does Vars =
          λ ws. branch false call true n (does false call true n s ws) ws >>= assigned false call b in
          forked_stay c.births vs ((assigned false call a vs >>= turns false call true n n
          (value false call e) body) c r)
          (stays_then vs (assigned false call a vs c r) (turns false call true n n (value false call e) body)
          (assigned_stays a (writes_front (assignment_writes a) (assignment_writes b ++ stmt_writes s) w) vs c r)
          (turns_stay n (value false call e) body
          (λ ws f q. stays_then ws (branch false call true n (does false call true n s ws) ws f q)
          (assigned false call b)
          (branch_stays (does false call true n s)
          (does_stay s d (writes_back (assignment_writes b) (stmt_writes s) w')) ws f q)
          (assigned_stays b (writes_front (assignment_writes b) (stmt_writes s) w')))))
      does_stay (Set a) d w vs c r = assigned_stays a w vs c r
      does_stay (Eval i) d w vs c r = left vs (invoked false call i vs c r)
      does_stay (WriteTo at p e) d w vs c r =
          behind vs (value false call p vs c r)
          (λ a. value false call e vs >>= (λ v. save (shared at a) v >>= (λ u. pure vs)))
          (λ a f q. behind vs (value false call e vs f q) (λ v. save (shared at a) v >>= (λ u. pure vs))
          (λ v g o. left vs (save (shared at a) v g o)))
      does_stay (AddTo at p e) d w vs c r =
          behind vs (value false call p vs c r) (λ a. value false call e vs >>= (λ v. add at a v >>= (λ u. pure vs)))
          (λ a f q. behind vs (value false call e vs f q) (λ v. add at a v >>= (λ u. pure vs))
          (λ v g o. left vs (add at a v g o)))
      does_stay (Print string es) d w vs c r =
          behind vs (values false call es vs c r) (λ us. print (formatted string (map number us)) >>= (λ u. pure vs))
          (λ us f q. left vs (print (formatted string (map number us)) f q))
      does_stay (Return e) d w vs c r = behind vs (given false call zero_value e vs c r) give_back (λ v f q. tt)

      otherwise_stays : (z : Else) → Within (else_declares z) ou → Writes (else_writes z) →
          Does_stay (otherwise false call true n z)
      otherwise_stays NoElse d w vs c r = λ x i. refl
      otherwise_stays (Otherwise s) d w vs c r = does_stay s d w vs c r

      all_stay : (ss : Stmts) → Within (all_declare ss) ou → Writes (stmts_writes ss) →
          Does_stay (all false call true n ss)
      all_stay End d w vs c r = λ x i. refl
      all_stay (Then s ss) d w vs c r =
          stays_then vs (does false call true n s vs c r) (all false call true n ss)
          (does_stay s (within_front (declares s) (all_declare ss) d)
          (writes_front (stmt_writes s) (stmts_writes ss) w) vs c r)
          (all_stay ss (within_back (declares s) (all_declare ss) d)
          (writes_back (stmt_writes s) (stmts_writes ss) w))

      branches_stay : (ss : Stmts) → Within (all_declare ss) ou → Writes (stmts_writes ss) →
          Does_stay (branches false call true n ss)
      branches_stay End d w vs c r = λ x i. refl
      branches_stay (Then s ss) d w vs c r =
          let h = does_stay s (within_front (declares s) (all_declare ss) d)
          (writes_front (stmt_writes s) (stmts_writes ss) w) in
          let one = does false call true n s in
          let of_branch = branch false call true n (one vs) vs in
          stays_then vs ((if is_call_branch s then one vs else of_branch) c r) (branches false call true n ss)
          (stays_if vs (is_call_branch s) (one vs) of_branch c r (h vs c r) (branch_stays one h vs c r))
          (branches_stay ss (within_back (declares s) (all_declare ss) d)
          (writes_back (stmt_writes s) (stmts_writes ss) w))
