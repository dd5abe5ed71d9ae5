-- How works for assignments, declarations and statements open.
use Rattle.std.proofs.Common.{◌≡◌, refl, sym, ap, ◌∙◌, ℕ, zero, suc, ◌==◌, Bool, true, false, if◌then◌else◌, List, [], ◌∷◌, length, map, Some, None}
use Rattle.std.proofs.Math.Path.{fun_ext}
use Rattle.ec_base.specs.Format.{formatted}
use Rattle.ec_types.specs.Meaning.Values.{Val, number, holds}
use Rattle.ec_types.specs.Meaning.State.{Core, Out, Does, With, Returns, Traps, Going, and_then, ◌>>=◌, pure, spend, Vars, set}
use Rattle.ec_types.specs.Meaning.Evaluation.{Caller, print, given, values, assigned, all_declared, otherwise, forked, fork, branch, does, branches}
use Rattle.ec_types.specs.Meaning.Branches.{is_call_branch}
use Rattle.ec_types.specs.Meaning.Tree as t
use Rattle.ec_meaning.specs.Works.{Loop, WhileLoop, ForLoop, ForallLoop, Hand, Assign, Declare, Statement, Statements, Branches, Branch, Decide, Turn, Again, Joined, PrintOut}
use Rattle.ec_meaning.specs.Acts.{acts, act_all, top, without, push_all, with_vars, keeping, loop, repeats}
use Rattle.ec_meaning.specs.Opened.{of_assignment, of_declarations, of_statement, of_statements, of_branches, of_decision, of_repetition, count}
use Rattle.ec_meaning.proofs.Binds.{then_then, then_same, tick_then, then_pure, if_then}
use Rattle.ec_meaning.proofs.Expressions.{Opens, part_acts, chosen_acts}
use Rattle.ec_meaning.proofs.Calls.{last_values-push_all, without-push_all, counted}

-- a variable that is set twice
pub set_again : (x : ℕ) (w v : Val) (vs : Vars) → set x w (set x v vs) ≡ set x w vs
set_again x w v vs = fun_ext (λ y. at (y == x) (vs y))
  where
    at : (b : Bool) (u : Val) → (if b then w else (if b then v else u)) ≡ (if b then w else u)
    at true u = refl
    at false u = refl

module _ (call : Caller) (n : ℕ) where
  -- ---- assignments and declarations

  pub assignment_opens : (a : t.Assignment) (h : Hand) → Opens call n false (Assign a) h (of_assignment a) h
  assignment_opens (t.SetVar at x e) h = simp (then_then, then_pure)
  assignment_opens (t.Store p e) h = simp (then_then, then_pure)
  assignment_opens (t.Copy p q) h = simp (then_then, then_pure)

  pub declarations_open : (ds : List t.Decl) (h : Hand) → Opens call n false (Declare ds) h (of_declarations ds) h
  declarations_open [] h = refl
  declarations_open (t.Plain x v e ∷ ds) h =
      simp (part_acts, then_then)
      (then_same (given true call v e (set x v h.vars)) _ _
      (λ w. ap (λ vs. keeping call n h (all_declared true call ds vs)) (sym (set_again x w v h.vars))))
  declarations_open (t.Shared x ∷ ds) h = simp (then_then, then_pure)

  -- ---- tests and sequences

  pub decision_opens :
      (s : t.Stmt) (z : t.Else) (h : Hand) →
      Opens call n false (Decide s z) h (of_decision (holds (top h)) s z) (without 1 h)
  decision_opens s z h = decided (holds (top h)) z
    where
      decided :
          (b : Bool) (z : t.Else) →
          (if b then keeping call n (without 1 h) (does true call true n s h.vars)
          else keeping call n (without 1 h) (otherwise true call true n z h.vars))
          ≡ act_all call n (of_decision b s z) (without 1 h)
      decided true z = sym (then_pure _)
      decided false t.NoElse = refl
      decided false (t.Otherwise z) = sym (then_pure _)

  pub statements_open : (ss : t.Stmts) (h : Hand) → Opens call n false (Statements ss) h (of_statements ss) h
  statements_open t.End h = refl
  statements_open (t.Then s ss) h = simp (then_then, then_pure)

  pub branches_open : (ss : t.Stmts) (h : Hand) → Opens call n false (Branches ss) h (of_branches ss) h
  branches_open t.End h = refl
  branches_open (t.Then s ss) h = with_branch (is_call_branch s)
    where
      with_branch :
          (b : Bool) →
          let first = does true call true n s h.vars in
          let taken = if b then first else branch true call true n first h.vars in
          keeping call n h (taken >>= branches true call true n ss)
          ≡ act_all call n ((if b then Statement s else Branch s) ∷ Branches ss ∷ []) h
      with_branch true = simp (then_then, then_pure)
      with_branch false = simp (then_then, then_pure)

  -- ---- loops

  repetition_acts :
      (l : Loop) (h : Hand) →
      keeping call n h (repeats call n l h.vars >>= loop call n l) ≡ act_all call n (of_repetition l) h
  repetition_acts (WhileLoop e s) h = simp (then_then, then_pure)
  repetition_acts (ForLoop e None s) h = simp (then_then, then_pure)
  repetition_acts (ForLoop e (Some a) s) h = simp (then_then, then_pure)
  repetition_acts (ForallLoop e a s) h = simp (then_then, then_pure)

  pub repetition_opens :
      (l : Loop) (h : Hand) →
      Opens call n false (Again l) h (if holds (top h) then of_repetition l else []) (without 1 h)
  repetition_opens l h =
      chosen_acts call n (holds (top h)) _ _ (of_repetition l) [] (without 1 h) (repetition_acts l (without 1 h)) refl

  -- ---- statements

  forked_acts :
      (births : ℕ) (h : Hand) (x : Out Vars) →
      and_then (forked true call true n births x) (λ vs. pure (with_vars vs h))
      ≡ and_then (and_then x (λ vs. pure (with_vars vs h))) (act_all call n (Joined births ∷ []))
  forked_acts births h (With vs, c, r) = refl
  forked_acts births h (Returns v, c, r) = refl
  forked_acts births h (Traps t, c, r) = refl
  forked_acts births h (Going, c, r) = refl

  -- what a construct does, and that its births were forked
  fork_opens :
      (d : Does Vars) (h : Hand) (c : Core) (r : ℕ) →
      keeping call n h (spend (fork true call true n d)) c r
      ≡ spend (keeping call n h d >>= act_all call n (Joined c.births ∷ [])) c r
  fork_opens d h c zero = refl
  fork_opens d h c (suc r) = forked_acts c.births h (d c r)

  forall_acts :
      (a : t.Assignment) (l : Loop) (births : ℕ) (h : Hand) →
      keeping call n h (assigned true call a h.vars >>= loop call n l) >>= act_all call n (Joined births ∷ [])
      ≡ act_all call n (Assign a ∷ Turn l ∷ Joined births ∷ []) h
  forall_acts a l births h = simp (then_then, then_pure)

  print_acts :
      (string : List ℕ) (es : t.Exprs) (h : Hand) →
      values true call es h.vars >>= (λ us. print (formatted string (map number us)) >>= (λ u. pure h))
      ≡ values true call es h.vars >>= (λ us. acts call n (PrintOut string (count es)) (push_all us h))
  print_acts string es h =
      counted call n es h.vars _ (λ us. acts call n (PrintOut string (count es)) (push_all us h)) printed
    where
      printed :
          (us : List Val) → length us ≡ count es →
          print (formatted string (map number us)) >>= (λ u. pure h)
          ≡ acts call n (PrintOut string (count es)) (push_all us h)
      printed us e =
          let m = count es in
          ap (λ k. print (formatted string (map number us)) >>= (λ u. pure k)) (sym (without-push_all m us h e))
          ∙ ap (λ vs. print (formatted string (map number vs)) >>= (λ u. pure (without m (push_all us h))))
          (sym (last_values-push_all m us h e))

  -- a statement opens so with any births
  abbrev OpensPlainly : t.Stmt → Hand → ℕ → Type 0
  OpensPlainly s h births =
      keeping call n h (does true call true n s h.vars) ≡ spend (act_all call n (of_statement s births) h)

  plainly :
      (s : t.Stmt) (h : Hand) (c : Core) (r : ℕ) → OpensPlainly s h c.births →
      acts call n (Statement s) h c r ≡ spend (act_all call n (of_statement s c.births) h) c r
  plainly s h c r e = ap (λ d. d c r) e

  pub statement_opens :
      (s : t.Stmt) (h : Hand) (c : Core) (r : ℕ) →
      acts call n (Statement s) h c r ≡ spend (act_all call n (of_statement s c.births) h) c r
  statement_opens (t.Par at ss) h c r = fork_opens (branches true call true n ss h.vars) h c r
  statement_opens (t.Forall at a e b s) h c r =
      let l = ForallLoop e b s in
      fork_opens (assigned true call a h.vars >>= loop call n l) h c r
      ∙ ap (λ (d : Does Hand). spend d c r) (forall_acts a l c.births h)
  statement_opens t.Skip h c r =
      plainly t.Skip h c r (tick_then true _ _)
  statement_opens (t.Block ds ss) h c r =
      plainly (t.Block ds ss) h c r (tick_then true _ _ ∙ simp (then_then, then_pure))
  statement_opens (t.If e s z) h c r =
      plainly (t.If e s z) h c r (tick_then true _ _ ∙ simp (then_then, then_pure, if_then))
  statement_opens (t.While e s) h c r =
      plainly (t.While e s) h c r (tick_then true _ _ ∙ simp (then_then, then_pure))
  statement_opens (t.For at None e b s) h c r =
      plainly (t.For at None e b s) h c r (tick_then true _ _ ∙ simp (then_then, then_pure))
  statement_opens (t.For at (Some a) e b s) h c r =
      plainly (t.For at (Some a) e b s) h c r (tick_then true _ _ ∙ simp (then_then, then_pure))
  statement_opens (t.Set a) h c r =
      plainly (t.Set a) h c r (tick_then true _ _ ∙ simp (then_then, then_pure))
  statement_opens (t.Eval i) h c r =
      plainly (t.Eval i) h c r (tick_then true _ _ ∙ simp (then_then, then_pure))
  statement_opens (t.WriteTo at p e) h c r =
      plainly (t.WriteTo at p e) h c r (tick_then true _ _ ∙ simp (then_then, then_pure))
  statement_opens (t.AddTo at p e) h c r =
      plainly (t.AddTo at p e) h c r (tick_then true _ _ ∙ simp (then_then, then_pure))
  statement_opens (t.Print string es) h c r =
      plainly (t.Print string es) h c r (tick_then true _ _ ∙ ap spend (simp then_then (print_acts string es h)))
  statement_opens (t.Return e) h c r =
      plainly (t.Return e) h c r (tick_then true _ _ ∙ simp (part_acts, then_then, then_pure))
