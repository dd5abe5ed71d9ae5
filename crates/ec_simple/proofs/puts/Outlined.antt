-- The functions of branches and bodies, and their calls, from what is used around them.
use Rattle.std.proofs.Common.{◌≡◌, refl, sym, ap, ◌∙◌, subst, ℕ, suc, ◌+◌, true, false, if◌then◌else◌, List, [], ◌∷◌, ◌++◌, length, map, Result, Ok, Err, IfOk, OnOk}
use Rattle.ec_base.specs.declared.token.Span.{Span}
use Rattle.ec_simple.specs.declared.around.Around.{Around}
use Rattle.ec_simple.specs.declared.form.FuncKind.{FuncKind}
use Rattle.ec_simple.specs.declared.form.SBranch.{SBranch}
use Rattle.ec_simple.specs.declared.form.SCall.{SCall}
use Rattle.ec_simple.specs.declared.form.SFunc.{SFunc}
use Rattle.ec_simple.specs.declared.form.FuncKind.TheVariants as kind
use Rattle.ec_simple.specs.declared.form.SForall.{SForall}
use Rattle.ec_simple.specs.declared.form.SPlace.TheVariants as p
use Rattle.ec_simple.specs.declared.form.SStmt.TheVariants as s
use Rattle.ec_simple.specs.declared.form.VarUse.{VarUse}
use Rattle.ec_simple.specs.Around.{call_around, function_around, within, low_inside, Becomes, Outlines, branch_of}
use Rattle.ec_simple.specs.Expressions.{Code, Scope, of_variable, variable_at, low}
use Rattle.ec_simple.specs.Headers.{PutsForall}
use Rattle.ec_simple.specs.Puts.{Vars, Funcs, more, PutsStmt, PutsBranches, PutsDirect}
use Rattle.ec_simple.specs.Statements.{uses, index, low_assignment, loop_variable, is_counted, forall_loop, outlined_name, low_stmt, inside, own, copied_in, copied_out, outlined_call, outlined_branch, low_call_branch}
use Rattle.ec_simple.specs.Used.{used}
use Rattle.ec_simple.specs.Uses.{Use, outside, declares, reads, assignment_reads, assignment_writes, stmt_reads, stmt_writes}
use Rattle.ec_simple.proofs.puts.Behind.{more_more, more_none}
use Rattle.ec_types.specs.Meaning.Branches.{is_call_branch}
use Rattle.ec_types.specs.Meaning.Tree.{Expr, Called, Assignment, SetVar, Invoke, Stmt, Set, Eval, Forall}

-- what is known of it
pub record Is (c : Scope) (more_uses : List Use) (x : Stmt) (a : Around) : Type 0 where
  pub reads : used a.reads ≡ outside (declares x) (stmt_reads x)
  pub writes : used a.writes ≡ outside (declares x) (stmt_writes x)
  pub copied_in : a.copied_in ≡ copied_in c more_uses x
  pub copied_out : a.copied_out ≡ copied_out c x
  pub own : a.own ≡ own c more_uses x

abbrev call : Scope → Span → ℕ → List ℕ → List ℕ → List Use → List Use → SCall
call c at g ins outs reads writes = record {
  func = g;
  args = map c.place ins;
  to = map c.place outs;
  place = p.Here;
  at = at;
  reads = uses c reads;
  writes = uses c writes;
}

call_is : (c : Scope) (at : Span) (u : List Use) (x : Stmt) (g : ℕ) (a : Around) → Is c u x a → call_around c at g a ≡ outlined_call c at u x g
call_is c at u x g a h =
    ap (λ z. call c at g z a.copied_out (used a.reads) (used a.writes)) h.copied_in
    ∙ ap (λ z. call c at g (copied_in c u x) z (used a.reads) (used a.writes)) h.copied_out
    ∙ ap (λ z. call c at g (copied_in c u x) (copied_out c x) z (used a.writes)) h.reads
    ∙ ap (call c at g (copied_in c u x) (copied_out c x) (outside (declares x) (stmt_reads x))) h.writes

-- the functions, from its own variables and those that it copies
abbrev functions : Scope → FuncKind → Stmt → ℕ → List ℕ → List ℕ → List ℕ → List SFunc
functions c k x g ins outs vs =
    let l = low_stmt (within c vs) x (length vs) (suc g) in
    record {
      name = outlined_name c g;
      kind = k;
      vars = map (λ y. of_variable (variable_at c y)) vs ++ l.vars;
      params = map (index vs) ins;
      results = map (index vs) outs;
      body = l.code;
    } ∷ l.funcs

pub outlines :
    (c : Scope) (at : Span) (k : FuncKind) (u : List Use) (x : Stmt) (a : Around) (made : SCall) (old new : Funcs) → Is c u x a →
    made ≡ call_around c at old.next a → Becomes c k x a old new → Outlines c at k u x made old new
outlines c at k u x a made old new h e b =
    let g = old.next in (
      e ∙ call_is c at u x g a h,
      b ∙ ap (λ z. more old (functions c k x g z a.copied_out a.own)) h.copied_in
          ∙ ap (λ z. more old (functions c k x g (copied_in c u x) z a.own)) h.copied_out
          ∙ ap (λ z. more old (functions c k x g (copied_in c u x) (copied_out c x) z)) h.own,
    )

-- ---- the function, from what was done inside it

-- its scope and variables, and what its statement put
pub record Inside (c : Scope) (k : FuncKind) (x : Stmt) (a : Around) (w : Scope) (vars vnew : Vars) (inner inew : Funcs) (code : Code) (number : ℕ) (f : SFunc) : Type 0 where
  pub scope : w ≡ within c a.own
  pub all : vars.all ≡ map (λ y. of_variable (variable_at c y)) a.own
  pub next : vars.next ≡ length a.own
  pub none : inner.all ≡ []
  pub after : inner.next ≡ suc number
  pub puts : PutsStmt (low_stmt w x vars.next inner.next) [] code vars vnew inner inew
  pub made : f ≡ function_around w k number a vnew.all code

pub becomes :
    {E : Type 0} (r : Result (Unit {0}) E) (c : Scope) (k : FuncKind) (x : Stmt) (a : Around) (w : Scope) (vars vnew : Vars) (inner inew : Funcs)
    (code : Code) (f : SFunc) (old mid new : Funcs) → Inside c k x a w vars vnew inner inew code old.next f →
    mid ≡ more old (f ∷ []) → OnOk r (new ≡ more mid inew.all) → OnOk r (Becomes c k x a old new)
becomes (Err u) c k x a w vars vnew inner inew code f old mid new h m n = tt
becomes (Ok u) c k x a w vars vnew inner inew code f old mid new h m n =
    let g = old.next in
    let v = within c a.own in
    let l = low_inside c a x g in
    let same : low_stmt w x vars.next inner.next ≡ l =
    ap (λ z. low_stmt z x vars.next inner.next) h.scope ∙ ap (λ t. low_stmt v x t inner.next) h.next
    ∙ ap (low_stmt v x (length a.own)) h.after in
    let p : PutsStmt l [] code vars vnew inner inew = subst (λ z. PutsStmt z [] code vars vnew inner inew) same h.puts in
    let all = map (λ y. of_variable (variable_at c y)) a.own ++ l.vars in
    let vs : vnew.all ≡ all = ap (λ z. z.all) p.1 ∙ ap (λ z. z ++ l.vars) h.all in
    let fs : inew.all ≡ l.funcs = ap (λ z. z.all) p.2 ∙ ap (λ z. z ++ l.funcs) h.none in
    let is : f ≡ function_around v k g a all l.code =
    h.made ∙ ap (λ z. function_around z k g a vnew.all code) h.scope ∙ ap (λ z. function_around v k g a z code) vs
    ∙ ap (function_around v k g a all) p.0 in
    n ∙ ap (more mid) fs ∙ ap (λ z. more z l.funcs) (m ∙ ap (λ z. more old (z ∷ [])) is)
    ∙ more_more old (function_around v k g a all l.code ∷ []) l.funcs

-- ---- branches

no_functions : (c : Scope) (x : Stmt) (t : ℕ) → (low_call_branch c x t).funcs ≡ []
no_functions c (Set (SetVar at x (Called i))) t = refl
no_functions c (Eval (Invoke at f es q)) t = refl
no_functions c x t = refl

-- one that is a call
pub direct_branch :
    {E : Type 0} (r : Result SBranch E) (c : Scope) (at : Span) (x y : Stmt) (vold vnew : Vars) (funcs : Funcs) →
    is_call_branch x ≡ true → y ≡ x → IfOk r (λ b. PutsDirect (low_call_branch c y vold.next) b vold vnew) →
    IfOk r (λ b. PutsBranches (branch_of c at x vold.next funcs.next) (b ∷ []) vold vnew funcs funcs)
direct_branch (Ok b) c at x y vold vnew funcs is e h =
    let l = low_call_branch c x vold.next in
    let body = low_stmt (inside c [] x) x (length (own c [] x)) (suc funcs.next) in
    let o : branch_of c at x vold.next funcs.next ≡ l = ap (λ z. if z then l else outlined_branch c at x funcs.next body) is in
    let p : PutsDirect l b vold vnew = subst (λ z. PutsDirect (low_call_branch c z vold.next) b vold vnew) e h in
    subst (λ z. PutsBranches z (b ∷ []) vold vnew funcs funcs) (sym o)
    (p.0, p.1, more_none funcs ∙ ap (more funcs) (sym (no_functions c x vold.next)))
direct_branch (Err b) c at x y vold vnew funcs is e h = tt

abbrev alone : SCall → List SBranch
alone call = record { before = []; call = call } ∷ []

-- any other
pub outlined_is_branch :
    (c : Scope) (at : Span) (x : Stmt) (call : SCall) (vars : Vars) (old new : Funcs) → is_call_branch x ≡ false →
    Outlines c at kind.Branch [] x call old new →
    PutsBranches (branch_of c at x vars.next old.next) (record { before = []; call = call } ∷ []) vars vars old new
outlined_is_branch c at x call vars old new is h =
    let l = low_call_branch c x vars.next in
    let body = low_stmt (inside c [] x) x (length (own c [] x)) (suc old.next) in
    let b = outlined_branch c at x old.next body in
    let o : branch_of c at x vars.next old.next ≡ b = ap (λ z. if z then l else b) is in
    subst (λ z. PutsBranches z (alone call) vars vars old new) (sym o) (ap alone h.0, more_none vars, h.1)

-- ---- a `forall`, with the call of its body

pub forall_puts :
    {E : Type 0} (r : Result (Unit {0}) E) (c : Scope) (at : Span) (a : Assignment) (test : Expr) (b : Assignment) (x : Stmt) (start set : List VarUse) (body : SCall) (f : SForall)
    (old new : Code) (vold vnew : Vars) (fold fnew : Funcs) → start ≡ [] → used set ≡ used start ++ assignment_writes a →
    Outlines c at kind.Body (used set) x body fold fnew → PutsForall c at a test b body f vold vnew → OnOk r (new ≡ old ++ s.Forall f ∷ []) →
    OnOk r (PutsStmt (low_stmt c (Forall at a test b x) vold.next fold.next) old new vold vnew fold fnew)
forall_puts (Err u) c at a test b x start set body f old new vold vnew fold fnew none e o p n = tt
forall_puts (Ok u) c at a test b x start set body f old new vold vnew fold fnew none e o p n =
    let la = low_assignment c a vold.next in
    let lt = low c test (vold.next + length la.vars) in
    let lb = low_assignment c b (vold.next + length la.vars + length lt.vars) in
    let u : used set ≡ assignment_writes a = e ∙ ap (λ z. used z ++ assignment_writes a) none in
    let q : Outlines c at kind.Body (assignment_writes a) x body fold fnew =
    subst (λ z. Outlines c at kind.Body z x body fold fnew) u o in
    let read = assignment_reads a ++ reads test ++ assignment_reads b in
    let written = assignment_writes a ++ assignment_writes b in (
      n ∙ ap (λ z. old ++ s.Forall z ∷ [])
          (p.0 ∙ ap (λ z. forall_loop c at (loop_variable a) la lt lb z (is_counted a test b) read written) q.0),
      p.1,
      q.1,
    )
