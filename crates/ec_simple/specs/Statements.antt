-- The simple form of statements. Branches that are no call branches, and bodies of `forall`s, become functions, which copy in the
-- variables that they use and copy out those that they write.
use Rattle.std.specs.Prelude.{ℕ, suc, ◌+◌, ◌-◌, ◌==◌, Bool, true, false, not, ◌&&◌, if◌then◌else◌, List, [], ◌∷◌, ◌++◌, length, map, filter, codes, Option, Some, None, pos}
use Rattle.std.specs.Fmt.{signed_decimal}
use Rattle.ec_base.specs.Arithmetic.{same_number}
use Rattle.ec_base.specs.declared.operator.BinOp.TheVariants.{Add as Plus, Lt}
use Rattle.ec_base.specs.declared.text.Text.{Text}
use Rattle.ec_base.specs.declared.token.Span.{Span}
use Rattle.ec_simple.specs.declared.form.FuncKind.{FuncKind}
use Rattle.ec_simple.specs.declared.form.FuncKind.TheVariants as kind
use Rattle.ec_simple.specs.declared.form.SBranch.{SBranch}
use Rattle.ec_simple.specs.declared.form.SCall.{SCall}
use Rattle.ec_simple.specs.declared.form.SExpr.{SExpr}
use Rattle.ec_simple.specs.declared.form.SExpr.TheVariants as e
use Rattle.ec_simple.specs.declared.form.SFunc.{SFunc}
use Rattle.ec_simple.specs.declared.form.SForall.{SForall}
use Rattle.ec_simple.specs.declared.form.SPlace.TheVariants as p
use Rattle.ec_simple.specs.declared.form.SStmt.{SStmt}
use Rattle.ec_simple.specs.declared.form.SStmt.TheVariants as s
use Rattle.ec_simple.specs.declared.form.SVar.{SVar}
use Rattle.ec_simple.specs.declared.form.VarUse.{VarUse}
use Rattle.ec_simple.specs.Expressions.{Code, Scope, Low, LowPlace, LowCall, variable_at, function_at, gives, temporary, of_variable, plain_call, low, low_part, low_place, low_list, low_call}
use Rattle.ec_simple.specs.Uses.{Use, reads, call_reads, assignment_reads, assignment_writes, stmt_reads, stmt_writes, declares, outside, numbers_below}
use Rattle.ec_types.specs.Meaning.Branches.{is_call_branch}
use Rattle.ec_types.specs.Meaning.Tree.{Expr, Number, Var, Binary, Called, Missing, Given, Invocation, Invoke, Assignment, SetVar, Store, Copy, Decl, Plain, Shared, Stmt, Skip, Block, Par, If, While, For, Forall, Set, Eval, WriteTo, AddTo, Print, Return, Else, NoElse, Otherwise, Stmts, End, Then}
use Rattle.ec_types.specs.Meaning.Values.{Val, Null, number}

-- the code, its temporaries, and the functions that branches and bodies in it become
pub record LowStmt : Type 0 where
  pub code : Code
  pub vars : List SVar
  pub funcs : List SFunc

pub record LowBranches : Type 0 where
  pub branches : List SBranch
  pub vars : List SVar
  pub funcs : List SFunc

abbrev pub nothing : LowStmt
nothing = record { code = []; vars = []; funcs = [] }

abbrev pub plain : Code → List SVar → LowStmt
plain code vars = record { code = code; vars = vars; funcs = [] }

abbrev pub joined : LowStmt → LowStmt → LowStmt
joined a b = record { code = a.code ++ b.code; vars = a.vars ++ b.vars; funcs = a.funcs ++ b.funcs }

-- a statement that uses the value of an expression
abbrev pub with_value : Low → (ℕ → SStmt) → LowStmt
with_value a x = plain (a.code ++ x a.to ∷ []) a.vars

abbrev pub with_two : Low → Low → (ℕ → ℕ → SStmt) → LowStmt
with_two a b x = plain (a.code ++ b.code ++ x a.to b.to ∷ []) (a.vars ++ b.vars)

-- what a variable is set to where it is declared
abbrev pub first : Val → SExpr
first Null = e.Null
first v = e.Number (number v)

-- ---- uses

-- shared names are no uses
abbrev pub uses : Scope → List Use → List VarUse
uses c us =
    map (λ u. record { var = c.place u.var; at = u.at }) (filter (λ u. not (variable_at c u.var).shared) us)

-- the place of a variable in a list
abbrev pub index : List ℕ → ℕ → ℕ
index [] x = 0
index (y ∷ ys) x = if y == x then 0 else suc (index ys x)

-- the k-th branch or body in a function named f, counted from 1, is named f, a dot and k
abbrev pub outlined_name : Scope → ℕ → Text
outlined_name c g = c.name ++ codes "." ++ signed_decimal (pos (suc (g - c.first)))

-- ---- parts without statements in them

module _ (c : Scope) where
  abbrev pub low_assignment : Assignment → ℕ → LowStmt
  low_assignment (SetVar at x a) t = with_value (low c a t) (λ y. s.Set (c.place x) (e.Var y))
  low_assignment (Store q a) t = stored (low_place c q t)
    where
      stored : LowPlace → LowStmt
      stored l =
          let la = low c a (t + length l.vars) in plain (l.code ++ la.code ++ s.Store l.place la.to ∷ []) (l.vars ++ la.vars)
  low_assignment (Copy q r) t = copied (low_place c q t)
    where
      copied : LowPlace → LowStmt
      copied l =
          let m = low_place c r (t + length l.vars) in
          plain (l.code ++ m.code ++ s.Copy l.place m.place ∷ []) (l.vars ++ m.vars)

  abbrev pub low_optional : Option Assignment → ℕ → LowStmt
  low_optional None t = nothing
  low_optional (Some a) t = low_assignment a t

  -- 0 or NULL, and then its initialiser
  abbrev pub low_declaration : Decl → ℕ → LowStmt
  low_declaration (Plain x v Missing) t = plain (s.Set (c.place x) (first v) ∷ []) []
  low_declaration (Plain x v (Given a)) t =
      joined (plain (s.Set (c.place x) (first v) ∷ []) []) (with_value (low c a t) (λ y. s.Set (c.place x) (e.Var y)))
  low_declaration (Shared x) t = plain (s.Share (c.place x) (variable_at c x).at ∷ []) []

  abbrev pub low_declarations : List Decl → ℕ → LowStmt
  low_declarations [] t = nothing
  low_declarations (d ∷ ds) t = let ld = low_declaration d t in joined ld (low_declarations ds (t + length ld.vars))

  -- a result that isn't used has a temporary, where the function gives one
  abbrev pub unused : LowCall → ℕ → Bool → Expr → LowStmt
  unused l t true a = plain (l.code ++ s.Call (plain_call l []) ∷ []) l.vars
  unused l t false a = let la = low c a t in plain la.code la.vars

  abbrev pub low_evaluated : Invocation → ℕ → LowStmt
  low_evaluated (Invoke at f es q) t =
      unused (low_call c (Invoke at f es q) t) t (function_at c f).void (Called (Invoke at f es q))

-- ---- constructs

-- `i = a; i < b; i = i + 1`
abbrev pub is_counted : Assignment → Expr → Assignment → Bool
is_counted (SetVar at i a) (Binary to Lt (Var there x) b) (SetVar on j (Binary by Plus (Var here y) (Number one n))) =
    (x == i) && (j == i) && (y == i) && same_number n (pos 1)
is_counted a b d = false

-- the variable that a header sets
abbrev pub loop_variable : Assignment → ℕ
loop_variable (SetVar at x a) = x
loop_variable a = 0

-- which variables of the function around it a branch or body copies in, by their numbers, and which it copies out
abbrev pub copied_in : Scope → List Use → Stmt → List ℕ
copied_in c more x = numbers_below (length c.variables) (more ++ outside (declares x) (stmt_reads x ++ stmt_writes x))

abbrev pub copied_out : Scope → Stmt → List ℕ
copied_out c x = numbers_below (length c.variables) (outside (declares x) (stmt_writes x))

-- its own variables: the copies, and those that it declares
abbrev pub own : Scope → List Use → Stmt → List ℕ
own c more x = copied_in c more x ++ declares x

-- in the function that a branch or body becomes, the variables are numbered by their place among its own
abbrev pub inside : Scope → List Use → Stmt → Scope
inside c more x = record c { place = index (own c more x) }

-- the function of this number that a branch or body becomes
abbrev pub outlined : Scope → FuncKind → List Use → Stmt → ℕ → LowStmt → SFunc
outlined c k more x g body = record {
  name = outlined_name c g;
  kind = k;
  vars = map (λ y. of_variable (variable_at c y)) (own c more x) ++ body.vars;
  params = map (index (own c more x)) (copied_in c more x);
  results = map (index (own c more x)) (copied_out c x);
  body = body.code;
}

-- the call of that function, where the branch or body stands
abbrev pub outlined_call : Scope → Span → List Use → Stmt → ℕ → SCall
outlined_call c at more x g = record {
  func = g;
  args = map c.place (copied_in c more x);
  to = map c.place (copied_out c x);
  place = p.Here;
  at = at;
  reads = uses c (outside (declares x) (stmt_reads x));
  writes = uses c (outside (declares x) (stmt_writes x));
}

-- a branch that is a call: its uses are those of its operands, and the variable that it sets
abbrev pub call_branch : Scope → LowCall → List ℕ → List Use → List Use → SBranch
call_branch c l to r w = record {
  before = l.code;
  call = record { func = l.func; args = l.args; to = to; place = l.place; at = l.at; reads = uses c r; writes = uses c w };
}

abbrev pub one_branch : SBranch → List SVar → List SFunc → LowBranches
one_branch b vars funcs = record { branches = b ∷ []; vars = vars; funcs = funcs }

abbrev pub more_branches : LowBranches → LowBranches → LowBranches
more_branches a b =
    record { branches = a.branches ++ b.branches; vars = a.vars ++ b.vars; funcs = a.funcs ++ b.funcs }

-- the temporary of a result that isn't used
abbrev pub result_variables : Scope → Span → ℕ → ℕ → List SVar
result_variables c at f t = if (function_at c f).void then [] else temporary at (gives (function_at c f)) ∷ []

abbrev pub result_numbers : Scope → ℕ → ℕ → List ℕ
result_numbers c f t = if (function_at c f).void then [] else t ∷ []

-- a call as a branch, whose result goes to the variable, or is left
abbrev pub low_call_branch : Scope → Stmt → ℕ → LowBranches
low_call_branch c (Set (SetVar at x (Called i))) t = of_call (low_call c i t)
  where
    of_call : LowCall → LowBranches
    of_call l =
        one_branch (call_branch c l (c.place x ∷ []) (call_reads i) (record { var = x; at = at } ∷ [])) l.vars []
low_call_branch c (Eval (Invoke at f es q)) t = of_call (low_call c (Invoke at f es q) t)
  where
    of_call : LowCall → LowBranches
    of_call l =
        one_branch
        (call_branch c l (result_numbers c f (t + length l.vars)) (call_reads (Invoke at f es q)) [])
        (l.vars ++ result_variables c at f (t + length l.vars)) []
low_call_branch c x t = record { branches = []; vars = []; funcs = [] }

-- any other branch, whose code this is
abbrev pub outlined_branch : Scope → Span → Stmt → ℕ → LowStmt → LowBranches
outlined_branch c at x g l =
    one_branch (record { before = []; call = outlined_call c at [] x g }) [] (outlined c kind.Branch [] x g l ∷ l.funcs)

abbrev pub for_loop : LowStmt → Low → LowStmt → LowStmt → LowStmt
for_loop a test x b = record {
  code = a.code ++ s.Loop test.code test.to (x.code ++ b.code) ∷ [];
  vars = a.vars ++ test.vars ++ x.vars ++ b.vars;
  funcs = x.funcs;
}

abbrev pub forall_loop : Scope → Span → ℕ → LowStmt → Low → LowStmt → SCall → Bool → List Use → List Use → SForall
forall_loop c at x a test b call counted r w = record {
  at = at;
  var = c.place x;
  init = a.code;
  before = test.code;
  test = test.to;
  step = b.code;
  body = call;
  counted = counted;
  reads = uses c r;
  writes = uses c w;
}

-- ---- statements: t is the number of the first temporary, g that of the first branch or body

abbrev mutual
  pub low_stmt : Scope → Stmt → ℕ → ℕ → LowStmt
  low_stmt c Skip t g = nothing
  low_stmt c (Block ds ss) t g =
      let ld = low_declarations c ds t in joined ld (low_stmts c ss (t + length ld.vars) g)
  low_stmt c (Par at ss) t g =
      let lb = low_branches c at ss t g in record { code = s.Par at lb.branches ∷ []; vars = lb.vars; funcs = lb.funcs }
  low_stmt c (If a x z) t g =
      let la = low c a t in
      let lx = low_stmt c x (t + length la.vars) g in
      let lz = low_else c z (t + length la.vars + length lx.vars) (g + length lx.funcs) in
      record {
        code = la.code ++ s.If la.to lx.code lz.code ∷ [];
        vars = la.vars ++ lx.vars ++ lz.vars;
        funcs = lx.funcs ++ lz.funcs;
      }
  low_stmt c (While a x) t g =
      let la = low c a t in
      let lx = low_stmt c x (t + length la.vars) g in
      record { code = s.Loop la.code la.to lx.code ∷ []; vars = la.vars ++ lx.vars; funcs = lx.funcs }
  low_stmt c (For at a test b x) t g =
      let la = low_optional c a t in
      let lt = low_part c at (pos 1) test (t + length la.vars) in
      let lx = low_stmt c x (t + length la.vars + length lt.vars) g in
      for_loop la lt lx (low_optional c b (t + length la.vars + length lt.vars + length lx.vars))
  low_stmt c (Forall at a test b x) t g =
      let more = assignment_writes a in
      let la = low_assignment c a t in
      let lt = low c test (t + length la.vars) in
      let lb = low_assignment c b (t + length la.vars + length lt.vars) in
      let lx = low_stmt (inside c more x) x (length (own c more x)) (suc g) in
      record {
        code =
            s.Forall (forall_loop c at (loop_variable a) la lt lb (outlined_call c at more x g) (is_counted a test b)
            (assignment_reads a ++ reads test ++ assignment_reads b) (assignment_writes a ++ assignment_writes b)) ∷ [];
        vars = la.vars ++ lt.vars ++ lb.vars;
        funcs = outlined c kind.Body more x g lx ∷ lx.funcs;
      }
  low_stmt c (Set a) t g = low_assignment c a t
  low_stmt c (Eval i) t g = low_evaluated c i t
  low_stmt c (WriteTo at q a) t g =
      let lq = low c q t in with_two lq (low c a (t + length lq.vars)) (λ x y. s.Write x y at)
  low_stmt c (AddTo at q a) t g =
      let lq = low c q t in with_two lq (low c a (t + length lq.vars)) (λ x y. s.Add x y at)
  low_stmt c (Print string es) t g =
      let l = low_list c es t in plain (l.code ++ s.Print string l.to ∷ []) l.vars
  low_stmt c (Return Missing) t g = plain (s.Return None ∷ []) []
  low_stmt c (Return (Given a)) t g = with_value (low c a t) (λ x. s.Return (Some x))

  pub low_else : Scope → Else → ℕ → ℕ → LowStmt
  low_else c NoElse t g = nothing
  low_else c (Otherwise x) t g = low_stmt c x t g

  pub low_stmts : Scope → Stmts → ℕ → ℕ → LowStmt
  low_stmts c End t g = nothing
  low_stmts c (Then x xs) t g =
      let lx = low_stmt c x t g in joined lx (low_stmts c xs (t + length lx.vars) (g + length lx.funcs))

  pub low_branches : Scope → Span → Stmts → ℕ → ℕ → LowBranches
  low_branches c at End t g = record { branches = []; vars = []; funcs = [] }
  low_branches c at (Then x xs) t g =
      let lx =
      if is_call_branch x then low_call_branch c x t
      else outlined_branch c at x g (low_stmt (inside c [] x) x (length (own c [] x)) (suc g)) in
      more_branches lx (low_branches c at xs (t + length lx.vars) (g + length lx.funcs))
