-- A branch or body, with what it uses of the variables around it.
use Rattle.std.specs.Prelude.{◌≡◌, ℕ, suc, if◌then◌else◌, List, [], ◌∷◌, ◌++◌, length, map}
use Rattle.ec_base.specs.declared.token.Span.{Span}
use Rattle.ec_simple.specs.declared.around.Around.{Around}
use Rattle.ec_simple.specs.declared.form.FuncKind.{FuncKind}
use Rattle.ec_simple.specs.declared.form.SCall.{SCall}
use Rattle.ec_simple.specs.declared.form.SFunc.{SFunc}
use Rattle.ec_simple.specs.declared.form.SPlace.TheVariants as p
use Rattle.ec_simple.specs.declared.form.SVar.{SVar}
use Rattle.ec_simple.specs.Expressions.{Code, Scope, of_variable, variable_at}
use Rattle.ec_simple.specs.Puts.{Funcs, more}
use Rattle.ec_simple.specs.Statements.{LowBranches, LowStmt, uses, index, outlined_name, low_stmt, inside, own, outlined, outlined_call, low_call_branch, outlined_branch}
use Rattle.ec_simple.specs.Used.{used}
use Rattle.ec_simple.specs.Uses.{Use}
use Rattle.ec_types.specs.Meaning.Branches.{is_call_branch}
use Rattle.ec_types.specs.Meaning.Tree.{Stmt}

abbrev pub call_around : Scope → Span → ℕ → Around → SCall
call_around c at g a = record {
  func = g;
  args = map c.place a.copied_in;
  to = map c.place a.copied_out;
  place = p.Here;
  at = at;
  reads = uses c (used a.reads);
  writes = uses c (used a.writes);
}

-- in the scope inside it
abbrev pub function_around : Scope → FuncKind → ℕ → Around → List SVar → Code → SFunc
function_around c k g a vars body = record {
  name = outlined_name c g;
  kind = k;
  vars = vars;
  params = map c.place a.copied_in;
  results = map c.place a.copied_out;
  body = body;
}

-- the scope inside a branch or body that has these variables
abbrev pub within : Scope → List ℕ → Scope
within c own = record c { place = index own }

-- what is inside it
abbrev pub low_inside : Scope → Around → Stmt → ℕ → LowStmt
low_inside c a x g = low_stmt (within c a.own) x (length a.own) (suc g)

-- its function, before those inside it
abbrev pub Becomes : Scope → FuncKind → Stmt → Around → Funcs → Funcs → Type 0
Becomes c k x a old new =
    let l = low_inside c a x old.next in
    let vars = map (λ y. of_variable (variable_at c y)) a.own ++ l.vars in
    new ≡ more old (function_around (within c a.own) k old.next a vars l.code ∷ l.funcs)

-- its call too
abbrev pub Outlines : Scope → Span → FuncKind → List Use → Stmt → SCall → Funcs → Funcs → Type 0
Outlines c at k uses x call old new =
    let l = low_stmt (inside c uses x) x (length (own c uses x)) (suc old.next) in
    (call ≡ outlined_call c at uses x old.next) × (new ≡ more old (outlined c k uses x old.next l ∷ l.funcs))

-- one branch of a parallel sequence
abbrev pub branch_of : Scope → Span → Stmt → ℕ → ℕ → LowBranches
branch_of c at x t g =
    if is_call_branch x then low_call_branch c x t
    else outlined_branch c at x g (low_stmt (inside c [] x) x (length (own c [] x)) (suc g))
