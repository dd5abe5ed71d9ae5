-- Headers that count, `i = a; i < b; i = i + 1`: the loop variable is below something at the test, the step adds 1 to it, nothing
-- else in the header sets it behind its first value, and the body gets it.
use Rattle.std.specs.Prelude.{◌≡◌, ℕ, ◌+◌, ◌<◌, ◌==◌, Bool, true, false, not, ◌&&◌, ◌||◌, List, [], ◌∷◌, ◌++◌, length, pos}
use Rattle.ec_base.specs.Arithmetic.{same_number}
use Rattle.ec_base.specs.declared.operator.BinOp.TheVariants.{Add as Plus, Lt}
use Rattle.ec_base.specs.declared.token.Span.{Span}
use Rattle.ec_simple.specs.declared.form.SCall.{SCall}
use Rattle.ec_simple.specs.declared.form.SExpr.TheVariants as e
use Rattle.ec_simple.specs.declared.form.SForall.{SForall}
use Rattle.ec_simple.specs.declared.form.SStmt.{SStmt, fold-SStmt}
use Rattle.ec_simple.specs.declared.form.SStmt.TheVariants as s
use Rattle.ec_simple.specs.declared.form.SStmt.TheOpen.{SStmt-F, SForall-F, SBranch-F}
use Rattle.ec_simple.specs.Expressions.{Scope, low}
use Rattle.ec_simple.specs.Statements.{low_assignment, is_counted, loop_variable, forall_loop, outlined_call}
use Rattle.ec_simple.specs.Uses.{member, reads, assignment_reads, assignment_writes}
use Rattle.ec_types.specs.Meaning.Tree.{Expr, Assignment, Stmt}

-- ---- which variables code sets

abbrev pub sets_in_call : ℕ → SCall → Bool
sets_in_call x c = member x c.to

abbrev pub any_sets : List Bool → Bool
any_sets [] = false
any_sets (b ∷ bs) = b || any_sets bs

abbrev pub sets_in_branch : ℕ → SBranch-F Bool Bool Bool → Bool
sets_in_branch x b = any_sets b.before || sets_in_call x b.call

abbrev pub sets_in_forall : ℕ → SForall-F Bool Bool Bool → Bool
sets_in_forall x f = any_sets f.init || any_sets f.before || any_sets f.step || sets_in_call x f.body

abbrev pub sets_in : ℕ → SStmt-F Bool Bool Bool → Bool
sets_in x (SStmt-F.Set y v) = y == x
sets_in x (SStmt-F.Load y a) = y == x
sets_in x (SStmt-F.Store a y) = false
sets_in x (SStmt-F.Copy a b) = false
sets_in x (SStmt-F.New y shape count at) = y == x
sets_in x (SStmt-F.Share y at) = y == x
sets_in x (SStmt-F.Read q y at) = y == x
sets_in x (SStmt-F.Write q y at) = false
sets_in x (SStmt-F.Add q y at) = false
sets_in x (SStmt-F.Call c) = sets_in_call x c
sets_in x (SStmt-F.Print string xs) = false
sets_in x (SStmt-F.If y a b) = any_sets a || any_sets b
sets_in x (SStmt-F.Loop before test body) = any_sets before || any_sets body
sets_in x (SStmt-F.Par at bs) = any_sets bs
sets_in x (SStmt-F.Forall f) = f
sets_in x (SStmt-F.Return r) = false

abbrev pub sets : ℕ → SStmt → Bool
sets x = fold-SStmt Bool Bool Bool (sets_in x) (sets_in_branch x) (sets_in_forall x)

-- ---- headers that count: `i = a; i < b; i = i + 1`

-- the last thing before a test is whether the variable is below something, and nothing before that sets the variable
abbrev pub tests_below : ℕ → ℕ → List SStmt → Bool
tests_below x test [] = false
tests_below x test (s.Set y (e.Binary Lt i b at) ∷ []) = (y == test) && (i == x) && not (y == x)
tests_below x test (a ∷ ss) = not (sets x a) && tests_below x test ss

abbrev pub adds_one : ℕ → List SStmt → Bool
adds_one x (s.Set a (e.Number n) ∷ s.Set b (e.Binary Plus y c at) ∷ s.Set z (e.Var d) ∷ []) =
    same_number n (pos 1) && not (a == x) && (y == x) && (c == a) && (z == x) && (d == b)
adds_one x ss = false

abbrev pub counts : SForall → Bool
counts f = tests_below f.var f.test f.before && adds_one f.var f.step && member f.var f.body.args

-- ---- the header that is made of a `forall`

abbrev pub header : Scope → Span → Assignment → Expr → Assignment → Stmt → ℕ → ℕ → SForall
header c at a test b x t g =
    let la = low_assignment c a t in
    let lt = low c test (t + length la.vars) in
    let lb = low_assignment c b (t + length la.vars + length lt.vars) in
    forall_loop c at (loop_variable a) la lt lb (outlined_call c at (assignment_writes a) x g) (is_counted a test b)
    (assignment_reads a ++ reads test ++ assignment_reads b) (assignment_writes a ++ assignment_writes b)

-- where it is marked as counting it counts
abbrev pub CountedHeadersCount : Type 0
CountedHeadersCount = (c : Scope) (at : Span) (a : Assignment) (test : Expr) (b : Assignment) (x : Stmt) (t g : ℕ) →
    is_counted a test b ≡ true → loop_variable a < length c.variables → c.place (loop_variable a) < t →
    counts (header c at a test b x t g) ≡ true
