-- The headers of `forall`s.
use Rattle.std.specs.Prelude.{◌≡◌, ℕ, ◌+◌, ◌==◌, Bool, false, ◌&&◌, ◌++◌, length, pos}
use Rattle.ec_base.specs.Arithmetic.{same_number}
use Rattle.ec_base.specs.declared.operator.BinOp.TheVariants.{Add, Lt}
use Rattle.ec_base.specs.declared.token.Span.{Span}
use Rattle.ec_simple.specs.declared.form.SCall.{SCall}
use Rattle.ec_simple.specs.declared.form.SForall.{SForall}
use Rattle.ec_simple.specs.Expressions.{Scope, low}
use Rattle.ec_simple.specs.Puts.{Vars, more}
use Rattle.ec_simple.specs.Statements.{low_assignment, loop_variable, forall_loop, is_counted}
use Rattle.ec_simple.specs.Uses.{reads, assignment_reads, assignment_writes}
use Rattle.ec_types.specs.Meaning.Tree.{Expr, Number, Var, Binary, Assignment, SetVar}

-- ---- what a counted one looks like

abbrev pub is_variable : ℕ → Expr → Bool
is_variable x (Var at y) = y == x
is_variable x e = false

abbrev pub is_one : Expr → Bool
is_one (Number at n) = same_number n (pos 1)
is_one e = false

abbrev pub is_below : ℕ → Expr → Bool
is_below x (Binary at Lt a b) = is_variable x a
is_below x e = false

abbrev pub is_next : ℕ → Expr → Bool
is_next x (Binary at Add a b) = is_variable x a && is_one b
is_next x e = false

abbrev pub is_raised : ℕ → Assignment → Bool
is_raised x (SetVar at y e) = (y == x) && is_next x e
is_raised x a = false

-- ---- what a `forall` puts, whose body's call this is

abbrev pub PutsForall : Scope → Span → Assignment → Expr → Assignment → SCall → SForall → Vars → Vars → Type 0
PutsForall c at a test b body f old new =
    let la = low_assignment c a old.next in
    let lt = low c test (old.next + length la.vars) in
    let lb = low_assignment c b (old.next + length la.vars + length lt.vars) in
    (f ≡ forall_loop c at (loop_variable a) la lt lb body (is_counted a test b)
    (assignment_reads a ++ reads test ++ assignment_reads b) (assignment_writes a ++ assignment_writes b))
    × (new ≡ more old (la.vars ++ lt.vars ++ lb.vars))
