-- Branches that are the activations of their calls, as the code knows them.
use Rattle.std.specs.Prelude.{◌≡◌, ℕ, List, [], ◌∷◌, Option, Some, None}
use Rattle.ec_base.specs.declared.token.Span.{Span}
use Rattle.ec_resolve.specs.Erased as erased
use Rattle.ec_simple.specs.declared.branch.Direct.{Direct}
use Rattle.ec_simple.specs.Expressions.{Scope}
use Rattle.ec_simple.specs.Puts.{Vars, more}
use Rattle.ec_simple.specs.Statements.{result_numbers, result_variables}
use Rattle.ec_simple.specs.Uses.{Use, of_some}
use Rattle.ec_types.specs.Meaning.Tree.{Invocation, Called, SetVar, Stmt, Set, Eval}

abbrev pub to_variable : Option (Span × ℕ) → Invocation → Stmt
to_variable None i = Eval i
to_variable (Some (at, x)) i = Set (SetVar at x (Called i))

-- the branch that this is
abbrev pub branch : Direct → Stmt
branch d = to_variable d.to (erased.invocation d.call.now)

-- the variable that it sets
abbrev pub writes_of : Option (Span × ℕ) → List Use
writes_of to = of_some (λ v. record { var = v.1; at = v.0 } ∷ []) to

abbrev pub set_by : Direct → List Use
set_by d = writes_of d.to

-- where the result of this function goes: the variable, or a temporary where the function gives one
abbrev pub receives : Scope → ℕ → Span → List ℕ → Vars → Vars → Option (Span × ℕ) → Type 0
receives c f at to old new None = (to ≡ result_numbers c f old.next) × (new ≡ more old (result_variables c at f old.next))
receives c f at to old new (Some v) = (to ≡ c.place v.1 ∷ []) × (new ≡ old)

abbrev pub Receives : Scope → Direct → Span → List ℕ → Vars → Vars → Type 0
Receives c d at to old new = receives c d.call.now.function at to old new d.to
