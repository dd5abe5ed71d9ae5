-- Headers of `forall`s: one and the same variable is set in both assignments, and nothing is called or allocated.
use Rattle.std.specs.Prelude.{◌&&◌, ◌||◌, not, List, ◌++◌, map}
use Rattle.ec_syntax.specs.declared.expression.Expr.{Expr}
use Rattle.ec_syntax.specs.declared.statement.Assign.{Assign}
use Rattle.ec_base.specs.declared.reason.Reason.TheVariants.{HeaderForm}
use Rattle.ec_calls.specs.Effects.{Effect, effects, assign_effects}
use Rattle.ec_types.specs.Context.{Context}
use Rattle.ec_types.specs.Expressions.{judged}
use Rattle.ec_types.specs.Parts.{Part, is_variable, same_variable}
use Rattle.ec_types.specs.Judged.{Fine, must, refused, every, ◌also◌}

-- the left side is a variable
abbrev pub sets_variable : Part → Fine
sets_variable left = must (is_variable left.form) HeaderForm left.at

-- the second left side is no other variable than the first
abbrev pub sets_the_same : Part → Part → Fine
sets_the_same first second =
    must (not (is_variable first.form && is_variable second.form) || same_variable first.form second.form)
    HeaderForm second.at

abbrev pub is_no_effect : Effect → Fine
is_no_effect e = refused HeaderForm e.at

abbrev pub no_effects : List Effect → Fine
no_effects es = every (map is_no_effect es)

-- nothing is called or allocated
abbrev pub still : Assign → Expr → Assign → Fine
still first test last = no_effects (assign_effects first ++ effects test ++ assign_effects last)

abbrev pub header : Context → Assign → Expr → Assign → Fine
header c first test last =
    sets_variable (judged c first.left) also sets_variable (judged c last.left)
    also sets_the_same (judged c first.left) (judged c last.left)
    also still first test last
