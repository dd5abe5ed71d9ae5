-- Assignments and conditions, in statements and headers.
use Rattle.std.specs.Prelude.{Ok, Bool, not, ◌||◌}
use Rattle.ec_base.specs.declared.token.Span.{Span}
use Rattle.ec_syntax.specs.declared.expression.Expr.{Expr}
use Rattle.ec_syntax.specs.declared.statement.Assign.{Assign}
use Rattle.ec_base.specs.declared.reason.Reason.TheVariants.{Mismatch}
use Rattle.ec_types.specs.declared.value_type.ExprType.{ExprType}
use Rattle.ec_types.specs.Context.{Context, is_local, is_local_variable}
use Rattle.ec_types.specs.Arguments.{stays_local}
use Rattle.ec_types.specs.Expressions.{judged}
use Rattle.ec_types.specs.Parts.{Part, is_place, valued}
use Rattle.ec_types.specs.Judged.{Judged, Fine, must, ◌and_then◌, both, ◌also◌}
use Rattle.ec_types.specs.Operators.{assignable}
use Rattle.ec_types.specs.Types.{is_array, is_scalar}

-- an array field wants an index
abbrev pub no_array : Span → ExprType → Judged ExprType
no_array at t = Ok t also must (not (is_array t)) Mismatch at

-- what stands left of `=` is a variable or an access, with an index where it is an array
abbrev pub element : Part → Judged ExprType
element left = valued left and_then no_array left.at

abbrev pub set_place : Part → Judged ExprType
set_place left = element left also must (is_place left.form) Mismatch left.at

abbrev pub sides : Part → Part → Judged (ExprType × ExprType)
sides left right = both (set_place left) (valued right)

module _ (c : Context) where
  -- the value is of the type of what it is put into, and local where that asks it; the former is told at a place of its own
  abbrev pub fits_into : Span → ExprType → Bool → Part → ExprType → Fine
  fits_into at target asks right t =
      must (assignable target t) Mismatch at also stays_local (not asks || is_local c right.form) right.at t

  abbrev pub set : Span → Part → Part → Fine
  set at left right = sides left right and_then (λ p. fits_into at p.0 (is_local_variable c left.form) right p.1)

  abbrev pub assigned : Span → Assign → Fine
  assigned at a = set at (judged c a.left) (judged c a.right)

  abbrev pub condition : Span → Expr → Fine
  condition at e = valued (judged c e) and_then (λ t. must (is_scalar t) Mismatch at)
