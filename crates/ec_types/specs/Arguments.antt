-- Arguments and what parameters ask of them.
use Rattle.std.specs.Prelude.{Bool, true, false, not, if◌then◌else◌, ◌||◌, List, [], ◌∷◌, drop, slice_get, Option, Some, None, Ok}
use Rattle.ec_base.specs.declared.token.Span.{Span}
use Rattle.ec_syntax.specs.declared.item.Func.{Func}
use Rattle.ec_syntax.specs.declared.statement.Decl.{Decl}
use Rattle.ec_base.specs.declared.reason.Reason.TheVariants.{NotLocal, PrintInside}
use Rattle.ec_types.specs.declared.value_type.ExprType.{ExprType}
use Rattle.ec_types.specs.declared.value_type.ExprType.TheVariants.{Value}
use Rattle.ec_types.specs.Context.{is_local_mode, is_shared_mode}
use Rattle.ec_types.specs.Judged.{Judged, refused_beside, Fine, fine, must, ◌and_then◌, ◌also◌, ◌and◌}
use Rattle.ec_types.specs.Operators.{passes}
use Rattle.ec_types.specs.Parts.{Form, Part, valued, shared}
use Rattle.ec_types.specs.Types.{value_type, is_pointer, of_value}

-- a pointer that a local parameter or variable gets is local
abbrev pub stays_local : Bool → Span → ExprType → Fine
stays_local local at t = must (local || not (of_value is_pointer t)) NotLocal at

-- what an argument for a parameter is, where a placement lets local parameters have expressions of some forms
abbrev pub argument : (Form → Bool) → Decl → Part → Judged ExprType
argument lets d a =
    if is_shared_mode d.mode then shared a
    else (valued a and_then (λ t. Ok t also stays_local (not (is_local_mode d.mode) || lets a.form) a.at t))

-- whether an argument fits its parameter; without one it doesn't
abbrev pub fits : (Form → Bool) → Option Decl → Part → Judged Bool
fits lets None a = valued a and_then (λ t. Ok false)
fits lets (Some d) a = argument lets d a and_then (λ t. Ok (passes d t))

abbrev pub is_none_left : List Decl → Bool
is_none_left [] = true
is_none_left (d ∷ ds) = false

-- whether there are as many arguments as parameters, and each fits
abbrev pub arguments : (Form → Bool) → List Decl → List Part → Judged Bool
arguments lets ds [] = Ok (is_none_left ds)
arguments lets ds (a ∷ rest) = fits lets (slice_get ds 0) a and arguments lets (drop 1 ds) rest

-- ---- the function that is called

abbrev pub params_of : Option Func → List Decl
params_of None = []
params_of (Some f) = f.params

-- a call that comes to a `printf` stands in no branch and no body of a `forall`
abbrev pub quiet : Bool → Option Span → Span → Fine
quiet true (Some first) at = refused_beside PrintInside at first
quiet inside prints at = fine

abbrev pub result_type : Func → Bool → Option ExprType
result_type f fits = if fits then Some (Value (value_type f.result)) else None
