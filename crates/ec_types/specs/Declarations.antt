-- Declared types that are allowed, and declarations of variables.
use Rattle.std.specs.Prelude.{Bool, not, ◌&&◌, ◌||◌}
use Rattle.std.specs.Option.{is_some}
use Rattle.ec_syntax.specs.declared.expression.Expr.{Expr}
use Rattle.ec_syntax.specs.declared.name.Mode.{Mode}
use Rattle.ec_syntax.specs.declared.name.Mode.TheVariants as mode
use Rattle.ec_syntax.specs.declared.item.Field.{Field}
use Rattle.ec_syntax.specs.declared.statement.Decl.{Decl}
use Rattle.ec_base.specs.declared.reason.Reason.TheVariants.{Mismatch}
use Rattle.ec_types.specs.declared.value_type.ExprType.TheVariants.{Value}
use Rattle.ec_types.specs.declared.value_type.ValueType.{ValueType}
use Rattle.ec_types.specs.Assignments.{fits_into}
use Rattle.ec_types.specs.Context.{Context, is_local_mode, is_shared_mode}
use Rattle.ec_types.specs.Expressions.{judged, value}
use Rattle.ec_types.specs.Judged.{Fine, must, optional, ◌and_then◌, ◌also◌}
use Rattle.ec_types.specs.Names.{known}
use Rattle.ec_types.specs.Types.{value_type, int, pointer_to, same_type, is_int, is_pointer, is_void}

-- ---- types that are allowed

-- an int or a pointer, and a local one is a pointer; what is shared is of the type given
abbrev pub may_be : ValueType → Mode → ValueType → Bool
may_be shared mode.Plain t = is_int t || is_pointer t
may_be shared mode.Local t = is_pointer t
may_be shared mode.Shared t = same_type t shared

abbrev pub is_variable : Decl → Bool
is_variable d = may_be int d.mode (value_type d.ty)

abbrev pub is_parameter : Decl → Bool
is_parameter d = may_be (pointer_to int) d.mode (value_type d.ty)

abbrev pub is_result : ValueType → Bool
is_result t = is_void t || is_int t || is_pointer t

-- an int, a pointer, or an array of ints
abbrev pub is_field : Field → Bool
is_field f = is_int (value_type f.ty) || (not (is_some f.array) && is_pointer (value_type f.ty))

-- ---- variables

-- the value fits the variable
abbrev pub initial : Context → Decl → Expr → Fine
initial c d e = value c e and_then fits_into c d.name.at (Value (value_type d.ty)) (is_local_mode d.mode) (judged c e)

abbrev pub initialised : Context → Decl → Expr → Fine
initialised c d e = initial c d e also must (not (is_shared_mode d.mode)) Mismatch d.name.at

abbrev pub declaration : Context → Decl → Fine
declaration c d = known c.structs d.ty also must (is_variable d) Mismatch d.name.at also optional (initialised c d) d.init

abbrev pub parameter : Context → Decl → Fine
parameter c d = known c.structs d.ty also must (is_parameter d) Mismatch d.name.at
