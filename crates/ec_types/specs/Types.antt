-- Types of values and of expressions.
use Rattle.std.specs.Prelude.{◌+◌, ◌==◌, Bool, true, false, not, ◌&&◌, ◌||◌, nat_lt}
use Rattle.ec_syntax.specs.declared.name.Base.{Base}
use Rattle.ec_syntax.specs.declared.name.Base.TheVariants as written
use Rattle.ec_syntax.specs.declared.name.Ty.{Ty}
use Rattle.ec_syntax.specs.Grammar.Words.{same}
use Rattle.ec_types.specs.declared.value_type.ExprType.{ExprType}
use Rattle.ec_types.specs.declared.value_type.ExprType.TheVariants.{Value, Null, Array, Shared, SharedName}
use Rattle.ec_types.specs.declared.value_type.ValueBase.{ValueBase}
use Rattle.ec_types.specs.declared.value_type.ValueBase.TheVariants.{Void, Int, Struct}
use Rattle.ec_types.specs.declared.value_type.ValueType.{ValueType}

-- ---- types of values

abbrev pub base_of : Base → ValueBase
base_of written.Void = Void
base_of written.Int = Int
base_of (written.Struct n) = Struct n.text

-- a type as it is written, without the place of its name
abbrev pub value_type : Ty → ValueType
value_type ty = record { base = base_of ty.base; stars = ty.stars }

abbrev pub int : ValueType
int = record { base = Int; stars = 0 }

abbrev pub pointer_to : ValueType → ValueType
pointer_to t = record t { stars = t.stars + 1 }

abbrev pub same_base : ValueBase → ValueBase → Bool
same_base Void Void = true
same_base Int Int = true
same_base (Struct s) (Struct t) = same s t
same_base a b = false

abbrev pub same_type : ValueType → ValueType → Bool
same_type t u = same_base t.base u.base && (t.stars == u.stars)

-- an element type: `int`, a struct, or a pointer to an element type
abbrev pub is_element : ValueType → Bool
is_element t = not (same_base t.base Void)

abbrev pub is_int : ValueType → Bool
is_int t = same_type t int

abbrev pub is_void : ValueType → Bool
is_void t = same_base t.base Void && (t.stars == 0)

-- a pointer to an element type
abbrev pub is_pointer : ValueType → Bool
is_pointer t = is_element t && nat_lt 0 t.stars

-- ---- types of expressions

abbrev pub number : ExprType
number = Value int

-- the test holds of the value that the expression has
abbrev pub of_value : (ValueType → Bool) → ExprType → Bool
of_value test (Value t) = test t
of_value test Null = false
of_value test Array = false
of_value test Shared = false
of_value test SharedName = false

abbrev pub is_null : ExprType → Bool
is_null Null = true
is_null t = false

abbrev pub is_array : ExprType → Bool
is_array Array = true
is_array t = false

abbrev pub is_shared : ExprType → Bool
is_shared Shared = true
is_shared t = false

abbrev pub is_number : ExprType → Bool
is_number = of_value is_int

-- NULL is a pointer to no type
abbrev pub points : ExprType → Bool
points t = of_value is_pointer t || is_null t

-- what may be a condition
abbrev pub is_scalar : ExprType → Bool
is_scalar t = is_number t || points t
