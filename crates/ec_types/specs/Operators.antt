-- Which types go together, and what comes of them.
use Rattle.std.specs.Prelude.{ℕ, ℤ, ◌-◌, ◌==◌, Bool, true, false, if◌then◌else◌, ◌&&◌, ◌||◌, List, Option, Some, None, option_map}
use Rattle.std.specs.Bool.{then_some}
use Rattle.ec_base.specs.declared.operator.BinOp.{BinOp}
use Rattle.ec_base.specs.declared.operator.BinOp.TheVariants.{Eq, Ne}
use Rattle.ec_base.specs.declared.operator.UnOp.{UnOp}
use Rattle.ec_base.specs.declared.operator.UnOp.TheVariants.{Neg, Inv, Not}
use Rattle.ec_base.specs.declared.text.Text.{Text}
use Rattle.ec_syntax.specs.declared.item.Field.{Field}
use Rattle.ec_syntax.specs.declared.item.StructDef.{StructDef}
use Rattle.ec_syntax.specs.declared.name.Mode.{Mode}
use Rattle.ec_syntax.specs.declared.name.Mode.TheVariants as mode
use Rattle.ec_syntax.specs.declared.name.Ty.{Ty}
use Rattle.ec_syntax.specs.declared.statement.Decl.{Decl}
use Rattle.ec_types.specs.declared.value_type.ExprType.{ExprType}
use Rattle.ec_types.specs.declared.value_type.ExprType.TheVariants.{Value, Null, Array, Shared, SharedName}
use Rattle.ec_types.specs.declared.value_type.ValueBase.{ValueBase}
use Rattle.ec_types.specs.declared.value_type.ValueBase.TheVariants.{Struct}
use Rattle.ec_types.specs.declared.value_type.ValueType.{ValueType}
use Rattle.ec_calls.specs.Items.{struct_named}
use Rattle.ec_types.specs.Names.{field_named}
use Rattle.ec_types.specs.Types.{value_type, pointer_to, same_type, is_element, is_int, is_pointer, number, is_null, is_array, is_shared, is_number, points, is_scalar}

-- ---- operators

-- two ints, two pointers to one type, or a pointer and NULL
abbrev pub comparable : ExprType → ExprType → Bool
comparable (Value t) (Value u) = (is_int t || is_pointer t) && same_type t u
comparable a b = points a && points b && (is_null a || is_null b)

abbrev pub operands_fit : BinOp → ExprType → ExprType → Bool
operands_fit Eq a b = comparable a b
operands_fit Ne a b = comparable a b
operands_fit op a b = is_number a && is_number b

abbrev pub operand_fits : UnOp → ExprType → Bool
operand_fits Neg a = is_number a
operand_fits Inv a = is_number a
operand_fits Not a = is_scalar a

abbrev pub binary_type : BinOp → ExprType → ExprType → Option ExprType
binary_type op a b = then_some (operands_fit op a b) number

abbrev pub unary_type : UnOp → ExprType → Option ExprType
unary_type op a = then_some (operand_fits op a) number

-- `&&` and `||`
abbrev pub logic_type : ExprType → ExprType → Option ExprType
logic_type a b = then_some (is_scalar a && is_scalar b) number

-- ---- accesses

-- `*e`
abbrev pub pointee : ExprType → Option ExprType
pointee (Value t) = then_some (is_pointer t) (Value (record t { stars = t.stars - 1 }))
pointee t = None

-- `e[i]`: an element of a block, or of an array field
abbrev pub element_type : ExprType → ExprType → Option ExprType
element_type e i = if is_number i then (if is_array e then Some number else pointee e) else None

-- a struct behind so many pointers
abbrev pub struct_behind : ℕ → ExprType → Option Text
struct_behind stars (Value t) = if t.stars == stars then base_struct t.base else None
  where
    base_struct : ValueBase → Option Text
    base_struct (Struct s) = Some s
    base_struct base = None
struct_behind stars t = None

abbrev pub field_type : Field → ExprType
field_type f = of_length f.array
  where
    of_length : Option ℤ → ExprType
    of_length None = Value (value_type f.ty)
    of_length (Some n) = Array

-- the field of this name in the struct of this name
abbrev pub member : List StructDef → Text → Text → Option ExprType
member all s f = of_struct (struct_named all s)
  where
    of_struct : Option StructDef → Option ExprType
    of_struct None = None
    of_struct (Some def) = option_map field_type (field_named def.fields f)

-- ---- `malloc`

abbrev pub cast_fits : Option Ty → ValueType → Bool
cast_fits None element = true
cast_fits (Some to) element = same_type (value_type to) (pointer_to element)

-- a block whose count is an int, where that is told
abbrev pub allocated : Option Ty → ValueType → Bool → Option ExprType
allocated to element counts =
    then_some (counts && is_element element && cast_fits to element) (Value (pointer_to element))

-- ---- what is passed on

-- a variable or parameter as an expression
abbrev pub variable_type : Decl → ExprType
variable_type d = of_mode d.mode
  where
    of_mode : Mode → ExprType
    of_mode mode.Plain = Value (value_type d.ty)
    of_mode mode.Local = Value (value_type d.ty)
    of_mode mode.Shared = if d.ty.stars == 0 then SharedName else Shared

-- a value of the second may be put where one of the first stands: of one type, or NULL for a pointer
abbrev pub assignable : ExprType → ExprType → Bool
assignable (Value t) (Value u) = is_element t && same_type t u
assignable (Value t) Null = is_pointer t
assignable a b = false

abbrev pub passes : Decl → ExprType → Bool
passes d t = of_mode d.mode
  where
    of_mode : Mode → Bool
    of_mode mode.Plain = assignable (Value (value_type d.ty)) t
    of_mode mode.Local = assignable (Value (value_type d.ty)) t
    of_mode mode.Shared = is_shared t
