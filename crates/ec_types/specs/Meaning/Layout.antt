-- What variables and cells are at first, which cells elements and fields have, and how shapes are numbered.
use Rattle.std.specs.Prelude.{ℕ, suc, ◌+◌, ◌-◌, ◌==◌, if◌then◌else◌, List, [], ◌∷◌, map, replicate, Option, Some, None}
use Rattle.std.specs.Bool.{then_some}
use Rattle.ec_base.specs.declared.text.Text.{Text}
use Rattle.ec_calls.specs.Effects.{joined}
use Rattle.ec_calls.specs.Items.{struct_named}
use Rattle.ec_syntax.specs.declared.item.Field.{Field}
use Rattle.ec_syntax.specs.declared.item.StructDef.{StructDef}
use Rattle.ec_syntax.specs.Grammar.Words.{same}
use Rattle.ec_types.specs.declared.value_type.ExprType.{ExprType}
use Rattle.ec_types.specs.declared.value_type.ExprType.TheVariants.{Value}
use Rattle.ec_types.specs.declared.value_type.ValueBase.{ValueBase}
use Rattle.ec_types.specs.declared.value_type.ValueBase.TheVariants.{Struct}
use Rattle.ec_types.specs.declared.value_type.ValueType.{ValueType}
use Rattle.ec_types.specs.Places.{place}
use Rattle.ec_types.specs.Sizes.{cells_of, size_of}
use Rattle.ec_types.specs.Types.{value_type, is_pointer}
use Rattle.ec_types.specs.Meaning.Tree.{Shape, Pointer}
use Rattle.ec_types.specs.Meaning.Values.{Val, Null, zero_value}

-- 0, or NULL for a pointer
abbrev pub first_value : ValueType → Val
first_value t = if is_pointer t then Null else zero_value

-- ---- the cells of a fresh element

abbrev pub field_cells : Field → List Val
field_cells f = replicate (cells_of f.array) (first_value (value_type f.ty))

abbrev pub struct_cells : Option StructDef → List Val
struct_cells None = zero_value ∷ []
struct_cells (Some s) = joined (map field_cells s.fields)

abbrev pub base_cells : List StructDef → ValueBase → List Val
base_cells all (Struct s) = struct_cells (struct_named all s)
base_cells all base = zero_value ∷ []

abbrev pub element_cells : List StructDef → ValueType → List Val
element_cells all t = if t.stars == 0 then base_cells all t.base else Null ∷ []

-- ---- how many they are

abbrev pub or_zero : Option ℕ → ℕ
or_zero None = 0
or_zero (Some n) = n

abbrev pub one_or : Option ℕ → ℕ
one_or None = 1
one_or (Some n) = n

abbrev pub base_size : List StructDef → ValueBase → ℕ
base_size all (Struct s) = one_or (size_of all s)
base_size all base = 1

abbrev pub element_size : List StructDef → ValueType → ℕ
element_size all t = if t.stars == 0 then base_size all t.base else 1

-- ---- shapes

abbrev pub base_shape : List StructDef → ValueBase → Shape
base_shape all (Struct s) = 2 + or_zero (place (map (λ d. d.name.text) all) s)
base_shape all base = 0

abbrev pub shape_of : List StructDef → ValueType → Shape
shape_of all t = if t.stars == 0 then base_shape all t.base else 1

-- what stands behind a pointer
abbrev pub pointer_to : List StructDef → ValueType → Pointer
pointer_to all t = then_some (is_pointer t) (shape_of all (record t { stars = t.stars - 1 }))

abbrev pub pointer_of : List StructDef → ExprType → Pointer
pointer_of all (Value t) = pointer_to all t
pointer_of all type = None

-- ---- fields

-- a field, its number in its struct, and the first of its cells
pub record Found : Type 0 where
  pub number : ℕ
  pub first : ℕ
  pub field : Field

-- the first field of this name, where the fields begin with this number and at this cell
abbrev pub found : ℕ → ℕ → List Field → Text → Option Found
found n at [] name = None
found n at (f ∷ fs) name =
    if same f.name.text name then Some (record { number = n; first = at; field = f })
    else found (suc n) (at + cells_of f.array) fs name

abbrev pub found_in : Option StructDef → Text → Option Found
found_in None name = None
found_in (Some s) name = found 0 0 s.fields name
