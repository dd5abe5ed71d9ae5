-- The shapes that variables name are there, and shared variables point at ints.
use Rattle.std.proofs.Common.{◌≡◌, refl, ℕ, zero, suc, ◌<◌, true, List, [], ◌∷◌, length, map, get_or, Option, Some}
use Rattle.std.proofs.lemmas.Bool.{false≢true}
use Rattle.ec_simple.specs.Expressions.{no_variable}
use Rattle.ec_simple.specs.Lower.{shapes}
use Rattle.ec_syntax.specs.declared.expression.Expr.{Expr}
use Rattle.ec_syntax.specs.declared.item.StructDef.{StructDef}
use Rattle.ec_syntax.specs.declared.name.Mode.{Mode}
use Rattle.ec_syntax.specs.declared.name.Mode.TheVariants as mode
use Rattle.ec_syntax.specs.declared.name.Name.{Name}
use Rattle.ec_syntax.specs.declared.name.Ty.{Ty}
use Rattle.ec_syntax.specs.declared.statement.Decl.{Decl}
use Rattle.ec_types.specs.Meaning.Layout.{or_zero}
use Rattle.ec_types.specs.Meaning.Resolution.{variable}
use Rattle.ec_types.specs.Types.{value_type}
use Rattle.ec_simple.proofs.sound.Each.{Each}
use Rattle.ec_simple.proofs.sound.Shapes.{base_known, some_shape, pointer_below}

-- the struct that the type of a declaration names is declared
abbrev pub IsKnown : List StructDef → Decl → Type 0
IsKnown ss d = base_known ss (value_type d.ty).base ≡ true

variable_by :
    (ss : List StructDef) (name : Name) (m : Mode) (ty : Ty) (init : Option Expr) →
    base_known ss (value_type ty).base ≡ true →
    or_zero (variable ss (record { name = name; mode = m; ty = ty; init = init })).pointer < length (shapes ss)
variable_by ss name mode.Plain ty init k = pointer_below ss (value_type ty) k
variable_by ss name mode.Local ty init k = pointer_below ss (value_type ty) k
variable_by ss name mode.Shared ty init k = some_shape ss

pub variables_below :
    (ss : List StructDef) (ds : List Decl) → Each (IsKnown ss) ds → (x : ℕ) →
    or_zero (get_or (map (variable ss) ds) x no_variable).pointer < length (shapes ss)
variables_below ss [] h x = some_shape ss
variables_below ss (d ∷ ds) h zero = variable_by ss d.name d.mode d.ty d.init h.0
variables_below ss (d ∷ ds) h (suc x) = variables_below ss ds h.1 x

-- a shared variable points at an int
shared_by :
    (ss : List StructDef) (name : Name) (m : Mode) (ty : Ty) (init : Option Expr) →
    (variable ss (record { name = name; mode = m; ty = ty; init = init })).shared ≡ true →
    (variable ss (record { name = name; mode = m; ty = ty; init = init })).pointer ≡ Some 0
shared_by ss name mode.Plain ty init h = absurd (false≢true h)
shared_by ss name mode.Local ty init h = absurd (false≢true h)
shared_by ss name mode.Shared ty init h = refl

pub variables_shared :
    (ss : List StructDef) (ds : List Decl) (x : ℕ) → (get_or (map (variable ss) ds) x no_variable).shared ≡ true →
    (get_or (map (variable ss) ds) x no_variable).pointer ≡ Some 0
variables_shared ss [] x h = absurd (false≢true h)
variables_shared ss (d ∷ ds) zero h = shared_by ss d.name d.mode d.ty d.init h
variables_shared ss (d ∷ ds) (suc x) h = variables_shared ss ds x h
