-- What is known where a part of a program stands.
use Rattle.std.specs.Prelude.{◌&&◌, Bool, true, false, List, ◌++◌, Option, Some, None}
use Rattle.ec_base.specs.declared.text.Text.{Text}
use Rattle.ec_base.specs.declared.token.Span.{Span}
use Rattle.ec_syntax.specs.declared.item.Func.{Func}
use Rattle.ec_syntax.specs.declared.item.StructDef.{StructDef}
use Rattle.ec_syntax.specs.declared.name.Mode.{Mode}
use Rattle.ec_syntax.specs.declared.name.Mode.TheVariants as mode
use Rattle.ec_syntax.specs.declared.statement.Decl.{Decl}
use Rattle.ec_types.specs.declared.value_type.ValueType.{ValueType}
use Rattle.ec_types.specs.Parts.{Form, Variable, Access, Nothing, Allocation, Other, is_variable}
use Rattle.ec_types.specs.Names.{variable_named}

-- The structs and functions of the program, the first `printf` to which calls of each function come, the result of the
-- function, whether this is inside a branch or the body of a `forall`, and the variables in scope, as they were declared.
pub record Context : Type 0 where
  pub structs : List StructDef
  pub functions : List Func
  pub prints : Text → Option Span
  pub result : ValueType
  pub inside : Bool
  pub scope : List Decl

abbrev pub with_scope : List Decl → Context → Context
with_scope more c = record c { scope = c.scope ++ more }

abbrev pub inside_of : Context → Context
inside_of c = record c { inside = true }

-- ---- locality

abbrev pub is_local_mode : Mode → Bool
is_local_mode mode.Plain = false
is_local_mode mode.Local = true
is_local_mode mode.Shared = false

abbrev pub is_shared_mode : Mode → Bool
is_shared_mode mode.Plain = false
is_shared_mode mode.Local = false
is_shared_mode mode.Shared = true

abbrev pub declared_local : Option Decl → Bool
declared_local None = false
declared_local (Some d) = is_local_mode d.mode

-- NULL, a `malloc`, or a local variable
abbrev pub is_local : Context → Form → Bool
is_local c (Variable x) = declared_local (variable_named c.scope x)
is_local c Nothing = true
is_local c Allocation = true
is_local c Access = false
is_local c Other = false

abbrev pub is_local_variable : Context → Form → Bool
is_local_variable c form = is_variable form && is_local c form
