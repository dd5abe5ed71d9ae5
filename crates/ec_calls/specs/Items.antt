-- The functions and structs of a program, and those that a name stands for.
use Rattle.std.specs.Prelude.{List, find, filter_map, Option, Some, None}
use Rattle.ec_base.specs.declared.text.Text.{Text}
use Rattle.ec_syntax.specs.declared.item.Func.{Func}
use Rattle.ec_syntax.specs.declared.item.Item.{Item}
use Rattle.ec_syntax.specs.declared.item.Item.TheVariants.{Struct as StructItem, Func as FuncItem}
use Rattle.ec_syntax.specs.declared.item.Program.{Program}
use Rattle.ec_syntax.specs.declared.item.StructDef.{StructDef}
use Rattle.ec_syntax.specs.Grammar.Words.{same}

abbrev pub as_function : Item → Option Func
as_function (FuncItem f) = Some f
as_function (StructItem s) = None

abbrev pub as_struct : Item → Option StructDef
as_struct (FuncItem f) = None
as_struct (StructItem s) = Some s

abbrev pub functions : Program → List Func
functions p = filter_map as_function p.items

abbrev pub structs : Program → List StructDef
structs p = filter_map as_struct p.items

-- what a name stands for: the first of this name
abbrev pub function_named : List Func → Text → Option Func
function_named all name = find (λ f. same f.name.text name) all

abbrev pub struct_named : List StructDef → Text → Option StructDef
struct_named all name = find (λ s. same s.name.text name) all
