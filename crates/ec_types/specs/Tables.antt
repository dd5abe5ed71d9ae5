-- What tables of sizes hold.
use Rattle.std.specs.Prelude.{◌≡◌, ℕ, List, Option, Some, if◌then◌else◌, Vec}
use Rattle.std.specs.Global.{Global}
use Rattle.std.specs.Option.{option_or}
use Rattle.ec_base.specs.declared.text.Text.{Text}
use Rattle.ec_syntax.specs.declared.item.StructDef.{StructDef}
use Rattle.ec_syntax.specs.Grammar.Words.{same}
use Rattle.indexmap.specs.IndexMap.{IndexMap, get_by}
use Rattle.ec_types.specs.Sizes.{cells, size_of}

-- the cells that a table has for a name
abbrev pub size_in : {S : Type 0} → IndexMap (Vec ℕ Global) ℕ S → Text → Option ℕ
size_in table name = get_by (λ key. same name key.items) table

-- a table has the cells of these structs
abbrev pub HasSizes : {S : Type 0} → List StructDef → IndexMap (Vec ℕ Global) ℕ S → Type 0
HasSizes all table = (name : Text) → size_in table name ≡ size_of all name

-- a table takes a struct, where it has none of its name
abbrev pub TakesStruct : {S : Type 0} → StructDef → IndexMap (Vec ℕ Global) ℕ S → IndexMap (Vec ℕ Global) ℕ S → Type 0
TakesStruct s old new =
    (name : Text) (later : Option ℕ) →
    option_or (size_in new name) later ≡ option_or (size_in old name) (if same s.name.text name then Some (cells s) else later)
