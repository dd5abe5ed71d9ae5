-- The simple form of a program: its shapes, its written functions in order, and then the functions of branches and bodies.
use Rattle.std.specs.Prelude.{ℕ, ◌+◌, Bool, true, false, if◌then◌else◌, List, [], ◌∷◌, ◌++◌, length, map}
use Rattle.ec_base.specs.declared.text.Text.{Text}
use Rattle.ec_calls.specs.Items.{functions, structs}
use Rattle.ec_simple.specs.declared.form.FuncKind.TheVariants as kind
use Rattle.ec_simple.specs.declared.form.SField.{SField}
use Rattle.ec_simple.specs.declared.form.SFunc.{SFunc}
use Rattle.ec_simple.specs.declared.form.Shape.{Shape}
use Rattle.ec_simple.specs.declared.form.Form.{Form}
use Rattle.ec_simple.specs.declared.form.SVar.{SVar}
use Rattle.ec_simple.specs.Expressions.{Scope, of_variable}
use Rattle.ec_simple.specs.Statements.{LowStmt, joined, low_declarations, low_stmts}
use Rattle.ec_syntax.specs.declared.item.Field.{Field}
use Rattle.ec_syntax.specs.declared.item.Program.{Program as Source}
use Rattle.ec_syntax.specs.declared.item.StructDef.{StructDef}
use Rattle.ec_types.specs.Sizes.{cells, cells_of}
use Rattle.ec_types.specs.Types.{value_type, is_pointer}
use Rattle.ec_types.specs.Meaning.Resolution as resolution
use Rattle.ec_types.specs.Meaning.Tree.{Function}

-- ---- shapes

abbrev pub of_one_cell : Bool → Shape
of_one_cell pointer = record { cells = 1; fields = record { at = 0; cells = 1; pointer = pointer } ∷ [] }

-- fields whose first cell is this one
abbrev pub fields_from : ℕ → List Field → List SField
fields_from at [] = []
fields_from at (f ∷ fs) =
    record { at = at; cells = cells_of f.array; pointer = is_pointer (value_type f.ty) } ∷ fields_from (at + cells_of f.array) fs

abbrev pub of_struct : StructDef → Shape
of_struct d = record { cells = cells d; fields = fields_from 0 d.fields }

abbrev pub shapes : List StructDef → List Shape
shapes ds = of_one_cell false ∷ of_one_cell true ∷ map of_struct ds

-- ---- functions; g is the number of the next branch or body

abbrev pub scope_of : List Function → Text → Function → ℕ → Scope
scope_of all name f g =
    record { functions = all; name = name; params = f.params; variables = f.variables; first = g; place = λ x. x }

-- a variable that is never set holds the result of a function that ends without `return`
abbrev pub result_variable : Function → List SVar
result_variable f =
    if f.void then [] else
    record { at = record { from = 0; to = 0 }; local = false; pointer = f.pointer; shape = f.shape } ∷ []

abbrev pub own_variables : Function → List SVar
own_variables f = map of_variable f.variables ++ result_variable f

abbrev pub low_body : List Function → Text → Function → ℕ → LowStmt
low_body all name f g =
    let c = scope_of all name f g in
    let ld = low_declarations c f.decls (length (own_variables f)) in
    joined ld (low_stmts c f.body (length (own_variables f) + length ld.vars) g)

abbrev pub written : List Function → Text → Function → ℕ → SFunc
written all name f g = record {
  name = name;
  kind = kind.Written;
  vars = own_variables f ++ (low_body all name f g).vars;
  params = f.params;
  results = if f.void then [] else length f.variables ∷ [];
  body = (low_body all name f g).code;
}

abbrev pub all_written : List Function → List Text → List Function → ℕ → List SFunc
all_written all (name ∷ names) (f ∷ fs) g =
    written all name f g ∷ all_written all names fs (g + length (low_body all name f g).funcs)
all_written all names fs g = []

abbrev pub all_outlined : List Function → List Text → List Function → ℕ → List SFunc
all_outlined all (name ∷ names) (f ∷ fs) g =
    (low_body all name f g).funcs ++ all_outlined all names fs (g + length (low_body all name f g).funcs)
all_outlined all names fs g = []

-- ---- programs

-- of functions with these names
abbrev pub simple_form : List Shape → List Text → List Function → Form
simple_form shapes names fs =
    record { shapes = shapes; funcs = all_written fs names fs (length fs) ++ all_outlined fs names fs (length fs) }

abbrev pub lowered : Source → Form
lowered source =
    simple_form (shapes (structs source)) (map (λ f. f.name.text) (functions source)) (resolution.program source)
