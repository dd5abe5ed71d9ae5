-- How a typed program becomes a resolved tree: names become numbers, and types say which cells an access has. Where a program
-- isn't typed anything may stand.
use Rattle.std.specs.Prelude.{ℕ, true, false, Bool, if◌then◌else◌, List, [], ◌++◌, map, codes, Option, Some, None, option_map}
use Rattle.std.specs.Option.{is_some}
use Rattle.ec_base.specs.declared.text.Text.{Text}
use Rattle.ec_base.specs.declared.token.Span.{Span}
use Rattle.ec_calls.specs.Effects.{joined}
use Rattle.ec_calls.specs.Items.{functions, structs, function_named, struct_named}
use Rattle.ec_syntax.specs.declared.expression.Call.{Call, fold-Call}
use Rattle.ec_syntax.specs.declared.expression.Expr.{Expr as Written, fold-Expr}
use Rattle.ec_syntax.specs.declared.expression.Placement.{Placement, fold-Placement}
use Rattle.ec_syntax.specs.declared.expression.ExprKind.TheOpen.{ExprKind-F, Placement-F, Call-F, Expr-F}
use Rattle.ec_syntax.specs.declared.item.Func.{Func}
use Rattle.ec_syntax.specs.declared.item.Program.{Program}
use Rattle.ec_syntax.specs.declared.item.StructDef.{StructDef}
use Rattle.ec_syntax.specs.declared.name.Mode.{Mode}
use Rattle.ec_syntax.specs.declared.name.Mode.TheVariants as mode
use Rattle.ec_syntax.specs.declared.statement.Assign.{Assign}
use Rattle.ec_syntax.specs.declared.statement.Body.{Body, fold-Body}
use Rattle.ec_syntax.specs.declared.statement.Decl.{Decl as Declaration}
use Rattle.ec_syntax.specs.declared.statement.Stmt.{Stmt as Statement, fold-Stmt}
use Rattle.ec_syntax.specs.declared.statement.StmtKind.TheOpen.{StmtKind-F, Body-F, Stmt-F}
use Rattle.ec_types.specs.declared.value_type.ExprType.{ExprType}
use Rattle.ec_types.specs.declared.value_type.ExprType.TheVariants.{Value, Null, Shared}
use Rattle.ec_types.specs.declared.value_type.ValueType.{ValueType}
use Rattle.ec_types.specs.Names.{variable_named}
use Rattle.ec_types.specs.Operators.{pointee, struct_behind, field_type, variable_type}
use Rattle.ec_types.specs.Places.{place as place_among}
use Rattle.ec_types.specs.Sizes.{cells_of}
use Rattle.ec_types.specs.Types.{value_type, pointer_to, is_void, is_pointer, is_array, number}
use Rattle.ec_types.specs.Meaning.Layout.{or_zero, first_value, element_cells, element_size, shape_of, pointer_to as pointer_behind, pointer_of, Found, found_in}
use Rattle.ec_types.specs.Meaning.Tree as t
use Rattle.ec_types.specs.Meaning.Tree.{Pointer, FieldAt, Variable, Expr, Place, Part, Placing, Invocation, Exprs, Assignment, Decl, Stmt, Stmts, Function, part, exprs, stmts, otherwise}

-- The structs and functions of the program, and the parameters and variables of the function in the order in which they are
-- declared.
pub record Scope : Type 0 where
  pub structs : List StructDef
  pub functions : List Func
  pub variables : List Declaration

-- what an expression is: an access, which may give a pointer, or any other
pub data Form : Type 0 where
  Plain : Expr → Form
  Access : Pointer → Place → Form

pub record Resolved : Type 0 where
  pub type : ExprType
  pub form : Form

abbrev pub value_of : Form → Expr
value_of (Plain e) = e
value_of (Access pointer p) = t.Load pointer p

-- what is no access may stand for the element behind it
abbrev pub place_of : Form → Place
place_of (Plain e) = t.Element (record { from = 0; to = 0 }) 1 e t.Missing
place_of (Access pointer p) = p

abbrev pub valued : ExprType → Expr → Resolved
valued type e = record { type = type; form = Plain e }

abbrev pub accessed : List StructDef → ExprType → Place → Resolved
accessed all type p = record { type = type; form = Access (pointer_of all type) p }

abbrev pub value : Resolved → Expr
value a = value_of a.form

abbrev pub place : Resolved → Place
place a = place_of a.form

-- the variable that an expression is, and where it stands
abbrev pub variable_in : Form → Option (Span × ℕ)
variable_in (Plain (t.Var at x)) = Some (at, x)
variable_in form = None

-- ---- numbers and types

abbrev pub or_number : Option ExprType → ExprType
or_number None = number
or_number (Some t) = t

-- a variable's number is its place among those of the function
abbrev pub variable_number : Scope → Text → ℕ
variable_number s x = or_zero (place_among (map (λ d. d.name.text) s.variables) x)

abbrev pub variable_is : Scope → Text → ExprType
variable_is s x = or_number (option_map variable_type (variable_named s.variables x))

-- a variable, as an expression of this type
abbrev pub named : Scope → Span → ExprType → Text → Resolved
named s at type x = valued type (t.Var at (variable_number s x))

abbrev pub function_number : List Func → Text → ℕ
function_number fs f = or_zero (place_among (map (λ g. g.name.text) fs) f)

abbrev pub function_gives : List Func → Text → ExprType
function_gives fs f = or_number (option_map (λ g. Value (value_type g.result)) (function_named fs f))

-- ---- accesses

abbrev pub size_of : List StructDef → ExprType → ℕ
size_of all (Value v) = element_size all v
size_of all type = 1

-- what stands behind a pointer
abbrev pub behind : ExprType → ExprType
behind type = or_number (pointee type)

-- `*e`, and `e[i]` where e is a pointer
abbrev pub element_at : List StructDef → Span → Resolved → Part → Resolved
element_at all at a index = accessed all (behind a.type) (t.Element at (size_of all (behind a.type)) (value a) index)

-- `e[i]` where e is an array field
abbrev pub item : List StructDef → Span → Resolved → Expr → Resolved
item all at a i = accessed all number (t.Item at (place a) i)

-- `e[i]`
abbrev pub indexed : List StructDef → Span → Resolved → Expr → Resolved
indexed all at a i = if is_array a.type then item all at a i else element_at all at a (t.Given i)

-- the field of this name, in the struct behind so many pointers
abbrev pub field_in : List StructDef → ℕ → ExprType → Text → Option Found
field_in all stars type name = of_struct (struct_behind stars type)
  where
    of_struct : Option Text → Option Found
    of_struct None = None
    of_struct (Some s) = found_in (struct_named all s) name

abbrev pub type_at : Option Found → ExprType
type_at None = number
type_at (Some f) = field_type f.field

abbrev pub field_at : Option Found → FieldAt
field_at None = record { number = 0; first = 0; length = 1 }
field_at (Some f) = record { number = f.number; first = f.first; length = cells_of f.field.array }

-- `e->f`
abbrev pub arrow : List StructDef → Span → Resolved → Text → Resolved
arrow all at a name = of_field (field_in all 1 a.type name)
  where
    of_field : Option Found → Resolved
    of_field f = accessed all (type_at f) (t.Behind at (size_of all (behind a.type)) (field_at f) (value a))

-- `e.f`
abbrev pub dot : List StructDef → Span → Resolved → Text → Resolved
dot all at a name = of_field (field_in all 0 a.type name)
  where
    of_field : Option Found → Resolved
    of_field f = accessed all (type_at f) (t.Field at (field_at f) (place a))

-- ---- assignments

-- a whole element, as it stands behind a pointer
abbrev pub is_struct : ExprType → Bool
is_struct type = is_some (struct_behind 0 type)

-- a variable, a struct, or another place is set
abbrev pub assigned : Resolved → Resolved → Assignment
assigned left right = to (variable_in left.form)
  where
    to : Option (Span × ℕ) → Assignment
    to (Some x) = t.SetVar x.0 x.1 (value right)
    to None = if is_struct left.type then t.Copy (place left) (place right) else t.Store (place left) (value right)

-- ---- expressions

-- a `malloc` of so many elements
abbrev pub allocated : List StructDef → Span → ValueType → Part → Resolved
allocated all at element count = valued (Value (pointer_to element)) (t.New at (shape_of all element) (element_cells all element) count)

-- a call, and what it gives
abbrev pub Calling : Type 0
Calling = Invocation × ExprType

module _ (s : Scope) where
  abbrev pub of_place : Placement-F (Span → Resolved) Placing Calling Resolved → Placing
  of_place Placement-F.Here = t.OnThis
  of_place (Placement-F.OwnerOf a) = t.OnOwner (value a)
  of_place Placement-F.Home = t.OnHome
  of_place (Placement-F.Node a) = t.OnNode (value a)
  of_place Placement-F.Anywhere = t.OnAny

  abbrev pub of_call : Call-F (Span → Resolved) Placing Calling Resolved → Calling
  of_call x = (t.Invoke x.at (function_number s.functions x.name.text) (exprs (map value x.args)) x.place, function_gives s.functions x.name.text)

  abbrev pub of_kind : ExprKind-F (Span → Resolved) Placing Calling Resolved → Span → Resolved
  of_kind (ExprKind-F.Number n) at = valued number (t.Number at n)
  of_kind ExprKind-F.Null at = valued Null (t.Nil at)
  of_kind (ExprKind-F.Var x) at = named s at (variable_is s x) x
  of_kind (ExprKind-F.Paren a) at = a
  of_kind (ExprKind-F.Unary op a) at = valued number (t.Unary at op (value a))
  of_kind (ExprKind-F.Binary op a b) at = valued number (t.Binary at op (value a) (value b))
  of_kind (ExprKind-F.And a b) at = valued number (t.And at (value a) (value b))
  of_kind (ExprKind-F.Or a b) at = valued number (t.Or at (value a) (value b))
  of_kind (ExprKind-F.Deref a) at = element_at s.structs at a t.Missing
  of_kind (ExprKind-F.Index a i) at = indexed s.structs at a (value i)
  of_kind (ExprKind-F.Arrow a f) at = arrow s.structs at a f
  of_kind (ExprKind-F.Dot a f) at = dot s.structs at a f
  of_kind (ExprKind-F.Call x) at = valued x.1 (t.Called x.0)
  of_kind (ExprKind-F.New to count element) at = allocated s.structs at (value_type element) (part (option_map value count))
  of_kind (ExprKind-F.ValueOf a) at = valued number (t.ValueOf at (value a))
  of_kind (ExprKind-F.Address x) at = named s at Shared x

  abbrev pub of_expression : Expr-F (Span → Resolved) Placing Calling Resolved → Resolved
  of_expression e = e.kind e.at

  abbrev pub resolved : Written → Resolved
  resolved = fold-Expr (Span → Resolved) Placing Calling Resolved of_kind of_place of_call of_expression

  abbrev pub placed : Placement → Placing
  placed = fold-Placement (Span → Resolved) Placing Calling Resolved of_kind of_place of_call of_expression

  abbrev pub resolved_call : Call → Calling
  resolved_call = fold-Call (Span → Resolved) Placing Calling Resolved of_kind of_place of_call of_expression

  abbrev pub valued_as : Written → Expr
  valued_as e = value (resolved e)

  -- ---- assignments and declarations

  abbrev pub assignment : Assign → Assignment
  assignment a = assigned (resolved a.left) (resolved a.right)

  abbrev pub initial : Option Written → Part
  initial e = part (option_map valued_as e)

  abbrev pub declaration : Declaration → Decl
  declaration d = of_mode d.mode
    where
      plain : Decl
      plain = t.Plain (variable_number s d.name.text) (first_value (value_type d.ty)) (initial d.init)

      of_mode : Mode → Decl
      of_mode mode.Plain = plain
      of_mode mode.Local = plain
      of_mode mode.Shared = t.Shared (variable_number s d.name.text)

  -- ---- statements

  abbrev pub value_list : List Written → Exprs
  value_list es = exprs (map value (map resolved es))

  abbrev pub of_statement_kind : StmtKind-F (Span → Stmt) (List Decl × Stmts) Stmt → Span → Stmt
  of_statement_kind StmtKind-F.Empty at = t.Skip
  of_statement_kind (StmtKind-F.Body b) at = t.Block b.0 b.1
  of_statement_kind (StmtKind-F.Par xs) at = t.Par at (stmts xs)
  of_statement_kind (StmtKind-F.If e a b) at = t.If (valued_as e) a (otherwise b)
  of_statement_kind (StmtKind-F.While e x) at = t.While (valued_as e) x
  of_statement_kind (StmtKind-F.For i e n x) at = t.For at (option_map assignment i) (initial e) (option_map assignment n) x
  of_statement_kind (StmtKind-F.Forall i e n x) at = t.Forall at (assignment i) (valued_as e) (assignment n) x
  of_statement_kind (StmtKind-F.Set a) at = t.Set (assignment a)
  of_statement_kind (StmtKind-F.Eval x) at = t.Eval (resolved_call x).0
  of_statement_kind (StmtKind-F.WriteTo a b) at = t.WriteTo at (valued_as a) (valued_as b)
  of_statement_kind (StmtKind-F.AddTo a b) at = t.AddTo at (valued_as a) (valued_as b)
  of_statement_kind (StmtKind-F.Print string es) at = t.Print string (value_list es)
  of_statement_kind (StmtKind-F.Return e) at = t.Return (initial e)

  abbrev pub of_body : Body-F (Span → Stmt) (List Decl × Stmts) Stmt → List Decl × Stmts
  of_body b = (map declaration b.decls, stmts b.stmts)

  abbrev pub of_statement : Stmt-F (Span → Stmt) (List Decl × Stmts) Stmt → Stmt
  of_statement x = x.kind x.at

  abbrev pub statement : Statement → Stmt
  statement = fold-Stmt (Span → Stmt) (List Decl × Stmts) Stmt of_statement_kind of_body of_statement

  abbrev pub body : Body → List Decl × Stmts
  body = fold-Body (Span → Stmt) (List Decl × Stmts) Stmt of_statement_kind of_body of_statement

-- ---- the variables of a function

abbrev pub or_none : Option (List Declaration) → List Declaration
or_none None = []
or_none (Some ds) = ds

abbrev pub declared_by_kind : StmtKind-F (Span → List Declaration) (List Declaration) (List Declaration) → Span → List Declaration
declared_by_kind StmtKind-F.Empty at = []
declared_by_kind (StmtKind-F.Body b) at = b
declared_by_kind (StmtKind-F.Par xs) at = joined xs
declared_by_kind (StmtKind-F.If e a b) at = a ++ or_none b
declared_by_kind (StmtKind-F.While e x) at = x
declared_by_kind (StmtKind-F.For i e n x) at = x
declared_by_kind (StmtKind-F.Forall i e n x) at = x
declared_by_kind (StmtKind-F.Set a) at = []
declared_by_kind (StmtKind-F.Eval x) at = []
declared_by_kind (StmtKind-F.WriteTo a b) at = []
declared_by_kind (StmtKind-F.AddTo a b) at = []
declared_by_kind (StmtKind-F.Print string es) at = []
declared_by_kind (StmtKind-F.Return e) at = []

abbrev pub declared_by_body : Body-F (Span → List Declaration) (List Declaration) (List Declaration) → List Declaration
declared_by_body b = b.decls ++ joined b.stmts

abbrev pub declared_by_statement : Stmt-F (Span → List Declaration) (List Declaration) (List Declaration) → List Declaration
declared_by_statement x = x.kind x.at

-- in source order, at any depth
abbrev pub declared_in : Body → List Declaration
declared_in =
    fold-Body (Span → List Declaration) (List Declaration) (List Declaration) declared_by_kind declared_by_body declared_by_statement

abbrev pub variables : Func → List Declaration
variables f = f.params ++ declared_in f.body

-- a shared variable points at its one cell
abbrev pub variable : List StructDef → Declaration → Variable
variable ss d = of_mode d.mode
  where
    of_mode : Mode → Variable
    of_mode mode.Plain =
        record { at = d.name.at; shared = false; local = false; pointer = pointer_behind ss (value_type d.ty) }
    of_mode mode.Local =
        record { at = d.name.at; shared = false; local = true; pointer = pointer_behind ss (value_type d.ty) }
    of_mode mode.Shared = record { at = d.name.at; shared = true; local = false; pointer = Some 0 }

-- ---- functions and programs

abbrev pub scope_of : List StructDef → List Func → Func → Scope
scope_of ss fs f = record { structs = ss; functions = fs; variables = variables f }

abbrev pub function_in : Scope → Func → Function
function_in s f = record {
  params = map (λ d. variable_number s d.name.text) f.params;
  variables = map (variable s.structs) s.variables;
  void = is_void (value_type f.result);
  pointer = is_pointer (value_type f.result);
  shape = or_zero (pointer_behind s.structs (value_type f.result));
  decls = (body s f.body).0;
  body = (body s f.body).1;
}

abbrev pub function : List StructDef → List Func → Func → Function
function ss fs f = function_in (scope_of ss fs f) f

abbrev pub program : Program → List Function
program p = map (function (structs p) (functions p)) (functions p)

abbrev pub main_number : Program → ℕ
main_number p = function_number (functions p) (codes "main")
