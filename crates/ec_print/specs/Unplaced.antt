-- Trees without the places of their tokens: every place is the empty one at the start of the text.
use Rattle.std.specs.Prelude.{map, Option, Some, None}
use Rattle.ec_base.specs.declared.token.Span.{Span}
use Rattle.ec_syntax.specs.declared.expression.Call.{Call, fold-Call, roll-Call}
use Rattle.ec_syntax.specs.declared.expression.Expr.{Expr, fold-Expr, roll-Expr}
use Rattle.ec_syntax.specs.declared.expression.ExprKind.{ExprKind, fold-ExprKind, roll-ExprKind}
use Rattle.ec_syntax.specs.declared.expression.ExprKind.TheVariants.{New}
use Rattle.ec_syntax.specs.declared.expression.ExprKind.TheOpen.{ExprKind-F, Call-F, Expr-F}
use Rattle.ec_syntax.specs.declared.expression.Placement.{Placement, fold-Placement, roll-Placement}
use Rattle.ec_syntax.specs.declared.item.Field.{Field}
use Rattle.ec_syntax.specs.declared.item.Func.{Func}
use Rattle.ec_syntax.specs.declared.item.Item.{Item}
use Rattle.ec_syntax.specs.declared.item.Item.TheVariants.{Struct as StructItem, Func as FuncItem}
use Rattle.ec_syntax.specs.declared.item.Program.{Program}
use Rattle.ec_syntax.specs.declared.item.StructDef.{StructDef}
use Rattle.ec_syntax.specs.declared.name.Base.{Base}
use Rattle.ec_syntax.specs.declared.name.Base.TheVariants.{Void, Int, Struct}
use Rattle.ec_syntax.specs.declared.name.Name.{Name}
use Rattle.ec_syntax.specs.declared.name.Ty.{Ty}
use Rattle.ec_syntax.specs.declared.statement.Assign.{Assign}
use Rattle.ec_syntax.specs.declared.statement.Body.{Body, fold-Body, roll-Body}
use Rattle.ec_syntax.specs.declared.statement.Decl.{Decl}
use Rattle.ec_syntax.specs.declared.statement.Stmt.{Stmt, fold-Stmt, roll-Stmt}
use Rattle.ec_syntax.specs.declared.statement.StmtKind.{StmtKind, fold-StmtKind, roll-StmtKind}
use Rattle.ec_syntax.specs.declared.statement.StmtKind.TheOpen.{StmtKind-F, Body-F, Stmt-F}

-- the empty place at the start
abbrev pub nowhere : Span
nowhere = record { from = 0; to = 0 }

abbrev pub optional : {A : Type 0} → (A → A) → Option A → Option A
optional f None = None
optional f (Some a) = Some (f a)

-- ---- names and types

abbrev pub name : Name → Name
name n = record n { at = nowhere }

abbrev pub base : Base → Base
base Void = Void
base Int = Int
base (Struct n) = Struct (name n)

abbrev pub type : Ty → Ty
type ty = record ty { base = base ty.base }

-- ---- expressions

abbrev pub of_kind : ExprKind-F ExprKind Placement Call Expr → ExprKind
of_kind (ExprKind-F.New to count element) = New (optional type to) count (type element)
of_kind k = roll-ExprKind k

abbrev pub of_call : Call-F ExprKind Placement Call Expr → Call
of_call c = roll-Call (record c { name = name c.name; at = nowhere })

abbrev pub of_expression : Expr-F ExprKind Placement Call Expr → Expr
of_expression e = roll-Expr (record e { at = nowhere })

abbrev pub kind : ExprKind → ExprKind
kind = fold-ExprKind ExprKind Placement Call Expr of_kind roll-Placement of_call of_expression

abbrev pub placement : Placement → Placement
placement = fold-Placement ExprKind Placement Call Expr of_kind roll-Placement of_call of_expression

abbrev pub call : Call → Call
call = fold-Call ExprKind Placement Call Expr of_kind roll-Placement of_call of_expression

abbrev pub expression : Expr → Expr
expression = fold-Expr ExprKind Placement Call Expr of_kind roll-Placement of_call of_expression

-- ---- statements

abbrev pub assignment : Assign → Assign
assignment a = record { left = expression a.left; right = expression a.right }

abbrev pub declaration : Decl → Decl
declaration d = record d { name = name d.name; ty = type d.ty; init = optional expression d.init }

abbrev pub of_statement_kind : StmtKind-F StmtKind Body Stmt → StmtKind
of_statement_kind (StmtKind-F.If c a b) = roll-StmtKind (StmtKind-F.If (expression c) a b)
of_statement_kind (StmtKind-F.While c s) = roll-StmtKind (StmtKind-F.While (expression c) s)
of_statement_kind (StmtKind-F.For i c e s) =
    roll-StmtKind (StmtKind-F.For (optional assignment i) (optional expression c) (optional assignment e) s)
of_statement_kind (StmtKind-F.Forall i c e s) =
    roll-StmtKind (StmtKind-F.Forall (assignment i) (expression c) (assignment e) s)
of_statement_kind (StmtKind-F.Set a) = roll-StmtKind (StmtKind-F.Set (assignment a))
of_statement_kind (StmtKind-F.Eval c) = roll-StmtKind (StmtKind-F.Eval (call c))
of_statement_kind (StmtKind-F.WriteTo a b) = roll-StmtKind (StmtKind-F.WriteTo (expression a) (expression b))
of_statement_kind (StmtKind-F.AddTo a b) = roll-StmtKind (StmtKind-F.AddTo (expression a) (expression b))
of_statement_kind (StmtKind-F.Print s es) = roll-StmtKind (StmtKind-F.Print s (map expression es))
of_statement_kind (StmtKind-F.Return e) = roll-StmtKind (StmtKind-F.Return (optional expression e))
of_statement_kind k = roll-StmtKind k

abbrev pub of_body : Body-F StmtKind Body Stmt → Body
of_body b = roll-Body (record b { decls = map declaration b.decls })

abbrev pub of_statement : Stmt-F StmtKind Body Stmt → Stmt
of_statement s = roll-Stmt (record s { at = nowhere })

abbrev pub statement_kind : StmtKind → StmtKind
statement_kind = fold-StmtKind StmtKind Body Stmt of_statement_kind of_body of_statement

abbrev pub statement : Stmt → Stmt
statement = fold-Stmt StmtKind Body Stmt of_statement_kind of_body of_statement

abbrev pub body : Body → Body
body = fold-Body StmtKind Body Stmt of_statement_kind of_body of_statement

-- ---- items

abbrev pub field : Field → Field
field f = record f { name = name f.name; ty = type f.ty }

abbrev pub structure : StructDef → StructDef
structure s = record { name = name s.name; fields = map field s.fields }

abbrev pub function : Func → Func
function f =
    record { name = name f.name; result = type f.result; params = map declaration f.params; body = body f.body }

abbrev pub item : Item → Item
item (StructItem s) = StructItem (structure s)
item (FuncItem f) = FuncItem (function f)

abbrev pub unplaced : Program → Program
unplaced p = record { items = map item p.items; end = nowhere }
