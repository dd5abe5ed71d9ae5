-- The parts of a tree in the order of the source: what stands at which place, and what stands within it. Types have no
-- parts, since declarations may share one. Expressions and statements are folds: a part of a layer stands for its own parts.
use Rattle.std.specs.Prelude.{◌==◌, Bool, true, false, if◌then◌else◌, List, [], ◌∷◌, map, Option, Some, None}
use Rattle.ec_base.specs.declared.token.Span.{Span}
use Rattle.ec_syntax.specs.declared.expression.Call.{Call, fold-Call}
use Rattle.ec_syntax.specs.declared.expression.Expr.{Expr, fold-Expr}
use Rattle.ec_syntax.specs.declared.expression.ExprKind.TheOpen.{ExprKind-F, Placement-F, Call-F, Expr-F}
use Rattle.ec_syntax.specs.declared.expression.Placement.{Placement, fold-Placement}
use Rattle.ec_syntax.specs.declared.item.Field.{Field}
use Rattle.ec_syntax.specs.declared.item.Func.{Func}
use Rattle.ec_syntax.specs.declared.item.Item.{Item}
use Rattle.ec_syntax.specs.declared.item.Item.TheVariants.{Struct as StructItem, Func as FuncItem}
use Rattle.ec_syntax.specs.declared.item.Program.{Program}
use Rattle.ec_syntax.specs.declared.item.StructDef.{StructDef}
use Rattle.ec_syntax.specs.declared.statement.Assign.{Assign}
use Rattle.ec_syntax.specs.declared.statement.Body.{Body, fold-Body}
use Rattle.ec_syntax.specs.declared.statement.Decl.{Decl}
use Rattle.ec_syntax.specs.declared.statement.Stmt.{Stmt, fold-Stmt}
use Rattle.ec_syntax.specs.declared.statement.StmtKind.TheOpen.{StmtKind-F, Body-F, Stmt-F}

-- ---- parts

-- What a part is: plainly an expression or a statement, or what is told from all others by its place: a call, a `malloc`,
-- the name of a variable, function, struct or field where it is declared, a `forall`, or a `printf`.
pub data Role : Type 0 where
  Plain : Role
  Calling : Role
  Allocation : Role
  Variable : Role
  Function : Role
  Structure : Role
  Member : Role
  Iteration : Role
  Printing : Role

abbrev pub is_plain : Role → Bool
is_plain Role.Plain = true
is_plain _ = false

-- A part with its place, the parts within it, and those behind it; or an assignment, whose sides are the parts that follow.
pub data Parts : Type 0 where
  nothing : Parts
  part : Role → Span → Parts → Parts → Parts
  sides : Assign → Parts → Parts

abbrev pub one : Role → Span → Parts → Parts
one role at within = Parts.part role at within Parts.nothing

-- one behind the other
infixr 5 ◌ahead_of◌
abbrev pub ◌ahead_of◌ : Parts → Parts → Parts
Parts.nothing ahead_of others = others
(Parts.part role at within behind) ahead_of others = Parts.part role at within (behind ahead_of others)
(Parts.sides a behind) ahead_of others = Parts.sides a (behind ahead_of others)

abbrev pub joined : List Parts → Parts
joined [] = Parts.nothing
joined (x ∷ xs) = x ahead_of joined xs

abbrev pub optional : {A : Type 0} → (A → Parts) → Option A → Parts
optional parts None = Parts.nothing
optional parts (Some a) = parts a

-- without the plain ones
abbrev pub but_plain : Parts → Parts
but_plain Parts.nothing = Parts.nothing
but_plain (Parts.part role at within behind) =
    if is_plain role then but_plain within ahead_of but_plain behind
    else Parts.part role at (but_plain within) (but_plain behind)
but_plain (Parts.sides a behind) = Parts.sides a (but_plain behind)

-- ---- expressions

-- what a layer is, and the parts within it
abbrev pub Layer : Type 0
Layer = Role × Parts

abbrev pub plainly : Parts → Layer
plainly within = (Role.Plain, within)

abbrev pub of_kind : ExprKind-F Layer Parts Parts Parts → Layer
of_kind (ExprKind-F.Number n) = plainly Parts.nothing
of_kind ExprKind-F.Null = plainly Parts.nothing
of_kind (ExprKind-F.Var x) = plainly Parts.nothing
of_kind (ExprKind-F.Paren e) = plainly e
of_kind (ExprKind-F.Unary op e) = plainly e
of_kind (ExprKind-F.Binary op a b) = plainly (a ahead_of b)
of_kind (ExprKind-F.And a b) = plainly (a ahead_of b)
of_kind (ExprKind-F.Or a b) = plainly (a ahead_of b)
of_kind (ExprKind-F.Deref e) = plainly e
of_kind (ExprKind-F.Index e i) = plainly (e ahead_of i)
of_kind (ExprKind-F.Arrow e f) = plainly e
of_kind (ExprKind-F.Dot e f) = plainly e
of_kind (ExprKind-F.Call c) = plainly c
of_kind (ExprKind-F.New to None element) = (Role.Allocation, Parts.nothing)
of_kind (ExprKind-F.New to (Some count) element) = (Role.Allocation, count)
of_kind (ExprKind-F.ValueOf e) = plainly e
of_kind (ExprKind-F.Address x) = plainly Parts.nothing

abbrev pub of_place : Placement-F Layer Parts Parts Parts → Parts
of_place Placement-F.Here = Parts.nothing
of_place (Placement-F.OwnerOf e) = e
of_place Placement-F.Home = Parts.nothing
of_place (Placement-F.Node e) = e
of_place Placement-F.Anywhere = Parts.nothing

abbrev pub of_call : Call-F Layer Parts Parts Parts → Parts
of_call c = one Role.Calling c.at (joined c.args ahead_of c.place)

abbrev pub of_expression : Expr-F Layer Parts Parts Parts → Parts
of_expression e = one e.kind.0 e.at e.kind.1

abbrev pub expression : Expr → Parts
expression = fold-Expr Layer Parts Parts Parts of_kind of_place of_call of_expression

abbrev pub placement : Placement → Parts
placement = fold-Placement Layer Parts Parts Parts of_kind of_place of_call of_expression

abbrev pub call : Call → Parts
call = fold-Call Layer Parts Parts Parts of_kind of_place of_call of_expression

-- ---- declarations and assignments

-- the name, and what stands in the initialiser
abbrev pub declaration : Decl → Parts
declaration d = one Role.Variable d.name.at Parts.nothing ahead_of optional expression d.init

-- what counts of the right side: where it begins as the left one does, as that of `i++`, only what isn't plain
abbrev pub right_side : Assign → Parts
right_side a = if a.left.at.from == a.right.at.from then but_plain (expression a.right) else expression a.right

abbrev pub assignment : Assign → Parts
assignment a = Parts.sides a (expression a.left ahead_of right_side a)

-- ---- statements

abbrev pub of_statement_kind : StmtKind-F Layer Parts Parts → Layer
of_statement_kind StmtKind-F.Empty = plainly Parts.nothing
of_statement_kind (StmtKind-F.Body b) = plainly b
of_statement_kind (StmtKind-F.Par ss) = plainly (joined ss)
of_statement_kind (StmtKind-F.If c a b) = plainly (expression c ahead_of a ahead_of optional (λ s. s) b)
of_statement_kind (StmtKind-F.While c s) = plainly (expression c ahead_of s)
of_statement_kind (StmtKind-F.For i c e s) =
    plainly (optional assignment i ahead_of optional expression c ahead_of optional assignment e ahead_of s)
of_statement_kind (StmtKind-F.Forall i c e s) = (Role.Iteration, assignment i ahead_of expression c ahead_of assignment e ahead_of s)
of_statement_kind (StmtKind-F.Set a) = plainly (assignment a)
of_statement_kind (StmtKind-F.Eval c) = plainly (call c)
of_statement_kind (StmtKind-F.WriteTo a b) = plainly (expression a ahead_of expression b)
of_statement_kind (StmtKind-F.AddTo a b) = plainly (expression a ahead_of expression b)
of_statement_kind (StmtKind-F.Print string es) = (Role.Printing, joined (map expression es))
of_statement_kind (StmtKind-F.Return e) = plainly (optional expression e)

abbrev pub of_body : Body-F Layer Parts Parts → Parts
of_body b = joined (map declaration b.decls) ahead_of joined b.stmts

abbrev pub of_statement : Stmt-F Layer Parts Parts → Parts
of_statement s = one s.kind.0 s.at s.kind.1

abbrev pub statement : Stmt → Parts
statement = fold-Stmt Layer Parts Parts of_statement_kind of_body of_statement

abbrev pub body : Body → Parts
body = fold-Body Layer Parts Parts of_statement_kind of_body of_statement

-- ---- items

abbrev pub field : Field → Parts
field f = one Role.Member f.name.at Parts.nothing

abbrev pub structure : StructDef → Parts
structure s = one Role.Structure s.name.at Parts.nothing ahead_of joined (map field s.fields)

abbrev pub function : Func → Parts
function f =
    one Role.Function f.name.at Parts.nothing ahead_of joined (map declaration f.params) ahead_of body f.body

abbrev pub item : Item → Parts
item (StructItem s) = structure s
item (FuncItem f) = function f

abbrev pub program : Program → Parts
program p = joined (map item p.items)
