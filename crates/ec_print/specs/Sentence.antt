-- The sentence of a program: its tokens in the order of the grammar, but for the end of the text. Each variable and
-- each field is declared by itself, and what was read from `i++` is written as the assignment that it is. Expressions
-- and statements are folds: a part of a layer stands for its own phrase.
use Rattle.std.specs.Prelude.{ℕ, zero, suc, ℤ, List, [], ◌∷◌, map, codes, Option, Some, None}
use Rattle.ec_base.specs.declared.operator.BinOp.{BinOp}
use Rattle.ec_base.specs.declared.operator.BinOp.TheVariants as op
use Rattle.ec_base.specs.declared.operator.UnOp.{UnOp}
use Rattle.ec_base.specs.declared.operator.UnOp.TheVariants.{Neg, Inv, Not}
use Rattle.ec_base.specs.declared.token.Mark.{Mark}
use Rattle.ec_base.specs.declared.token.Mark.TheVariants as m
use Rattle.ec_base.specs.declared.token.TokenKind.{TokenKind}
use Rattle.ec_base.specs.declared.token.TokenKind.TheVariants as t
use Rattle.ec_syntax.specs.declared.expression.Call.{Call, fold-Call}
use Rattle.ec_syntax.specs.declared.expression.Expr.{Expr, fold-Expr}
use Rattle.ec_syntax.specs.declared.expression.ExprKind.TheOpen.{ExprKind-F, Placement-F, Call-F, Expr-F}
use Rattle.ec_syntax.specs.declared.expression.Placement.{Placement, fold-Placement}
use Rattle.ec_syntax.specs.declared.item.Field.{Field}
use Rattle.ec_syntax.specs.declared.item.Func.{Func}
use Rattle.ec_syntax.specs.declared.item.Item.{Item}
use Rattle.ec_syntax.specs.declared.item.Item.TheVariants.{Struct as StructItem, Func as FuncItem}
use Rattle.ec_syntax.specs.declared.item.Program.{Program}
use Rattle.ec_syntax.specs.declared.item.StructDef.{StructDef}
use Rattle.ec_syntax.specs.declared.name.Base.{Base}
use Rattle.ec_syntax.specs.declared.name.Base.TheVariants.{Void, Int, Struct}
use Rattle.ec_syntax.specs.declared.name.Mode.{Mode}
use Rattle.ec_syntax.specs.declared.name.Mode.TheVariants.{Plain, Local, Shared}
use Rattle.ec_syntax.specs.declared.name.Ty.{Ty}
use Rattle.ec_syntax.specs.declared.statement.Assign.{Assign}
use Rattle.ec_syntax.specs.declared.statement.Body.{Body, fold-Body}
use Rattle.ec_syntax.specs.declared.statement.Decl.{Decl}
use Rattle.ec_syntax.specs.declared.statement.Stmt.{Stmt, fold-Stmt}
use Rattle.ec_syntax.specs.declared.statement.StmtKind.TheOpen.{StmtKind-F, Body-F, Stmt-F}
use Rattle.ec_print.specs.Phrase.{Phrase, nothing, token, ◌then◌, tokens}

-- ---- phrases

abbrev pub word : List ℕ → Phrase
word w = token (t.Word w)

abbrev pub mark : Mark → Phrase
mark k = token (t.Mark k)

-- "(" inside ")"
abbrev pub bracketed : Phrase → Phrase
bracketed inside = mark m.OpenParen then inside then mark m.CloseParen

-- one behind the other
abbrev pub joined : List Phrase → Phrase
joined [] = nothing
joined (x ∷ xs) = x then joined xs

-- a comma before each
abbrev pub further : List Phrase → Phrase
further [] = nothing
further (x ∷ xs) = mark m.Comma then x then further xs

-- a comma between each two
abbrev pub listed : List Phrase → Phrase
listed [] = nothing
listed (x ∷ xs) = x then further xs

-- what may be missing
abbrev pub optional : {A : Type 0} → (A → Phrase) → Option A → Phrase
optional phrase None = nothing
optional phrase (Some a) = phrase a

-- ---- types

abbrev pub base : Base → Phrase
base Void = word (codes "void")
base Int = word (codes "int")
base (Struct n) = word (codes "struct") then word n.text

abbrev pub stars : ℕ → Phrase
stars zero = nothing
stars (suc k) = mark m.Star then stars k

abbrev pub type : Ty → Phrase
type ty = base ty.base then stars ty.stars

-- ---- operators

abbrev pub prefix : UnOp → Mark
prefix Neg = m.Minus
prefix Inv = m.Tilde
prefix Not = m.Bang

abbrev pub infix_mark : BinOp → Mark
infix_mark op.Add = m.Plus
infix_mark op.Sub = m.Minus
infix_mark op.Mul = m.Star
infix_mark op.Div = m.Slash
infix_mark op.Rem = m.Percent
infix_mark op.And = m.And
infix_mark op.Or = m.Or
infix_mark op.Xor = m.Caret
infix_mark op.Shl = m.ShiftLeft
infix_mark op.Shr = m.ShiftRight
infix_mark op.Eq = m.Equal
infix_mark op.Ne = m.NotEqual
infix_mark op.Lt = m.Less
infix_mark op.Le = m.LessEqual
infix_mark op.Gt = m.Greater
infix_mark op.Ge = m.GreaterEqual

-- ---- expressions

-- the type that a `malloc` is cast to
abbrev pub cast : Ty → Phrase
cast ty = bracketed (type ty)

-- the factor before the `sizeof` of a `malloc`
abbrev pub factor : Phrase → Phrase
factor count = count then mark m.Star

-- ("(" base "*"+ ")")? "malloc" "(" ((term "*")? "sizeof" "(" base "*"* ")") ")"
abbrev pub malloc : Option Ty → Option Phrase → Ty → Phrase
malloc to count element =
    optional cast to then word (codes "malloc")
    then bracketed (optional factor count then word (codes "sizeof") then bracketed (type element))

abbrev pub of_kind : ExprKind-F Phrase Phrase Phrase Phrase → Phrase
of_kind (ExprKind-F.Number n) = token (t.Number n)
of_kind ExprKind-F.Null = word (codes "NULL")
of_kind (ExprKind-F.Var x) = word x
of_kind (ExprKind-F.Paren e) = bracketed e
of_kind (ExprKind-F.Unary o e) = mark (prefix o) then e
of_kind (ExprKind-F.Binary o a b) = a then mark (infix_mark o) then b
of_kind (ExprKind-F.And a b) = a then mark m.AndAnd then b
of_kind (ExprKind-F.Or a b) = a then mark m.OrOr then b
of_kind (ExprKind-F.Deref e) = mark m.Star then e
of_kind (ExprKind-F.Index e i) = e then mark m.OpenBracket then i then mark m.CloseBracket
of_kind (ExprKind-F.Arrow e f) = e then mark m.Arrow then word f
of_kind (ExprKind-F.Dot e f) = e then mark m.Dot then word f
of_kind (ExprKind-F.Call c) = c
of_kind (ExprKind-F.New to count element) = malloc to count element
of_kind (ExprKind-F.ValueOf e) = word (codes "valueof") then bracketed e
of_kind (ExprKind-F.Address x) = mark m.And then word x

-- "@" and a word
abbrev pub at : List ℕ → Phrase
at w = mark m.At then word w

-- "@" "OWNER_OF"
unfoldable pub at_owner : Phrase
at_owner = at (codes "OWNER_OF")

abbrev pub of_place : Placement-F Phrase Phrase Phrase Phrase → Phrase
of_place Placement-F.Here = nothing
of_place (Placement-F.OwnerOf e) = at_owner then bracketed e
of_place Placement-F.Home = at (codes "HOME")
of_place (Placement-F.Node e) = at (codes "NODE") then bracketed e
of_place Placement-F.Anywhere = at (codes "ANYWHERE")

abbrev pub of_call : Call-F Phrase Phrase Phrase Phrase → Phrase
of_call c = word c.name.text then bracketed (listed c.args) then c.place

abbrev pub of_expression : Expr-F Phrase Phrase Phrase Phrase → Phrase
of_expression e = e.kind

abbrev pub expression : Expr → Phrase
expression = fold-Expr Phrase Phrase Phrase Phrase of_kind of_place of_call of_expression

abbrev pub placement : Placement → Phrase
placement = fold-Placement Phrase Phrase Phrase Phrase of_kind of_place of_call of_expression

abbrev pub call : Call → Phrase
call = fold-Call Phrase Phrase Phrase Phrase of_kind of_place of_call of_expression

-- ---- declarations and assignments

abbrev pub mode : Mode → Phrase
mode Plain = nothing
mode Local = word (codes "local")
mode Shared = word (codes "shared")

-- mode base "*"* id
abbrev pub variable : Decl → Phrase
variable d = mode d.mode then type d.ty then word d.name.text

abbrev pub initialiser : Expr → Phrase
initialiser e = mark m.Assign then expression e

abbrev pub declaration : Decl → Phrase
declaration d = variable d then optional initialiser d.init then mark m.Semicolon

abbrev pub assignment : Assign → Phrase
assignment a = expression a.left then mark m.Assign then expression a.right

-- ---- statements

-- "(" expr "," expr ")"
abbrev pub pair : Expr → Expr → Phrase
pair a b = bracketed (expression a then mark m.Comma then expression b)

-- "(" first ";" test ";" last ")"
abbrev pub header : Phrase → Phrase → Phrase → Phrase
header first test last = bracketed (first then mark m.Semicolon then test then mark m.Semicolon then last)

abbrev pub for_header : Option Assign → Option Expr → Option Assign → Phrase
for_header first test last = header (optional assignment first) (optional expression test) (optional assignment last)

abbrev pub forall_header : Assign → Expr → Assign → Phrase
forall_header first test last = header (assignment first) (expression test) (assignment last)

-- "(" str ("," expr)* ")"
abbrev pub printed : List ℕ → List Expr → Phrase
printed s es = bracketed (token (t.Str s) then further (map expression es))

abbrev pub otherwise : Phrase → Phrase
otherwise s = word (codes "else") then s

abbrev pub of_statement_kind : StmtKind-F Phrase Phrase Phrase → Phrase
of_statement_kind StmtKind-F.Empty = mark m.Semicolon
of_statement_kind (StmtKind-F.Body b) = b
of_statement_kind (StmtKind-F.Par ss) = mark m.OpenPar then joined ss then mark m.ClosePar
of_statement_kind (StmtKind-F.If c a b) =
    word (codes "if") then bracketed (expression c) then a then optional otherwise b
of_statement_kind (StmtKind-F.While c s) = word (codes "while") then bracketed (expression c) then s
of_statement_kind (StmtKind-F.For i c e s) = word (codes "for") then for_header i c e then s
of_statement_kind (StmtKind-F.Forall i c e s) = word (codes "forall") then forall_header i c e then s
of_statement_kind (StmtKind-F.Set a) = assignment a then mark m.Semicolon
of_statement_kind (StmtKind-F.Eval c) = call c then mark m.Semicolon
of_statement_kind (StmtKind-F.WriteTo a b) = word (codes "writeto") then pair a b then mark m.Semicolon
of_statement_kind (StmtKind-F.AddTo a b) = word (codes "addto") then pair a b then mark m.Semicolon
of_statement_kind (StmtKind-F.Print s es) = word (codes "printf") then printed s es then mark m.Semicolon
of_statement_kind (StmtKind-F.Return e) = word (codes "return") then optional expression e then mark m.Semicolon

-- "{" decls* stmt* "}"
abbrev pub of_body : Body-F Phrase Phrase Phrase → Phrase
of_body b = mark m.OpenBrace then joined (map declaration b.decls) then joined b.stmts then mark m.CloseBrace

abbrev pub of_statement : Stmt-F Phrase Phrase Phrase → Phrase
of_statement s = s.kind

abbrev pub statement : Stmt → Phrase
statement = fold-Stmt Phrase Phrase Phrase of_statement_kind of_body of_statement

abbrev pub body : Body → Phrase
body = fold-Body Phrase Phrase Phrase of_statement_kind of_body of_statement

-- ---- items

abbrev pub length_of : ℤ → Phrase
length_of n = mark m.OpenBracket then token (t.Number n) then mark m.CloseBracket

-- base "*"* id ("[" num "]")? ";"
abbrev pub field : Field → Phrase
field f = type f.ty then word f.name.text then optional length_of f.array then mark m.Semicolon

abbrev pub structure : StructDef → Phrase
structure s =
    word (codes "struct") then word s.name.text
    then mark m.OpenBrace then joined (map field s.fields) then mark m.CloseBrace then mark m.Semicolon

-- base "*"* id "(" params ")" block
abbrev pub function : Func → Phrase
function f = type f.result then word f.name.text then bracketed (listed (map variable f.params)) then body f.body

abbrev pub item : Item → Phrase
item (StructItem s) = structure s
item (FuncItem f) = function f

abbrev pub program : Program → Phrase
program p = joined (map item p.items)

abbrev pub sentence : Program → List TokenKind
sentence p = tokens (program p)
