-- Calls, `malloc`s and `printf`s, wherever they stand in a part of a program.
use Rattle.std.specs.Prelude.{List, [], ◌∷◌, ◌++◌, Option, Some, None, map}
use Rattle.ec_base.specs.declared.text.Text.{Text}
use Rattle.ec_base.specs.declared.token.Span.{Span}
use Rattle.ec_syntax.specs.declared.expression.Call.{Call, fold-Call}
use Rattle.ec_syntax.specs.declared.expression.Expr.{Expr, fold-Expr}
use Rattle.ec_syntax.specs.declared.expression.ExprKind.TheOpen.{ExprKind-F, Placement-F, Call-F, Expr-F}
use Rattle.ec_syntax.specs.declared.expression.Placement.{Placement, fold-Placement}
use Rattle.ec_syntax.specs.declared.statement.Assign.{Assign}
use Rattle.ec_syntax.specs.declared.statement.Body.{Body, fold-Body}
use Rattle.ec_syntax.specs.declared.statement.Decl.{Decl}
use Rattle.ec_syntax.specs.declared.statement.Stmt.{Stmt, fold-Stmt}
use Rattle.ec_syntax.specs.declared.statement.StmtKind.TheOpen.{StmtKind-F, Body-F, Stmt-F}
use Rattle.ec_syntax.specs.declared.name.Name.{Name}

abbrev pub joined : {A : Type 0} → List (List A) → List A
joined [] = []
joined (x ∷ xs) = x ++ joined xs

abbrev pub of_option : {A B : Type 0} → (A → List B) → Option A → List B
of_option f None = []
of_option f (Some a) = f a

-- A call or `malloc`: where it stands, and the function that it calls.
pub record Effect : Type 0 where
  pub at : Span
  pub calls : Option Text

abbrev pub a_call : Text → Span → Effect
a_call name at = record { at = at; calls = Some name }

abbrev pub a_malloc : Span → Effect
a_malloc at = record { at = at; calls = None }

-- ---- in expressions

abbrev pub of_kind : ExprKind-F (Span → List Effect) (List Effect) (List Effect) (List Effect) → Span → List Effect
of_kind (ExprKind-F.Number n) at = []
of_kind ExprKind-F.Null at = []
of_kind (ExprKind-F.Var x) at = []
of_kind (ExprKind-F.Paren e) at = e
of_kind (ExprKind-F.Unary op e) at = e
of_kind (ExprKind-F.Binary op a b) at = a ++ b
of_kind (ExprKind-F.And a b) at = a ++ b
of_kind (ExprKind-F.Or a b) at = a ++ b
of_kind (ExprKind-F.Deref e) at = e
of_kind (ExprKind-F.Index e i) at = e ++ i
of_kind (ExprKind-F.Arrow e f) at = e
of_kind (ExprKind-F.Dot e f) at = e
of_kind (ExprKind-F.Call x) at = x
of_kind (ExprKind-F.New to None element) at = a_malloc at ∷ []
of_kind (ExprKind-F.New to (Some count) element) at = a_malloc at ∷ count
of_kind (ExprKind-F.ValueOf e) at = e
of_kind (ExprKind-F.Address x) at = []

abbrev pub of_place : Placement-F (Span → List Effect) (List Effect) (List Effect) (List Effect) → List Effect
of_place Placement-F.Here = []
of_place (Placement-F.OwnerOf e) = e
of_place Placement-F.Home = []
of_place (Placement-F.Node e) = e
of_place Placement-F.Anywhere = []

abbrev pub of_call : Call-F (Span → List Effect) (List Effect) (List Effect) (List Effect) → List Effect
of_call x = a_call x.name.text x.at ∷ joined x.args ++ x.place

abbrev pub of_expression : Expr-F (Span → List Effect) (List Effect) (List Effect) (List Effect) → List Effect
of_expression e = e.kind e.at

-- the calls and `malloc`s of an expression
abbrev pub effects : Expr → List Effect
effects =
    fold-Expr (Span → List Effect) (List Effect) (List Effect) (List Effect) of_kind of_place of_call of_expression

abbrev pub placement_effects : Placement → List Effect
placement_effects =
    fold-Placement (Span → List Effect) (List Effect) (List Effect) (List Effect) of_kind of_place of_call of_expression

abbrev pub call_effects : Call → List Effect
call_effects =
    fold-Call (Span → List Effect) (List Effect) (List Effect) (List Effect) of_kind of_place of_call of_expression

abbrev pub assign_effects : Assign → List Effect
assign_effects a = effects a.left ++ effects a.right

-- ---- in statements

-- What a part of a function does and declares, in source order: its calls and `malloc`s, its `printf`s, and its
-- variables.
pub record Doing : Type 0 where
  pub effects : List Effect
  pub prints : List Span
  pub variables : List Name

abbrev pub nothing : Doing
nothing = record { effects = []; prints = []; variables = [] }

abbrev pub only : List Effect → Doing
only es = record nothing { effects = es }

infixr 5 ◌with◌
abbrev pub ◌with◌ : Doing → Doing → Doing
a with b = record {
  effects = a.effects ++ b.effects;
  prints = a.prints ++ b.prints;
  variables = a.variables ++ b.variables;
}

abbrev pub all_of : List Doing → Doing
all_of [] = nothing
all_of (x ∷ xs) = x with all_of xs

abbrev pub or_nothing : Option Doing → Doing
or_nothing None = nothing
or_nothing (Some x) = x

abbrev pub of_declaration : Decl → Doing
of_declaration d = record { effects = of_option effects d.init; prints = []; variables = d.name ∷ [] }

abbrev pub of_statement_kind : StmtKind-F (Span → Doing) Doing Doing → Span → Doing
of_statement_kind StmtKind-F.Empty at = nothing
of_statement_kind (StmtKind-F.Body b) at = b
of_statement_kind (StmtKind-F.Par ss) at = all_of ss
of_statement_kind (StmtKind-F.If e a b) at = only (effects e) with a with or_nothing b
of_statement_kind (StmtKind-F.While e s) at = only (effects e) with s
of_statement_kind (StmtKind-F.For i e n s) at =
    only (of_option assign_effects i ++ of_option effects e ++ of_option assign_effects n) with s
of_statement_kind (StmtKind-F.Forall i e n s) at = only (assign_effects i ++ effects e ++ assign_effects n) with s
of_statement_kind (StmtKind-F.Set a) at = only (assign_effects a)
of_statement_kind (StmtKind-F.Eval x) at = only (call_effects x)
of_statement_kind (StmtKind-F.WriteTo a b) at = only (effects a ++ effects b)
of_statement_kind (StmtKind-F.AddTo a b) at = only (effects a ++ effects b)
of_statement_kind (StmtKind-F.Print s es) at =
    record { effects = joined (map effects es); prints = at ∷ []; variables = [] }
of_statement_kind (StmtKind-F.Return e) at = only (of_option effects e)

abbrev pub of_body : Body-F (Span → Doing) Doing Doing → Doing
of_body b = all_of (map of_declaration b.decls) with all_of b.stmts

abbrev pub of_statement : Stmt-F (Span → Doing) Doing Doing → Doing
of_statement s = s.kind s.at

abbrev pub doing : Body → Doing
doing = fold-Body (Span → Doing) Doing Doing of_statement_kind of_body of_statement

abbrev pub statement_doing : Stmt → Doing
statement_doing = fold-Stmt (Span → Doing) Doing Doing of_statement_kind of_body of_statement
