-- What statements are refused for, where they stand.
use Rattle.std.specs.Prelude.{ℕ, ◌==◌, Bool, false, if◌then◌else◌, List, [], ◌∷◌, map, length, Option, Some, None}
use Rattle.ec_base.specs.declared.token.Span.{Span}
use Rattle.ec_base.specs.Format.{conversions}
use Rattle.ec_syntax.specs.declared.expression.Call.{Call}
use Rattle.ec_syntax.specs.declared.expression.Expr.{Expr}
use Rattle.ec_syntax.specs.declared.statement.Assign.{Assign}
use Rattle.ec_syntax.specs.declared.statement.Body.{Body, fold-Body}
use Rattle.ec_syntax.specs.declared.statement.Decl.{Decl}
use Rattle.ec_syntax.specs.declared.statement.Stmt.{Stmt, fold-Stmt}
use Rattle.ec_syntax.specs.declared.statement.StmtKind.TheOpen.{StmtKind-F, Body-F, Stmt-F}
use Rattle.ec_base.specs.declared.reason.Reason.TheVariants.{Mismatch, ReturnInside, PrintInside}
use Rattle.ec_types.specs.declared.value_type.ExprType.TheVariants.{Value}
use Rattle.ec_types.specs.Assignments.{assigned, condition}
use Rattle.ec_types.specs.Context.{Context, with_scope, inside_of}
use Rattle.ec_types.specs.Declarations.{declaration}
use Rattle.ec_types.specs.Expressions.{judged, judged_call, value}
use Rattle.ec_types.specs.Parts.{shared}
use Rattle.ec_types.specs.Headers.{header}
use Rattle.ec_types.specs.Judged.{Fine, fine, must, refused, refused_beside, every, optional, ◌and_then◌, ◌also◌}
use Rattle.ec_types.specs.Operators.{assignable}
use Rattle.ec_types.specs.Types.{is_void, is_number, is_shared}

-- what a statement is refused for, by where it stands
abbrev pub There : Type 0
There = Context → Fine

-- ---- simple statements

-- an int is asked
abbrev pub counts : Context → Span → Expr → Fine
counts c at e = value c e and_then (λ t. must (is_number t) Mismatch at)

-- what is shared is asked
abbrev pub shares : Context → Span → Expr → Fine
shares c at to = shared (judged c to) and_then (λ t. must (is_shared t) Mismatch at)

-- `writeto` and `addto`
abbrev pub sends : Context → Span → Expr → Expr → Fine
sends c at to e = shares c at to also counts c at e

-- the string asks for so many values
abbrev pub asks : Option ℕ → ℕ → Bool
asks None n = false
asks (Some m) n = m == n

abbrev pub prints : Context → Span → List ℕ → List Expr → Fine
prints c at string es =
    must (asks (conversions string) (length es)) Mismatch at
    also every (map (counts c at) es)
    also (if c.inside then refused_beside PrintInside at at else fine)

-- a value is returned where there is a result, and nothing where there is none
abbrev pub returned : Context → Span → Option Expr → Fine
returned c at None = must (is_void c.result) Mismatch at
returned c at (Some e) =
    if is_void c.result then (refused Mismatch at also value c e)
    else (value c e and_then (λ t. must (assignable (Value c.result) t) Mismatch at))

abbrev pub returns : Context → Span → Option Expr → Fine
returns c at e = returned c at e also (if c.inside then refused ReturnInside at else fine)

-- a call, whatever it gives
abbrev pub evaluated : Context → Call → Fine
evaluated c x = fine also judged_call c x

-- ---- statements that hold others

abbrev pub for_header : Context → Span → Option Assign → Option Expr → Option Assign → Fine
for_header c at first test last =
    optional (assigned c at) first also optional (condition c at) test also optional (assigned c at) last

abbrev pub forall_header : Context → Span → Assign → Expr → Assign → Fine
forall_header c at first test last =
    assigned c at first also condition c at test also assigned c at last also header c first test last

-- each variable is in scope from its own declaration on
abbrev pub declares : List Decl → There
declares [] c = fine
declares (d ∷ ds) c = declaration (with_scope (d ∷ []) c) d also declares ds (with_scope (d ∷ []) c)

abbrev pub each_in : Context → List There → List Fine
each_in c ss = map (λ s. s c) ss

abbrev pub otherwise : Option There → There
otherwise None c = fine
otherwise (Some s) c = s c

abbrev pub of_kind : StmtKind-F (Span → There) There There → Span → There
of_kind StmtKind-F.Empty at c = fine
of_kind (StmtKind-F.Body b) at c = b c
of_kind (StmtKind-F.Par ss) at c = every (each_in (inside_of c) ss)
of_kind (StmtKind-F.If e a b) at c = condition c at e also a c also otherwise b c
of_kind (StmtKind-F.While e s) at c = condition c at e also s c
of_kind (StmtKind-F.For i e n s) at c = for_header c at i e n also s c
of_kind (StmtKind-F.Forall i e n s) at c = forall_header c at i e n also s (inside_of c)
of_kind (StmtKind-F.Set a) at c = assigned c at a
of_kind (StmtKind-F.Eval x) at c = evaluated c x
of_kind (StmtKind-F.WriteTo a b) at c = sends c at a b
of_kind (StmtKind-F.AddTo a b) at c = sends c at a b
of_kind (StmtKind-F.Print string es) at c = prints c at string es
of_kind (StmtKind-F.Return e) at c = returns c at e

abbrev pub of_body : Body-F (Span → There) There There → There
of_body b c = declares b.decls c also every (each_in (with_scope b.decls c) b.stmts)

abbrev pub of_statement : Stmt-F (Span → There) There There → There
of_statement s = s.kind s.at

abbrev pub statement : Stmt → There
statement = fold-Stmt (Span → There) There There of_kind of_body of_statement

abbrev pub body : Body → There
body = fold-Body (Span → There) There There of_kind of_body of_statement
