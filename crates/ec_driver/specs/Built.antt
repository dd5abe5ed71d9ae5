-- The forms of the language that aren't built yet: parallel sequences and `forall`s.
use Rattle.std.specs.Prelude.{List, [], ◌∷◌, map, Option, Some, None}
use Rattle.std.specs.Option.{option_or}
use Rattle.ec_base.specs.declared.token.Span.{Span}
use Rattle.ec_syntax.specs.declared.item.Item.{Item}
use Rattle.ec_syntax.specs.declared.item.Item.TheVariants.{Struct, Func}
use Rattle.ec_syntax.specs.declared.item.Program.{Program}
use Rattle.ec_syntax.specs.declared.statement.Body.{Body, fold-Body}
use Rattle.ec_syntax.specs.declared.statement.Stmt.{Stmt, fold-Stmt}
use Rattle.ec_syntax.specs.declared.statement.StmtKind.TheOpen.{StmtKind-F, Body-F, Stmt-F}

-- the first that there is
abbrev pub first_of : List (Option Span) → Option Span
first_of [] = None
first_of (x ∷ xs) = option_or x (first_of xs)

abbrev pub if_any : Option (Option Span) → Option Span
if_any None = None
if_any (Some x) = x

-- ---- in statements, where a sequence or loop stands before what is inside it

abbrev pub of_kind : StmtKind-F (Span → Option Span) (Option Span) (Option Span) → Span → Option Span
of_kind StmtKind-F.Empty at = None
of_kind (StmtKind-F.Body b) at = b
of_kind (StmtKind-F.Par ss) at = Some at
of_kind (StmtKind-F.If e a b) at = option_or a (if_any b)
of_kind (StmtKind-F.While e s) at = s
of_kind (StmtKind-F.For i e n s) at = s
of_kind (StmtKind-F.Forall i e n s) at = Some at
of_kind (StmtKind-F.Set a) at = None
of_kind (StmtKind-F.Eval x) at = None
of_kind (StmtKind-F.WriteTo a b) at = None
of_kind (StmtKind-F.AddTo a b) at = None
of_kind (StmtKind-F.Print string es) at = None
of_kind (StmtKind-F.Return e) at = None

abbrev pub of_body : Body-F (Span → Option Span) (Option Span) (Option Span) → Option Span
of_body b = first_of b.stmts

abbrev pub of_statement : Stmt-F (Span → Option Span) (Option Span) (Option Span) → Option Span
of_statement s = s.kind s.at

abbrev pub in_body : Body → Option Span
in_body = fold-Body (Span → Option Span) (Option Span) (Option Span) of_kind of_body of_statement

abbrev pub in_statement : Stmt → Option Span
in_statement = fold-Stmt (Span → Option Span) (Option Span) (Option Span) of_kind of_body of_statement

-- ---- in programs

abbrev pub in_item : Item → Option Span
in_item (Func f) = in_body f.body
in_item (Struct s) = None

-- the first parallel sequence or `forall` of a program, whichever function it stands in
abbrev pub first_parallel : Program → Option Span
first_parallel p = first_of (map in_item p.items)
