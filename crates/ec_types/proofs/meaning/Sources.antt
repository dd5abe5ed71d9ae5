-- Small programs as they are written: what trees they become, and so what they come to.
use Rattle.std.proofs.Common.{rules, ◌≡◌, ◌∙◌, ap, ℕ, List, [], ◌∷◌, codes, Option, Some, None, pos, negsuc}
use Rattle.ec_base.specs.declared.text.Text.{Text}
use Rattle.ec_base.specs.declared.token.Span.{Span}
use Rattle.ec_base.specs.declared.operator.BinOp.TheVariants.{Sub}
use Rattle.ec_syntax.specs.declared.expression.Call.{Call, roll-Call}
use Rattle.ec_syntax.specs.declared.expression.Expr.{Expr}
use Rattle.ec_syntax.specs.declared.expression.ExprKind.{ExprKind}
use Rattle.ec_syntax.specs.declared.expression.ExprKind.TheFolds.{the_lemmas as folds}
use Rattle.ec_syntax.specs.declared.expression.ExprKind.TheVariants as e
use Rattle.ec_syntax.specs.declared.expression.ExprKind.TheViews.{the_lemmas as views}
use Rattle.ec_syntax.specs.declared.expression.Placement.{Placement}
use Rattle.ec_syntax.specs.declared.expression.Placement.TheVariants as place
use Rattle.ec_syntax.specs.declared.item.Item.{Item}
use Rattle.ec_syntax.specs.declared.item.Item.TheVariants as item
use Rattle.ec_syntax.specs.declared.item.Program.{Program}
use Rattle.ec_syntax.specs.declared.name.Base.TheVariants as base
use Rattle.ec_syntax.specs.declared.name.Mode.TheVariants as mode
use Rattle.ec_syntax.specs.declared.name.Name.{Name}
use Rattle.ec_syntax.specs.declared.name.Ty.{Ty}
use Rattle.ec_syntax.specs.declared.statement.Body.{roll-Body}
use Rattle.ec_syntax.specs.declared.statement.Decl.{Decl}
use Rattle.ec_syntax.specs.declared.statement.Stmt.{Stmt}
use Rattle.ec_syntax.specs.declared.statement.StmtKind.{StmtKind}
use Rattle.ec_syntax.specs.declared.statement.StmtKind.TheFolds.{the_lemmas as stmt_folds}
use Rattle.ec_syntax.specs.declared.statement.StmtKind.TheVariants as s
use Rattle.ec_syntax.specs.declared.statement.StmtKind.TheViews.{the_lemmas as stmt_views}
use Rattle.ec_types.specs.Meaning.Resolution.{program, main_number}
use Rattle.ec_types.specs.Meaning.Programs.{mean, told, run}
use Rattle.ec_types.specs.Meaning.Evaluation.{Program as Resolved}
use Rattle.ec_types.proofs.meaning.Rows.{row, ends, calls, calls_take_15, copies, copies_take_19, less, less_takes_8}

abbrev nowhere : Span
nowhere = record { from = 0; to = 0 }

abbrev named : Text → Name
named x = record { text = x; at = nowhere }

abbrev int : Ty
int = record { base = base.Int; stars = 0 }

abbrev expression : ExprKind → Expr
expression kind = record { kind = kind; at = nowhere }

abbrev statement : StmtKind → Stmt
statement kind = record { kind = kind; at = nowhere }

abbrev num : ℕ → Expr
num n = expression (e.Number (pos n))

abbrev var : Text → Expr
var x = expression (e.Var x)

abbrev call : Text → List Expr → Placement → Call
call f es p = roll-Call (record { name = named f; args = es; place = p; at = nowhere })

abbrev set : Expr → Expr → Stmt
set a b = statement (s.Set (record { left = a; right = b }))

abbrev return : Expr → Stmt
return a = statement (s.Return (Some a))

abbrev decl : Text → Ty → Option Expr → Decl
decl x ty init = record { name = named x; mode = mode.Plain; ty = ty; init = init }

abbrev function : Text → List Decl → List Decl → List Stmt → Item
function name ps ds ss =
    item.Func (record { name = named name; result = int; params = ps; body = roll-Body (record { decls = ds; stmts = ss }) })

abbrev source : List Item → Program
source is = record { items = is; end = nowhere }

abbrev main : List Decl → List Stmt → Item
main = function (codes "main") []

-- what a resolved program comes to, the source comes to
comes_to : (p : Program) (q : Resolved) → program p ≡ q → row (mean p [] 40) ≡ row (told 40 (run q (main_number p) [] 40))
comes_to p q is = ap (λ r. row (told 40 (run r (main_number p) [] 40))) is

-- int main(){ int x = 2; x = x - 5; return x; }
less_source : Program
less_source =
    source (main (decl (codes "x") int (Some (num 2)) ∷ [])
    (set (var (codes "x")) (expression (e.Binary Sub (var (codes "x")) (num 5))) ∷ return (var (codes "x")) ∷ []) ∷ [])

less_is : program less_source ≡ less
unfolding less_source
less_is = search (rules, folds, views, stmt_folds, stmt_views)

less_means : row (mean less_source [] 40) ≡ ends (negsuc 2) 8
unfolding less_source
less_means = comes_to less_source less less_is ∙ less_takes_8

-- int f(int n){ return n; } int main(){ int x; f(1); x = f(2)@NODE(3); return x; }
calls_source : Program
calls_source =
    source (function (codes "f") (decl (codes "n") int None ∷ []) [] (return (var (codes "n")) ∷ [])
    ∷ main (decl (codes "x") int None ∷ [])
    (statement (s.Eval (call (codes "f") (num 1 ∷ []) place.Here))
    ∷ set (var (codes "x")) (expression (e.Call (call (codes "f") (num 2 ∷ []) (place.Node (num 3))))) ∷ return (var (codes "x")) ∷ []) ∷ [])

calls_are : program calls_source ≡ calls
unfolding calls_source
calls_are = search (rules, folds, views, stmt_folds, stmt_views)

calls_mean : row (mean calls_source [] 40) ≡ ends (pos 2) 15
unfolding calls_source
calls_mean = comes_to calls_source calls calls_are ∙ calls_take_15

-- struct s { int a[2]; struct s *n; };
-- int main(){ struct s *p; p = malloc(sizeof(struct s)); p->a[1] = 4; *p = *p; return p->a[1]; }
abbrev a_struct : ℕ → Ty
a_struct stars = record { base = base.Struct (named (codes "s")); stars = stars }

abbrev written_item : Expr
written_item = expression (e.Index (expression (e.Arrow (var (codes "p")) (codes "a"))) (num 1))

abbrev written_whole : Expr
written_whole = expression (e.Deref (var (codes "p")))

copies_source : Program
copies_source =
    source (item.Struct (record { name = named (codes "s"); fields = record { name = named (codes "a"); ty = int; array = Some (pos 2) } ∷ record { name = named (codes "n"); ty = a_struct 1; array = None } ∷ [] })
    ∷ main (decl (codes "p") (a_struct 1) None ∷ [])
    (set (var (codes "p")) (expression (e.New None None (a_struct 0)))
    ∷ set written_item (num 4) ∷ set written_whole written_whole ∷ return written_item ∷ []) ∷ [])

copies_are : program copies_source ≡ copies
unfolding copies_source
copies_are = search (rules, folds, views, stmt_folds, stmt_views)

copies_mean : row (mean copies_source [] 40) ≡ ends (pos 4) 19
unfolding copies_source
copies_mean = comes_to copies_source copies copies_are ∙ copies_take_19
