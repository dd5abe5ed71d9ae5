-- A small program as it is written, and what its tree knows of places, shapes, fields and variables.
use Rattle.std.proofs.Common.{rules, ◌≡◌, ℕ, suc, Bool, true, false, List, [], ◌∷◌, codes, Option, Some, None, pos}
use Rattle.ec_base.specs.declared.operator.UnOp.TheVariants.{Not}
use Rattle.ec_base.specs.declared.text.Text.{Text}
use Rattle.ec_base.specs.declared.token.Span.{Span}
use Rattle.ec_syntax.specs.declared.expression.Call.{Call, roll-Call}
use Rattle.ec_syntax.specs.declared.expression.Expr.{Expr}
use Rattle.ec_syntax.specs.declared.expression.ExprKind.{ExprKind}
use Rattle.ec_syntax.specs.declared.expression.ExprKind.TheFolds.{the_lemmas as folds}
use Rattle.ec_syntax.specs.declared.expression.ExprKind.TheVariants as e
use Rattle.ec_syntax.specs.declared.expression.ExprKind.TheViews.{the_lemmas as views}
use Rattle.ec_syntax.specs.declared.expression.Placement.TheVariants as place
use Rattle.ec_syntax.specs.declared.item.Field.{Field}
use Rattle.ec_syntax.specs.declared.item.Item.{Item}
use Rattle.ec_syntax.specs.declared.item.Item.TheVariants as item
use Rattle.ec_syntax.specs.declared.item.Program.{Program}
use Rattle.ec_syntax.specs.declared.name.Base.TheVariants as base
use Rattle.ec_syntax.specs.declared.name.Mode.{Mode}
use Rattle.ec_syntax.specs.declared.name.Mode.TheVariants as mode
use Rattle.ec_syntax.specs.declared.name.Name.{Name}
use Rattle.ec_syntax.specs.declared.name.Ty.{Ty}
use Rattle.ec_syntax.specs.declared.statement.Assign.{Assign}
use Rattle.ec_syntax.specs.declared.statement.Body.{roll-Body}
use Rattle.ec_syntax.specs.declared.statement.Decl.{Decl}
use Rattle.ec_syntax.specs.declared.statement.Stmt.{Stmt}
use Rattle.ec_syntax.specs.declared.statement.StmtKind.{StmtKind}
use Rattle.ec_syntax.specs.declared.statement.StmtKind.TheFolds.{the_lemmas as stmt_folds}
use Rattle.ec_syntax.specs.declared.statement.StmtKind.TheVariants as s
use Rattle.ec_syntax.specs.declared.statement.StmtKind.TheViews.{the_lemmas as stmt_views}
use Rattle.ec_types.specs.Meaning.Resolution.{program}
use Rattle.ec_types.specs.Meaning.Tree as t
use Rattle.ec_types.specs.Meaning.Tree.{Pointer, Variable, Function}
use Rattle.ec_types.specs.Meaning.Values.{Null}

-- ---- as it is written, at places that tell its parts apart

abbrev at : ℕ → Span
at n = record { from = n; to = suc n }

abbrev named : Text → ℕ → Name
named x n = record { text = x; at = at n }

abbrev written : ExprKind → ℕ → Expr
written kind n = record { kind = kind; at = at n }

abbrev done : StmtKind → ℕ → Stmt
done kind n = record { kind = kind; at = at n }

abbrev var : Text → ℕ → Expr
var x n = written (e.Var x) n

abbrev num : ℕ → ℕ → Expr
num k n = written (e.Number (pos k)) n

abbrev is : Expr → Expr → Assign
is a b = record { left = a; right = b }

abbrev ints : ℕ → Ty
ints stars = record { base = base.Int; stars = stars }

abbrev to_struct : Text → Ty
to_struct x = record { base = base.Struct (named x 0); stars = 1 }

abbrev decl : Text → ℕ → Mode → Ty → Decl
decl x n mode ty = record { name = named x n; mode = mode; ty = ty; init = None }

abbrev function : Text → Ty → List Decl → List Decl → List Stmt → Item
function name result ps ds ss =
    item.Func (record { name = named name 0; result = result; params = ps; body = roll-Body (record { decls = ds; stmts = ss }) })

abbrev structure : Text → List Field → Item
structure name fields = item.Struct (record { name = named name 0; fields = fields })

-- ---- results, parameters and fields

-- struct t { int v; };
abbrev first_struct : Item
first_struct = structure (codes "t") (record { name = named (codes "v") 0; ty = ints 0; array = None } ∷ [])

-- struct s { int a[2]; struct t *n; };
abbrev second_struct : Item
second_struct =
    structure (codes "s")
    (record { name = named (codes "a") 0; ty = ints 0; array = Some (pos 2) }
    ∷ record { name = named (codes "n") 0; ty = to_struct (codes "t"); array = None } ∷ [])

-- struct t *next(struct s *p, local int *q, shared int *c){ return p->n; }
abbrev next_source : Item
next_source =
    function (codes "next") (to_struct (codes "t"))
    (decl (codes "p") 1 mode.Plain (to_struct (codes "s"))
    ∷ decl (codes "q") 2 mode.Local (ints 1) ∷ decl (codes "c") 3 mode.Shared (ints 1) ∷ [])
    [] (done (s.Return (Some (written (e.Arrow (var (codes "p") 4) (codes "n")) 5))) 6 ∷ [])

abbrev variable : ℕ → Bool → Bool → Pointer → Variable
variable n shared local pointer = record { at = at n; shared = shared; local = local; pointer = pointer }

abbrev next : Function
next = record {
  params = 0 ∷ 1 ∷ 2 ∷ [];
  variables =
      variable 1 false false (Some 3) ∷ variable 2 false true (Some 0) ∷ variable 3 true false (Some 0) ∷ [];
  void = false;
  pointer = true;
  shape = 2;
  decls = [];
  body = t.Then (t.Return (t.Given (t.Load (Some 2) (t.Behind (at 5) 3 linked (t.Var (at 4) 0))))) t.End;
}
  where
    linked : t.FieldAt
    linked = record { number = 1; first = 2; length = 1 }

-- ---- operators, loops and calls

-- void count(){ int **x; for (; x && 0 || !x ;) {^ ^} forall (x = NULL; 1; x = malloc(sizeof(int *))) count(); }
abbrev count_source : Item
count_source =
    function (codes "count") (record { base = base.Void; stars = 0 }) []
    (decl (codes "x") 1 mode.Plain (ints 2) ∷ [])
    (done (s.For None (Some test) None (done (s.Par []) 7)) 8 ∷ done (s.Forall first (num 1 11) last (done calls 15)) 16 ∷ [])
  where
    both : Expr
    both = written (e.And (var (codes "x") 2) (num 0 3)) 4

    test : Expr
    test = written (e.Or both (written (e.Unary Not (var (codes "x") 5)) 6)) 17

    first : Assign
    first = is (var (codes "x") 9) (written e.Null 10)

    last : Assign
    last = is (var (codes "x") 12) (written (e.New None None (ints 1)) 13)

    calls : StmtKind
    calls = s.Eval (roll-Call (record { name = named (codes "count") 0; args = []; place = place.Here; at = at 14 }))

abbrev count : Function
count = record {
  params = [];
  variables = variable 1 false false (Some 1) ∷ [];
  void = true;
  pointer = false;
  shape = 0;
  decls = t.Plain 0 Null t.Missing ∷ [];
  body =
      t.Then (t.For (at 8) None (t.Given test) None (t.Par (at 7) t.End))
      (t.Then (t.Forall (at 16) (t.SetVar (at 9) 0 (t.Nil (at 10))) (t.Number (at 11) (pos 1)) last calls) t.End);
}
  where
    test : t.Expr
    test =
        t.Or (at 17) (t.And (at 4) (t.Var (at 2) 0) (t.Number (at 3) (pos 0)))
        (t.Unary (at 6) Not (t.Var (at 5) 0))

    last : t.Assignment
    last = t.SetVar (at 12) 0 (t.New (at 13) 1 (Null ∷ []) t.Missing)

    calls : t.Stmt
    calls = t.Eval (t.Invoke (at 14) 1 t.Last t.OnThis)

-- ---- both are resolved

noted_source : Program
noted_source = record { items = first_struct ∷ second_struct ∷ next_source ∷ count_source ∷ []; end = at 0 }

noted_is : program noted_source ≡ next ∷ count ∷ []
unfolding noted_source
noted_is = search (rules, folds, views, stmt_folds, stmt_views)
