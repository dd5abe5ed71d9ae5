-- The resolved trees of the code as those of the definitions, which have no boxes, no lists of trees and no widths.
use Rattle.std.specs.Prelude.{Bool, if◌then◌else◌, List, map, Option, option_map}
use Rattle.ec_resolve.specs.declared.term.Term.{Term, fold-Term}
use Rattle.ec_resolve.specs.declared.term.Place.{Place, fold-Place}
use Rattle.ec_resolve.specs.declared.term.Placing.{Placing, fold-Placing}
use Rattle.ec_resolve.specs.declared.term.Invocation.{Invocation, fold-Invocation}
use Rattle.ec_resolve.specs.declared.term.Allocation.{Allocation, fold-Allocation}
use Rattle.ec_resolve.specs.declared.term.Extent.{Extent}
use Rattle.ec_resolve.specs.declared.term.Place.TheOpen.{Place-F, Placing-F, Term-F, Allocation-F, Invocation-F}
use Rattle.ec_resolve.specs.declared.action.Assignment.{Assignment}
use Rattle.ec_resolve.specs.declared.action.Assignment.TheVariants as written
use Rattle.ec_resolve.specs.declared.action.Declared.{Declared}
use Rattle.ec_resolve.specs.declared.action.Declared.TheVariants as declared
use Rattle.ec_resolve.specs.declared.action.Action.{Action, fold-Action}
use Rattle.ec_resolve.specs.declared.action.Block.{Block, fold-Block}
use Rattle.ec_resolve.specs.declared.action.Action.TheOpen.{Action-F, Block-F}
use Rattle.ec_resolve.specs.declared.action.Function.{Function}
use Rattle.ec_resolve.specs.declared.action.Variable.{Variable}
use Rattle.ec_types.specs.Meaning.Values.{Val, Null, zero_value}
use Rattle.ec_types.specs.Meaning.Tree as t

-- what a cell or variable is at first
abbrev pub first_value : Bool → Val
first_value pointer = if pointer then Null else zero_value

-- ---- expressions

abbrev pub field : Extent → t.FieldAt
field f = record { number = f.number; first = f.first; length = f.length }

abbrev pub of_place : Place-F t.Place t.Placing t.Expr t.Expr t.Invocation → t.Place
of_place (Place-F.Element at size base index) = t.Element at size base (t.part index)
of_place (Place-F.Behind at size f base) = t.Behind at size (field f) base
of_place (Place-F.Field at f p) = t.Field at (field f) p
of_place (Place-F.Item at p index) = t.Item at p index

abbrev pub of_placing : Placing-F t.Place t.Placing t.Expr t.Expr t.Invocation → t.Placing
of_placing Placing-F.Here = t.OnThis
of_placing (Placing-F.OwnerOf e) = t.OnOwner e
of_placing Placing-F.Home = t.OnHome
of_placing (Placing-F.Node e) = t.OnNode e
of_placing Placing-F.Anywhere = t.OnAny

abbrev pub of_term : Term-F t.Place t.Placing t.Expr t.Expr t.Invocation → t.Expr
of_term (Term-F.Number at n) = t.Number at n
of_term (Term-F.Nil at) = t.Nil at
of_term (Term-F.Var at x) = t.Var at x
of_term (Term-F.Unary at op a) = t.Unary at op a
of_term (Term-F.Binary at op a b) = t.Binary at op a b
of_term (Term-F.And at a b) = t.And at a b
of_term (Term-F.Or at a b) = t.Or at a b
of_term (Term-F.Load pointer p) = t.Load pointer p
of_term (Term-F.Call i) = t.Called i
of_term (Term-F.New a) = a
of_term (Term-F.ValueOf at a) = t.ValueOf at a

abbrev pub of_allocation : Allocation-F t.Place t.Placing t.Expr t.Expr t.Invocation → t.Expr
of_allocation a = t.New a.at a.shape (map first_value a.pointers) (t.part a.count)

abbrev pub of_invocation : Invocation-F t.Place t.Placing t.Expr t.Expr t.Invocation → t.Invocation
of_invocation i = t.Invoke i.at i.function (t.exprs i.args) i.placing

abbrev pub expression : Term → t.Expr
expression = fold-Term t.Place t.Placing t.Expr t.Expr t.Invocation of_place of_placing of_term of_allocation of_invocation

abbrev pub place : Place → t.Place
place = fold-Place t.Place t.Placing t.Expr t.Expr t.Invocation of_place of_placing of_term of_allocation of_invocation

abbrev pub placing : Placing → t.Placing
placing = fold-Placing t.Place t.Placing t.Expr t.Expr t.Invocation of_place of_placing of_term of_allocation of_invocation

abbrev pub allocation : Allocation → t.Expr
allocation = fold-Allocation t.Place t.Placing t.Expr t.Expr t.Invocation of_place of_placing of_term of_allocation of_invocation

abbrev pub invocation : Invocation → t.Invocation
invocation = fold-Invocation t.Place t.Placing t.Expr t.Expr t.Invocation of_place of_placing of_term of_allocation of_invocation

abbrev pub optional : Option Term → t.Part
optional e = t.part (option_map expression e)

abbrev pub expressions : List Term → t.Exprs
expressions es = t.exprs (map expression es)

-- ---- statements

abbrev pub assignment : Assignment → t.Assignment
assignment (written.SetVar at x e) = t.SetVar at x (expression e)
assignment (written.Store p e) = t.Store (place p) (expression e)
assignment (written.Copy p q) = t.Copy (place p) (place q)

abbrev pub declaration : Declared → t.Decl
declaration (declared.Plain x pointer init) = t.Plain x (first_value pointer) (optional init)
declaration (declared.Shared x) = t.Shared x

-- a block: its declarations and its statements
abbrev pub Braced : Type 0
Braced = List t.Decl × t.Stmts

abbrev pub of_action : Action-F t.Stmt Braced → t.Stmt
of_action Action-F.Skip = t.Skip
of_action (Action-F.Block b) = t.Block b.0 b.1
of_action (Action-F.Par at ss) = t.Par at (t.stmts ss)
of_action (Action-F.If e a b) = t.If (expression e) a (t.otherwise b)
of_action (Action-F.While e s) = t.While (expression e) s
of_action (Action-F.For at h s) =
    t.For at (option_map assignment h.first) (optional h.test) (option_map assignment h.last) s
of_action (Action-F.Forall at h s) = t.Forall at (assignment h.first) (expression h.test) (assignment h.last) s
of_action (Action-F.Set a) = t.Set (assignment a)
of_action (Action-F.Eval i) = t.Eval (invocation i)
of_action (Action-F.WriteTo at p e) = t.WriteTo at (expression p) (expression e)
of_action (Action-F.AddTo at p e) = t.AddTo at (expression p) (expression e)
of_action (Action-F.Print string es) = t.Print string (expressions es)
of_action (Action-F.Return e) = t.Return (optional e)

abbrev pub of_block : Block-F t.Stmt Braced → Braced
of_block b = (map declaration b.decls, t.stmts b.actions)

abbrev pub statement : Action → t.Stmt
statement = fold-Action t.Stmt Braced of_action of_block

abbrev pub block : Block → Braced
block = fold-Block t.Stmt Braced of_action of_block

abbrev pub statements : List Action → t.Stmts
statements ss = t.stmts (map statement ss)

-- ---- functions

abbrev pub variable : Variable → t.Variable
variable v = record { at = v.at; shared = v.shared; local = v.local; pointer = v.pointer }

abbrev pub function : Function → t.Function
function f = record {
  params = f.params;
  variables = map variable f.variables;
  void = f.void;
  pointer = f.pointer;
  shape = f.shape;
  decls = (block f.body).0;
  body = (block f.body).1;
}
