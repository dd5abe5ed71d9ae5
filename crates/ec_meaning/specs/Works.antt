-- What the evaluator has still to do in an activation: works, which take values and accesses from its hand and put them there.
use Rattle.std.specs.Prelude.{ℕ, List, Option}
use Rattle.ec_base.specs.declared.operator.BinOp.{BinOp}
use Rattle.ec_base.specs.declared.operator.UnOp.{UnOp}
use Rattle.ec_base.specs.declared.token.Span.{Span}
use Rattle.ec_types.specs.Meaning.Values.{Val}
use Rattle.ec_types.specs.Meaning.State.{Vars}
use Rattle.ec_types.specs.Meaning.Memory.{Access}
use Rattle.ec_types.specs.Meaning.Tree.{FieldAt, Expr, Exprs, Part, Place, Invocation, Assignment, Decl, Stmt, Stmts, Else}

-- the kinds of placements
pub data Placement : Type 0 where
  Here : Placement
  OwnerOf : Placement
  Home : Placement
  Node : Placement
  Anywhere : Placement

-- what a loop tests and repeats
pub data Loop : Type 0 where
  WhileLoop : Expr → Stmt → Loop
  ForLoop : Part → Option Assignment → Stmt → Loop
  ForallLoop : Expr → Assignment → Stmt → Loop

pub data Work : Type 0 where
  -- expressions and accesses are evaluated
  Value : Expr → Work
  Constant : Val → Work
  Reach : Place → Work
  Arguments : Exprs → Work
  Call : Invocation → Work
  -- operators on values
  Operate : UnOp → Work
  Combine : Span → BinOp → Work
  AndThen : Expr → Work
  OrElse : Expr → Work
  AsTruth : Work
  -- values become accesses
  ToElement : Span → ℕ → Work
  ToBehind : Span → ℕ → FieldAt → Work
  ToField : Span → FieldAt → Work
  ToItem : Span → Work
  -- memory
  LoadFrom : Work
  LoadShared : Span → Work
  Allocate : Span → List Val → Work
  Share : Work
  SaveTo : Work
  CopyTo : Work
  SendTo : Span → Work
  AddUp : Span → Work
  -- a call with so many arguments
  Enter : Placement → ℕ → ℕ → Work
  Drop : Work
  -- statements
  Assign : Assignment → Work
  SetTo : ℕ → Work
  Declare : List Decl → Work
  Statement : Stmt → Work
  Statements : Stmts → Work
  Branches : Stmts → Work
  Branch : Stmt → Work
  Decide : Stmt → Else → Work
  Turn : Loop → Work
  Again : Loop → Work
  -- a construct has ended, before which there were so many births
  Joined : ℕ → Work
  PrintOut : List ℕ → ℕ → Work
  GiveBack : Work

-- the values and accesses at hand, the last one first, and the variables
pub record Hand : Type 0 where
  pub values : List Val
  pub accesses : List Access
  pub vars : Vars
