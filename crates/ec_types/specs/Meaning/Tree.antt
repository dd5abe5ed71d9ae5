-- Programs whose names and types are resolved: variables and functions are numbers, and accesses know their cells. Nodes know
-- where they stand, and the shapes behind pointers; what they mean is told without these, but for the places of traps.
use Rattle.std.specs.Prelude.{ℕ, ℤ, Bool, List, [], ◌∷◌, Option, Some, None}
use Rattle.ec_base.specs.declared.operator.BinOp.{BinOp}
use Rattle.ec_base.specs.declared.operator.UnOp.{UnOp}
use Rattle.ec_base.specs.declared.token.Span.{Span}
use Rattle.ec_types.specs.Meaning.Values.{Val}

-- The shape of an element by its number: 0 is an int, 1 a pointer, and from 2 on the structs in order.
abbrev pub Shape : Type 0
Shape = ℕ

-- what a value is: a pointer to elements of this shape, or none
abbrev pub Pointer : Type 0
Pointer = Option Shape

-- a field: its number in its struct, its first cell, and the length of an array field, otherwise 1
pub record FieldAt : Type 0 where
  pub number : ℕ
  pub first : ℕ
  pub length : ℕ

-- ---- expressions; what stands in parentheses stands for itself

mutual
  pub data Expr : Type 0 where
    Number : Span → ℤ → Expr
    Nil : Span → Expr
    -- a variable, or `&` and a shared one
    Var : Span → ℕ → Expr
    Unary : Span → UnOp → Expr → Expr
    Binary : Span → BinOp → Expr → Expr → Expr
    And : Span → Expr → Expr → Expr
    Or : Span → Expr → Expr → Expr
    -- what is loaded may be a pointer
    Load : Pointer → Place → Expr
    Called : Invocation → Expr
    -- a `malloc`: the shape and the cells of an element, and how many elements
    New : Span → Shape → List Val → Part → Expr
    ValueOf : Span → Expr → Expr

  -- what may be missing
  pub data Part : Type 0 where
    Missing : Part
    Given : Expr → Part

  pub data Place : Type 0 where
    -- `*e` and `e[i]`: the cells of an element, the pointer, and the index
    Element : Span → ℕ → Expr → Part → Place
    -- `e->f`: the cells of an element, the field, and the pointer
    Behind : Span → ℕ → FieldAt → Expr → Place
    -- `.f`: the field, and the element
    Field : Span → FieldAt → Place → Place
    -- `[i]` on an array field
    Item : Span → Place → Expr → Place

  -- a call: the function, its arguments and where it is placed
  pub data Invocation : Type 0 where
    Invoke : Span → ℕ → Exprs → Placing → Invocation

  pub data Exprs : Type 0 where
    Last : Exprs
    Arg : Expr → Exprs → Exprs

  pub data Placing : Type 0 where
    OnThis : Placing
    OnOwner : Expr → Placing
    OnHome : Placing
    OnNode : Expr → Placing
    OnAny : Placing

abbrev pub part : Option Expr → Part
part None = Missing
part (Some e) = Given e

abbrev pub exprs : List Expr → Exprs
exprs [] = Last
exprs (e ∷ es) = Arg e (exprs es)

-- ---- statements

pub data Assignment : Type 0 where
  -- a variable, which stands there
  SetVar : Span → ℕ → Expr → Assignment
  Store : Place → Expr → Assignment
  -- target, then source
  Copy : Place → Place → Assignment

-- a variable that is at first this value, or its initialiser's; or a shared one
pub data Decl : Type 0 where
  Plain : ℕ → Val → Part → Decl
  Shared : ℕ → Decl

mutual
  pub data Stmt : Type 0 where
    Skip : Stmt
    Block : List Decl → Stmts → Stmt
    Par : Span → Stmts → Stmt
    If : Expr → Stmt → Else → Stmt
    While : Expr → Stmt → Stmt
    For : Span → Option Assignment → Part → Option Assignment → Stmt → Stmt
    Forall : Span → Assignment → Expr → Assignment → Stmt → Stmt
    Set : Assignment → Stmt
    Eval : Invocation → Stmt
    WriteTo : Span → Expr → Expr → Stmt
    AddTo : Span → Expr → Expr → Stmt
    Print : List ℕ → Exprs → Stmt
    Return : Part → Stmt

  pub data Else : Type 0 where
    NoElse : Else
    Otherwise : Stmt → Else

  pub data Stmts : Type 0 where
    End : Stmts
    Then : Stmt → Stmts → Stmts

abbrev pub otherwise : Option Stmt → Else
otherwise None = NoElse
otherwise (Some x) = Otherwise x

abbrev pub stmts : List Stmt → Stmts
stmts [] = End
stmts (x ∷ xs) = Then x (stmts xs)

-- ---- functions

-- a variable or parameter: where it is declared, whether it is shared or local, and whether it is a pointer
pub record Variable : Type 0 where
  pub at : Span
  pub shared : Bool
  pub local : Bool
  pub pointer : Pointer

-- its parameters among its variables, whether it gives nothing or a pointer, the shape behind that, and its body
pub record Function : Type 0 where
  pub params : List ℕ
  pub variables : List Variable
  pub void : Bool
  pub pointer : Bool
  pub shape : Shape
  pub decls : List Decl
  pub body : Stmts
