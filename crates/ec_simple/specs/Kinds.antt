-- Ints and pointers stand in the resolved tree of a typed program where they are asked for, and the fields and shapes that it
-- names are there.
use Rattle.std.specs.Prelude.{◌≡◌, ℕ, ◌<◌, ◌⊎◌, Bool, true, false, if◌then◌else◌, List, [], ◌∷◌, length, map, get_or, Option, Some, None}
use Rattle.std.specs.Option.{is_some}
use Rattle.ec_base.specs.declared.operator.BinOp.{BinOp}
use Rattle.ec_base.specs.declared.operator.BinOp.TheVariants.{Eq, Ne}
use Rattle.ec_base.specs.declared.operator.UnOp.{UnOp}
use Rattle.ec_base.specs.declared.operator.UnOp.TheVariants.{Not}
use Rattle.ec_simple.specs.declared.form.Shape.{Shape}
use Rattle.ec_simple.specs.Expressions.{Scope, no_variable, variable_at, function_at, pointer, points}
use Rattle.ec_simple.specs.Meaning.{field_of, first_value}
use Rattle.ec_simple.specs.Sound.{behind, reached}
use Rattle.ec_types.specs.Meaning.Layout.{or_zero}
use Rattle.ec_types.specs.Meaning.Tree.{Expr, Number, Nil, Var, Unary, Binary, And, Or, Load, Called, New, ValueOf, Part, Missing, Given, Place, Element, Behind, Field, Item, Invocation, Invoke, Exprs, Last, Arg, Placing, OnThis, OnOwner, OnHome, OnNode, OnAny, Assignment, SetVar, Store, Copy, Decl, Plain, Shared, Stmt, Skip, Block, Par, If, While, For, Forall, Set, Eval, WriteTo, AddTo, Print, Return, Else, NoElse, Otherwise, Stmts, End, Then, Function}

-- ---- kinds

abbrev pub IsInt : Scope → Expr → Type 0
IsInt c a = points c a ≡ false

abbrev pub IsPointer : Scope → Expr → Type 0
IsPointer c a = points c a ≡ true

-- a shared variable points at an int
abbrev pub IsShared : Scope → Expr → Type 0
IsShared c a = pointer c a ≡ Some 0

abbrev pub AreInts : Scope → Exprs → Type 0
AreInts c Last = Unit {0}
AreInts c (Arg a es) = IsInt c a × AreInts c es

-- which of the arguments, and which of the parameters, are pointers
abbrev pub arguments_point : Scope → Exprs → List Bool
arguments_point c Last = []
arguments_point c (Arg a es) = points c a ∷ arguments_point c es

abbrev pub parameters_point : Function → List Bool
parameters_point f = map (λ x. is_some (get_or f.variables x no_variable).pointer) f.params

-- what a function gives: nothing, an int, or a pointer
abbrev pub given : Function → Option Bool
given f = if f.void then None else Some f.pointer

-- ---- operators

abbrev pub is_equality : BinOp → Bool
is_equality Eq = true
is_equality Ne = true
is_equality op = false

abbrev pub ForUnary : Scope → UnOp → Expr → Type 0
ForUnary c Not a = Unit {0}
ForUnary c op a = IsInt c a

abbrev pub ForBinary : Scope → BinOp → Expr → Expr → Type 0
ForBinary c op a b = (IsInt c a × IsInt c b) ⊎ ((is_equality op ≡ true) × IsPointer c a × IsPointer c b)

-- ---- accesses

abbrev pub HasNumber : Shape → ℕ → Type 0
HasNumber s f = f < length s.fields

-- the number of the shape of the element
abbrev pub element_shape : Scope → Place → ℕ
element_shape c (Element at size base index) = or_zero (pointer c base)
element_shape c (Behind at size f base) = or_zero (pointer c base)
element_shape c (Field at f p) = element_shape c p
element_shape c (Item at p index) = element_shape c p

-- the number of the field
abbrev pub field_number : Place → ℕ
field_number (Element at size base index) = 0
field_number (Behind at size f base) = f.number
field_number (Field at f p) = f.number
field_number (Item at p index) = field_number p

-- whether what is there is a pointer
abbrev pub cell_points : List Shape → Scope → Place → Bool
cell_points shapes c p = (field_of (reached shapes c p) (field_number p)).pointer

-- one cell: an item of the field, or a field of one cell
abbrev pub IsOne : List Shape → Scope → Place → Type 0
IsOne shapes c (Item at p index) = Unit {0}
IsOne shapes c p = (field_of (reached shapes c p) (field_number p)).cells ≡ 1

-- the first assignment in the header of a `forall`
abbrev pub SetsVariable : Assignment → Type 0
SetsVariable (SetVar at x a) = Unit {0}
SetsVariable a = ⊥

-- ---- expressions

module _ (shapes : List Shape) (c : Scope) where
  abbrev mutual
    pub Kinds : Expr → Type 0
    Kinds (Number at n) = Unit {0}
    Kinds (Nil at) = Unit {0}
    Kinds (Var at x) = Unit {0}
    Kinds (Unary at op a) = Kinds a × ForUnary c op a
    Kinds (Binary at op a b) = Kinds a × Kinds b × ForBinary c op a b
    Kinds (And at a b) = Kinds a × Kinds b
    Kinds (Or at a b) = Kinds a × Kinds b
    Kinds (Load q p) =
        KindsPlace p × IsOne shapes c p × (cell_points shapes c p ≡ is_some q) × (or_zero q < length shapes)
    Kinds (Called i) = KindsCall i
    Kinds (New at shape element count) = (shape < length shapes) × KindsInt count
    Kinds (ValueOf at a) = Kinds a × IsShared c a

    -- an index or a count
    pub KindsInt : Part → Type 0
    KindsInt Missing = Unit {0}
    KindsInt (Given a) = Kinds a × IsInt c a

    -- a condition
    pub KindsTest : Part → Type 0
    KindsTest Missing = Unit {0}
    KindsTest (Given a) = Kinds a

    pub KindsPlace : Place → Type 0
    KindsPlace (Element at size base index) =
        Kinds base × IsPointer c base × KindsInt index × HasNumber (behind shapes c base) 0
    KindsPlace (Behind at size f base) = Kinds base × IsPointer c base × HasNumber (behind shapes c base) f.number
    KindsPlace (Field at f p) = KindsPlace p × HasNumber (reached shapes c p) f.number
    KindsPlace (Item at p index) = KindsPlace p × Kinds index × IsInt c index

    pub KindsCall : Invocation → Type 0
    KindsCall (Invoke at f es q) =
        KindsList es × (arguments_point c es ≡ parameters_point (function_at c f)) × KindsPlacing q

    pub KindsList : Exprs → Type 0
    KindsList Last = Unit {0}
    KindsList (Arg a es) = Kinds a × KindsList es

    pub KindsPlacing : Placing → Type 0
    KindsPlacing OnThis = Unit {0}
    KindsPlacing (OnOwner a) = Kinds a × IsPointer c a
    KindsPlacing OnHome = Unit {0}
    KindsPlacing (OnNode a) = Kinds a × IsInt c a
    KindsPlacing OnAny = Unit {0}

  -- ---- assignments and declarations

  -- an element that is copied: its struct may have no field
  abbrev pub KindsElement : Place → Type 0
  KindsElement (Element at size base index) = Kinds base × IsPointer c base × KindsInt index
  KindsElement p = KindsPlace p

  -- a variable that isn't shared gets a value of its kind
  abbrev pub Gets : ℕ → Expr → Type 0
  Gets x a = (points c a ≡ is_some (variable_at c x).pointer) × ((variable_at c x).shared ≡ false)

  abbrev pub KindsAssignment : Assignment → Type 0
  KindsAssignment (SetVar at x a) = Kinds a × Gets x a
  KindsAssignment (Store p a) =
      KindsPlace p × IsOne shapes c p × Kinds a × (cell_points shapes c p ≡ points c a)
  KindsAssignment (Copy p q) = KindsElement p × KindsElement q × (element_shape c p ≡ element_shape c q)

  abbrev pub KindsOptional : Option Assignment → Type 0
  KindsOptional None = Unit {0}
  KindsOptional (Some a) = KindsAssignment a

  abbrev pub KindsFirst : ℕ → Part → Type 0
  KindsFirst x Missing = Unit {0}
  KindsFirst x (Given a) = Kinds a × Gets x a

  abbrev pub KindsDecl : Decl → Type 0
  KindsDecl (Plain x v init) = (v ≡ first_value (is_some (variable_at c x).pointer)) × KindsFirst x init
  KindsDecl (Shared x) = (variable_at c x).pointer ≡ Some 0

  abbrev pub KindsDecls : List Decl → Type 0
  KindsDecls [] = Unit {0}
  KindsDecls (d ∷ ds) = KindsDecl d × KindsDecls ds

  -- ---- statements of a function that gives this

  module _ (gives : Option Bool) where
    abbrev pub KindsReturn : Part → Type 0
    KindsReturn Missing = gives ≡ None
    KindsReturn (Given a) = Kinds a × (gives ≡ Some (points c a))

    abbrev mutual
      pub KindsStmt : Stmt → Type 0
      KindsStmt Skip = Unit {0}
      KindsStmt (Block ds ss) = KindsDecls ds × KindsStmts ss
      KindsStmt (Par at ss) = KindsStmts ss
      KindsStmt (If a s z) = Kinds a × KindsStmt s × KindsElse z
      KindsStmt (While a s) = Kinds a × KindsStmt s
      KindsStmt (For at a e b s) = KindsOptional a × KindsTest e × KindsOptional b × KindsStmt s
      KindsStmt (Forall at a e b s) =
          KindsAssignment a × Kinds e × KindsAssignment b × KindsStmt s × SetsVariable a
      KindsStmt (Set a) = KindsAssignment a
      KindsStmt (Eval i) = KindsCall i
      KindsStmt (WriteTo at p a) = Kinds p × IsShared c p × Kinds a × IsInt c a
      KindsStmt (AddTo at p a) = Kinds p × IsShared c p × Kinds a × IsInt c a
      KindsStmt (Print string es) = KindsList es × AreInts c es
      KindsStmt (Return e) = KindsReturn e

      pub KindsElse : Else → Type 0
      KindsElse NoElse = Unit {0}
      KindsElse (Otherwise s) = KindsStmt s

      pub KindsStmts : Stmts → Type 0
      KindsStmts End = Unit {0}
      KindsStmts (Then s ss) = KindsStmt s × KindsStmts ss

-- ---- functions

pub record KindsFunction (shapes : List Shape) (c : Scope) (f : Function) : Type 0 where
  pub variables : (x : ℕ) → or_zero (variable_at c x).pointer < length shapes
  pub shared : (x : ℕ) → (variable_at c x).shared ≡ true → (variable_at c x).pointer ≡ Some 0
  pub result : f.shape < length shapes
  pub decls : KindsDecls shapes c f.decls
  pub body : KindsStmts shapes c (given f) f.body
