-- What the resolved tree of a typed program keeps to, as far as its simple form needs it: variables are in scope, calls name
-- functions and have their arguments, and accesses know the shapes and fields that they reach.
use Rattle.std.specs.Prelude.{◌≡◌, ℕ, suc, ◌<◌, ◌⊎◌, Bool, true, false, List, [], ◌∷◌, ◌++◌, length, map, Option, Some, None}
use Rattle.ec_simple.specs.declared.form.Shape.{Shape}
use Rattle.ec_simple.specs.Expressions.{Scope, function_at, pointer}
use Rattle.ec_simple.specs.Meaning.{shape_at, field_of, fresh_cells}
use Rattle.ec_simple.specs.Uses.{declared, all_declare, member}
use Rattle.ec_types.specs.Meaning.Layout.{or_zero}
use Rattle.ec_types.specs.Meaning.Tree.{FieldAt, Expr, Number, Nil, Var, Unary, Binary, And, Or, Load, Called, New, ValueOf, Part, Missing, Given, Place, Element, Behind, Field, Item, Invocation, Invoke, Exprs, Last, Arg, Placing, OnThis, OnOwner, OnHome, OnNode, OnAny, Assignment, SetVar, Store, Copy, Decl, Plain, Shared, Stmt, Skip, Block, Par, If, While, For, Forall, Set, Eval, WriteTo, AddTo, Print, Return, Else, NoElse, Otherwise, Stmts, End, Then, Function}
use Rattle.ec_types.specs.Meaning.Values.{Null, zero_value}

abbrev pub IsIn : ℕ → List ℕ → Type 0
IsIn x xs = member x xs ≡ true

abbrev pub IsNew : ℕ → List ℕ → Type 0
IsNew x xs = member x xs ≡ false

-- ---- accesses

-- the shape behind an expression that is a pointer
abbrev pub behind : List Shape → Scope → Expr → Shape
behind shapes c a = shape_at shapes (or_zero (pointer c a))

pub record HasField (s : Shape) (f : FieldAt) : Type 0 where
  pub first : (field_of s f.number).at ≡ f.first
  pub length : (field_of s f.number).cells ≡ f.length

-- an element without a field that is loaded or stored is one cell
abbrev pub whole : FieldAt
whole = record { number = 0; first = 0; length = 1 }

-- the shape of the element of an access
abbrev pub reached : List Shape → Scope → Place → Shape
reached shapes c (Element at size base index) = behind shapes c base
reached shapes c (Behind at size f base) = behind shapes c base
reached shapes c (Field at f p) = reached shapes c p
reached shapes c (Item at p index) = reached shapes c p

abbrev pub IsCell : List Shape → Scope → Place → Type 0
IsCell shapes c (Element at size base index) = HasField (behind shapes c base) whole
IsCell shapes c (Item at p index) = IsCell shapes c p
IsCell shapes c p = Unit {0}

abbrev pub count : Exprs → ℕ
count Last = 0
count (Arg a es) = suc (count es)

-- ---- expressions: sc are the variables in scope

module _ (shapes : List Shape) (c : Scope) where
  abbrev mutual
    pub Sound : List ℕ → Expr → Type 0
    Sound sc (Number at n) = Unit {0}
    Sound sc (Nil at) = Unit {0}
    Sound sc (Var at x) = IsIn x sc
    Sound sc (Unary at op a) = Sound sc a
    Sound sc (Binary at op a b) = Sound sc a × Sound sc b
    Sound sc (And at a b) = Sound sc a × Sound sc b
    Sound sc (Or at a b) = Sound sc a × Sound sc b
    Sound sc (Load q p) = SoundPlace sc p × IsCell shapes c p
    Sound sc (Called i) = SoundCall sc i × Gives i
    Sound sc (New at shape element count) = (fresh_cells (shape_at shapes shape) ≡ element) × SoundPart sc count
    Sound sc (ValueOf at a) = Sound sc a

    pub SoundPart : List ℕ → Part → Type 0
    SoundPart sc Missing = Unit {0}
    SoundPart sc (Given a) = Sound sc a

    pub SoundPlace : List ℕ → Place → Type 0
    SoundPlace sc (Element at size base index) =
        Sound sc base × SoundPart sc index × ((behind shapes c base).cells ≡ size)
    SoundPlace sc (Behind at size f base) =
        Sound sc base × ((behind shapes c base).cells ≡ size) × HasField (behind shapes c base) f
    SoundPlace sc (Field at f p) = SoundPlace sc p × HasField (reached shapes c p) f
    SoundPlace sc (Item at p index) = SoundPlace sc p × Sound sc index

    pub SoundCall : List ℕ → Invocation → Type 0
    SoundCall sc (Invoke at f es q) =
        (f < length c.functions) × (count es ≡ length (function_at c f).params) × SoundList sc es × SoundPlacing sc q

    pub SoundList : List ℕ → Exprs → Type 0
    SoundList sc Last = Unit {0}
    SoundList sc (Arg a es) = Sound sc a × SoundList sc es

    pub SoundPlacing : List ℕ → Placing → Type 0
    SoundPlacing sc OnThis = Unit {0}
    SoundPlacing sc (OnOwner a) = Sound sc a
    SoundPlacing sc OnHome = Unit {0}
    SoundPlacing sc (OnNode a) = Sound sc a
    SoundPlacing sc OnAny = Unit {0}

    -- a call whose value is used gives one
    pub Gives : Invocation → Type 0
    Gives (Invoke at f es q) = (function_at c f).void ≡ false

  -- ---- assignments and declarations

  abbrev pub SoundAssignment : List ℕ → Assignment → Type 0
  SoundAssignment sc (SetVar at x a) = IsIn x sc × Sound sc a
  SoundAssignment sc (Store p a) = SoundPlace sc p × IsCell shapes c p × Sound sc a
  SoundAssignment sc (Copy p q) = SoundPlace sc p × SoundPlace sc q

  abbrev pub SoundOptional : List ℕ → Option Assignment → Type 0
  SoundOptional sc None = Unit {0}
  SoundOptional sc (Some a) = SoundAssignment sc a

  -- a variable is in scope in its own initialiser
  abbrev pub SoundDecl : List ℕ → Decl → Type 0
  SoundDecl sc (Plain x v init) = IsNew x sc × ((v ≡ Null) ⊎ (v ≡ zero_value)) × SoundPart (x ∷ sc) init
  SoundDecl sc (Shared x) = IsNew x sc

  abbrev pub SoundDecls : List ℕ → List Decl → Type 0
  SoundDecls sc [] = Unit {0}
  SoundDecls sc (d ∷ ds) = SoundDecl sc d × SoundDecls (declared d ∷ sc) ds

  -- what is in scope behind declarations
  abbrev pub with_declared : List Decl → List ℕ → List ℕ
  with_declared [] sc = sc
  with_declared (d ∷ ds) sc = with_declared ds (declared d ∷ sc)

  -- ---- statements: there is no `return` in branches and bodies of `forall`s

  abbrev mutual
    pub SoundStmt : Bool → List ℕ → Stmt → Type 0
    SoundStmt may sc Skip = Unit {0}
    SoundStmt may sc (Block ds ss) = SoundDecls sc ds × SoundStmts may (with_declared ds sc) ss
    SoundStmt may sc (Par at ss) = SoundStmts false sc ss
    SoundStmt may sc (If a s z) = Sound sc a × SoundStmt may sc s × SoundElse may sc z
    SoundStmt may sc (While a s) = Sound sc a × SoundStmt may sc s
    SoundStmt may sc (For at a e b s) = SoundOptional sc a × SoundPart sc e × SoundOptional sc b × SoundStmt may sc s
    SoundStmt may sc (Forall at a e b s) = SoundAssignment sc a × Sound sc e × SoundAssignment sc b × SoundStmt false sc s
    SoundStmt may sc (Set a) = SoundAssignment sc a
    SoundStmt may sc (Eval i) = SoundCall sc i
    SoundStmt may sc (WriteTo at p a) = Sound sc p × Sound sc a
    SoundStmt may sc (AddTo at p a) = Sound sc p × Sound sc a
    SoundStmt may sc (Print string es) = SoundList sc es
    SoundStmt may sc (Return e) = (may ≡ true) × SoundPart sc e

    pub SoundElse : Bool → List ℕ → Else → Type 0
    SoundElse may sc NoElse = Unit {0}
    SoundElse may sc (Otherwise s) = SoundStmt may sc s

    pub SoundStmts : Bool → List ℕ → Stmts → Type 0
    SoundStmts may sc End = Unit {0}
    SoundStmts may sc (Then s ss) = SoundStmt may sc s × SoundStmts may sc ss

-- ---- functions

-- its variables have the numbers below how many it has
pub record SoundFunction (shapes : List Shape) (c : Scope) (f : Function) : Type 0 where
  pub below : (x : ℕ) → IsIn x (f.params ++ map declared f.decls ++ all_declare f.body) → x < length f.variables
  pub decls : SoundDecls shapes c f.params f.decls
  pub body : SoundStmts shapes c true (with_declared shapes c f.decls f.params) f.body
