-- Which variables the parts of a resolved tree read, set and declare, each occurrence with its place.
use Rattle.std.specs.Prelude.{ℕ, Bool, false, not, ◌||◌, ◌==◌, List, [], ◌∷◌, ◌++◌, map, filter, Option, Some, None}
use Rattle.std.specs.List.{range_with_len}
use Rattle.ec_base.specs.declared.token.Span.{Span}
use Rattle.ec_types.specs.Meaning.Tree.{Expr, Number, Nil, Var, Unary, Binary, And, Or, Load, Called, New, ValueOf, Part, Missing, Given, Place, Element, Behind, Field, Item, Invocation, Invoke, Exprs, Last, Arg, Placing, OnThis, OnOwner, OnHome, OnNode, OnAny, Assignment, SetVar, Store, Copy, Decl, Plain, Shared, Stmt, Skip, Block, Par, If, While, For, Forall, Set, Eval, WriteTo, AddTo, Print, Return, Else, NoElse, Otherwise, Stmts, End, Then}

-- an occurrence of a variable
pub record Use : Type 0 where
  pub var : ℕ
  pub at : Span

-- ---- expressions only read

abbrev mutual
  pub reads : Expr → List Use
  reads (Number at n) = []
  reads (Nil at) = []
  reads (Var at x) = record { var = x; at = at } ∷ []
  reads (Unary at op a) = reads a
  reads (Binary at op a b) = reads a ++ reads b
  reads (And at a b) = reads a ++ reads b
  reads (Or at a b) = reads a ++ reads b
  reads (Load pointer p) = place_reads p
  reads (Called i) = call_reads i
  reads (New at shape element count) = part_reads count
  reads (ValueOf at a) = reads a

  pub part_reads : Part → List Use
  part_reads Missing = []
  part_reads (Given a) = reads a

  pub place_reads : Place → List Use
  place_reads (Element at size base index) = reads base ++ part_reads index
  place_reads (Behind at size f base) = reads base
  place_reads (Field at f p) = place_reads p
  place_reads (Item at p index) = place_reads p ++ reads index

  pub call_reads : Invocation → List Use
  call_reads (Invoke at f es p) = list_reads es ++ placing_reads p

  pub list_reads : Exprs → List Use
  list_reads Last = []
  list_reads (Arg a es) = reads a ++ list_reads es

  pub placing_reads : Placing → List Use
  placing_reads OnThis = []
  placing_reads (OnOwner a) = reads a
  placing_reads OnHome = []
  placing_reads (OnNode a) = reads a
  placing_reads OnAny = []

-- ---- assignments and declarations

abbrev pub assignment_reads : Assignment → List Use
assignment_reads (SetVar at x a) = reads a
assignment_reads (Store p a) = place_reads p ++ reads a
assignment_reads (Copy p q) = place_reads p ++ place_reads q

abbrev pub assignment_writes : Assignment → List Use
assignment_writes (SetVar at x a) = record { var = x; at = at } ∷ []
assignment_writes (Store p a) = []
assignment_writes (Copy p q) = []

abbrev pub of_all : {A : Type 0} → (A → List Use) → List A → List Use
of_all f [] = []
of_all f (x ∷ xs) = f x ++ of_all f xs

abbrev pub of_some : {A : Type 0} → (A → List Use) → Option A → List Use
of_some f None = []
of_some f (Some x) = f x

abbrev pub decl_reads : Decl → List Use
decl_reads (Plain x v init) = part_reads init
decl_reads (Shared x) = []

abbrev pub declared : Decl → ℕ
declared (Plain x v init) = x
declared (Shared x) = x

-- ---- statements

abbrev mutual
  pub stmt_reads : Stmt → List Use
  stmt_reads Skip = []
  stmt_reads (Block ds ss) = of_all decl_reads ds ++ stmts_reads ss
  stmt_reads (Par at ss) = stmts_reads ss
  stmt_reads (If a s z) = reads a ++ (stmt_reads s ++ else_reads z)
  stmt_reads (While a s) = reads a ++ stmt_reads s
  stmt_reads (For at a e b s) =
      of_some assignment_reads a ++ (part_reads e ++ (of_some assignment_reads b ++ stmt_reads s))
  stmt_reads (Forall at a e b s) = assignment_reads a ++ (reads e ++ (assignment_reads b ++ stmt_reads s))
  stmt_reads (Set a) = assignment_reads a
  stmt_reads (Eval i) = call_reads i
  stmt_reads (WriteTo at p a) = reads p ++ reads a
  stmt_reads (AddTo at p a) = reads p ++ reads a
  stmt_reads (Print string es) = list_reads es
  stmt_reads (Return e) = part_reads e

  pub else_reads : Else → List Use
  else_reads NoElse = []
  else_reads (Otherwise s) = stmt_reads s

  pub stmts_reads : Stmts → List Use
  stmts_reads End = []
  stmts_reads (Then s ss) = stmt_reads s ++ stmts_reads ss

abbrev mutual
  pub stmt_writes : Stmt → List Use
  stmt_writes Skip = []
  stmt_writes (Block ds ss) = stmts_writes ss
  stmt_writes (Par at ss) = stmts_writes ss
  stmt_writes (If a s z) = stmt_writes s ++ else_writes z
  stmt_writes (While a s) = stmt_writes s
  stmt_writes (For at a e b s) = of_some assignment_writes a ++ (of_some assignment_writes b ++ stmt_writes s)
  stmt_writes (Forall at a e b s) = assignment_writes a ++ (assignment_writes b ++ stmt_writes s)
  stmt_writes (Set a) = assignment_writes a
  stmt_writes (Eval i) = []
  stmt_writes (WriteTo at p a) = []
  stmt_writes (AddTo at p a) = []
  stmt_writes (Print string es) = []
  stmt_writes (Return e) = []

  pub else_writes : Else → List Use
  else_writes NoElse = []
  else_writes (Otherwise s) = stmt_writes s

  pub stmts_writes : Stmts → List Use
  stmts_writes End = []
  stmts_writes (Then s ss) = stmt_writes s ++ stmts_writes ss

-- the variables that a statement declares at any depth, in source order
abbrev mutual
  pub declares : Stmt → List ℕ
  declares (Block ds ss) = map declared ds ++ all_declare ss
  declares (Par at ss) = all_declare ss
  declares (If a s z) = declares s ++ else_declares z
  declares (While a s) = declares s
  declares (For at a e b s) = declares s
  declares (Forall at a e b s) = declares s
  declares s = []

  pub else_declares : Else → List ℕ
  else_declares NoElse = []
  else_declares (Otherwise s) = declares s

  pub all_declare : Stmts → List ℕ
  all_declare End = []
  all_declare (Then s ss) = declares s ++ all_declare ss

-- ---- a part, as seen by the function in which it stands

abbrev pub member : ℕ → List ℕ → Bool
member x [] = false
member x (y ∷ ys) = (y == x) || member x ys

-- those that the part doesn't declare itself
abbrev pub outside : List ℕ → List Use → List Use
outside own uses = filter (λ u. not (member u.var own)) uses

-- the numbers below n that are used, each once
abbrev pub numbers_below : ℕ → List Use → List ℕ
numbers_below n uses = filter (λ x. member x (map (λ u. u.var) uses)) (range_with_len 0 n)
