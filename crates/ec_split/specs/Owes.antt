-- Which instructions a small program is owed. The first cells, one a variable, are the variables'; n is how many there
-- are. The cells from n on are temporaries, and which of them a value goes to is left open.
use Rattle.std.specs.Prelude.{◌≡◌, ℕ, ℤ, ◌+◌, ◌==◌, ◌≤◌, Bool, false, List, [], ◌∷◌, ◌++◌, length, codes, Option, Some, None, map}
use Rattle.std.specs.List.{list_any}
use Rattle.ec_core.specs.declared.code.Instr.{Instr}
use Rattle.ec_core.specs.declared.code.Instr.TheVariants as i
use Rattle.ec_core.specs.declared.code.Function.{Function}
use Rattle.ec_core.specs.declared.code.Code.{Code}
use Rattle.ec_small.specs.declared.tree.Operator.{Operator}
use Rattle.ec_small.specs.declared.tree.Operator.TheVariants as operator
use Rattle.ec_small.specs.declared.tree.Expr.{Expr}
use Rattle.ec_small.specs.declared.tree.Expr.TheVariants.{Number, Var, Binary}
use Rattle.ec_small.specs.declared.tree.Stmt.{Stmt}
use Rattle.ec_small.specs.declared.tree.Stmt.TheVariants.{Set, Print}
use Rattle.ec_small.specs.declared.tree.Program.{Program}

-- the instruction of an operator
abbrev pub operation : Operator → ℕ → ℕ → ℕ → Instr
operation operator.Add d a b = i.Add d a b
operation operator.Sub d a b = i.Sub d a b
operation operator.Mul d a b = i.Mul d a b

-- whether an instruction sets this cell
abbrev pub sets : ℕ → Instr → Bool
sets x (i.Const d k) = d == x
sets x (i.Copy d a) = d == x
sets x (i.Add d a b) = d == x
sets x (i.Sub d a b) = d == x
sets x (i.Mul d a b) = d == x
sets x (i.InitSync slot count reset fiber) = false
sets x (i.PrintSync string cells slot) = false
sets x (i.EndFunction cells) = false
sets x i.EndFiber = false

-- none of these instructions sets the cell
abbrev pub Keeps : ℕ → List Instr → Type 0
Keeps x is = list_any (sets x) is ≡ false

-- an expression whose value goes to cell d: one CONST a number, one COPY a variable, one operation an operator, each
-- operand before it, in a cell of its own that stands until then. That cell is a temporary: since every operand's is,
-- no instruction sets a variable's cell, but for the last one where d is a variable's.
pub data Computes (n : ℕ) : Expr → ℕ → List Instr → Type 0 where
  number : {v : ℤ} {d : ℕ} → Computes n (Number v) d (i.Const d v ∷ [])
  variable : {k d : ℕ} → Computes n (Var k) d (i.Copy d k ∷ [])
  binary : {op : Operator} {a b : Expr} {d x y : ℕ} {is js : List Instr} → n ≤ x → n ≤ y →
      Computes n a x is → Computes n b y js → Keeps x js →
      Computes n (Binary op a b) d (is ++ js ++ operation op d x y ∷ [])

-- expressions whose values go to these cells, in order: temporaries, each of which stands until all have their values
pub data ComputesAll (n : ℕ) : List Expr → List ℕ → List Instr → Type 0 where
  none : ComputesAll n [] [] []
  more : {e : Expr} {es : List Expr} {d : ℕ} {ds : List ℕ} {is js : List Instr} → n ≤ d → Computes n e d is →
      ComputesAll n es ds js → Keeps d js → ComputesAll n (e ∷ es) (d ∷ ds) (is ++ js)

-- `Owed n ss r k fibers`: the fibers from number k on for these statements and the result behind them. An assignment's
-- value goes to its variable's cell, the result's to a temporary. A `printf` is one PRINT_SYNC with its own string, and
-- ends its fiber; the next fiber waits for it.
pub data Owed (n : ℕ) : List Stmt → Expr → ℕ → List (List Instr) → Type 0 where
  result : {e : Expr} {k d : ℕ} {is : List Instr} → n ≤ d → Computes n e d is →
      Owed n [] e k ((is ++ i.EndFunction (d ∷ []) ∷ []) ∷ [])
  set : {e r : Expr} {x k : ℕ} {ss : List Stmt} {is js : List Instr} {fs : List (List Instr)} → Computes n e x is →
      Owed n ss r k (js ∷ fs) → Owed n (Set x e ∷ ss) r k ((is ++ js) ∷ fs)
  print : (slot : ℕ) → {r : Expr} {s : List ℕ} {es : List Expr} {ds : List ℕ} {k : ℕ} {ss : List Stmt}
      {is : List Instr} {fs : List (List Instr)} →
      ComputesAll n es ds is → Owed n ss r (k + 1) fs →
      Owed n (Print s es ∷ ss) r k ((is ++ i.InitSync slot 1 1 (k + 1) ∷ i.PrintSync s ds slot ∷ i.EndFiber ∷ []) ∷ fs)

-- the initialisers of the variables from x on come first, in their order
pub data OwedFrom (n : ℕ) : ℕ → List (Option Expr) → List Stmt → Expr → List (List Instr) → Type 0 where
  none : {x : ℕ} {ss : List Stmt} {r : Expr} {fs : List (List Instr)} → Owed n ss r 0 fs → OwedFrom n x [] ss r fs
  plain : {x : ℕ} {os : List (Option Expr)} {ss : List Stmt} {r : Expr} {fs : List (List Instr)} →
      OwedFrom n (x + 1) os ss r fs → OwedFrom n x (None ∷ os) ss r fs
  initial : {x : ℕ} {e : Expr} {os : List (Option Expr)} {ss : List Stmt} {r : Expr} {is js : List Instr}
      {fs : List (List Instr)} →
      Computes n e x is → OwedFrom n (x + 1) os ss r (js ∷ fs) → OwedFrom n x (Some e ∷ os) ss r ((is ++ js) ∷ fs)

abbrev pub instrs_of : Function → List (List Instr)
instrs_of f = map (λ x. x.instrs) f.fibers

-- the code of a small program is one function `main` of no parameter and one result, which is owed the program's
-- initialisers, statements and result
pub record Owes (p : Program) (code : Code) : Type 0 where
  pub main : Function
  pub alone : code.functions ≡ main ∷ []
  pub first : code.main ≡ 0
  pub name : main.name ≡ codes "main"
  pub params : main.params ≡ 0
  pub results : main.results ≡ 1
  pub owed : OwedFrom (length p.inits) 0 p.inits p.stmts p.result (instrs_of main)
