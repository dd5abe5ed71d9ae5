-- How a small program is cut into fibers: which cells its values go to, and where its fibers end. Variables have the
-- first cells; an expression's temporaries follow, the left operand's value below the right one's.
use Rattle.std.specs.Prelude.{ℕ, ◌+◌, List, [], ◌∷◌, ◌++◌, length, codes, Option, Some, None, max}
use Rattle.std.specs.List.{range_with_len}
use Rattle.ec_core.specs.declared.code.Instr.{Instr}
use Rattle.ec_core.specs.declared.code.Instr.TheVariants as i
use Rattle.ec_core.specs.declared.code.Fiber.{Fiber}
use Rattle.ec_core.specs.declared.code.Function.{Function}
use Rattle.ec_core.specs.declared.code.Code.{Code}
use Rattle.ec_small.specs.declared.tree.Expr.{Expr, fold-Expr}
use Rattle.ec_small.specs.declared.tree.Expr.TheOpen.{Expr-F}
use Rattle.ec_small.specs.declared.tree.Stmt.{Stmt}
use Rattle.ec_small.specs.declared.tree.Stmt.TheVariants.{Set, Print}
use Rattle.ec_small.specs.declared.tree.Program.{Program}
use Rattle.ec_split.specs.Owes.{operation}

-- ---- expressions

abbrev pub Places : Type 0
Places = ℕ → ℕ → List Instr

abbrev pub expr_instrs : Expr-F Places → Places
expr_instrs (Expr-F.Number n) d base = i.Const d n ∷ []
expr_instrs (Expr-F.Var k) d base = i.Copy d k ∷ []
expr_instrs (Expr-F.Binary op a b) d base =
    a base base ++ b (base + 1) (base + 1) ++ operation op d base (base + 1) ∷ []

-- the value of an expression goes to cell d; its temporaries are the cells from base on
abbrev pub instrs : ℕ → ℕ → Expr → List Instr
instrs d base e = fold-Expr Places expr_instrs e d base

abbrev pub expr_width : Expr-F ℕ → ℕ
expr_width (Expr-F.Number n) = 1
expr_width (Expr-F.Var k) = 1
expr_width (Expr-F.Binary op a b) = max a (b + 1)

-- how many cells an expression needs from its base on
abbrev pub width : Expr → ℕ
width e = fold-Expr ℕ expr_width e

-- the values of arguments go to the cells from base on
abbrev pub args_instrs : ℕ → List Expr → List Instr
args_instrs base [] = []
args_instrs base (e ∷ es) = instrs base base e ++ args_instrs (base + 1) es

abbrev pub args_width : List Expr → ℕ
args_width [] = 0
args_width (e ∷ es) = max (width e) (args_width es + 1)

-- ---- fibers

abbrev pub fiber : List Instr → Fiber
fiber is = record { instrs = is }

-- a `printf` at the end of fiber k
abbrev pub print_instrs : ℕ → ℕ → List ℕ → List Expr → List Instr
print_instrs base k s es =
    args_instrs base es
    ++ i.InitSync 0 1 1 (k + 1) ∷ i.PrintSync s (range_with_len base (length es)) 0 ∷ i.EndFiber ∷ []

-- the fibers from number k on, the first of which begins with instructions that stand already
abbrev pub fibers : ℕ → ℕ → List Instr → List Stmt → Expr → List Fiber
fibers base k done [] r = fiber (done ++ instrs base base r ++ i.EndFunction (base ∷ []) ∷ []) ∷ []
fibers base k done (Set x e ∷ ss) r = fibers base k (done ++ instrs x base e) ss r
fibers base k done (Print s es ∷ ss) r = fiber (done ++ print_instrs base k s es) ∷ fibers base (k + 1) [] ss r

abbrev pub init_instrs : ℕ → ℕ → List (Option Expr) → List Instr
init_instrs base x [] = []
init_instrs base x (None ∷ os) = init_instrs base (x + 1) os
init_instrs base x (Some e ∷ os) = instrs x base e ++ init_instrs base (x + 1) os

-- ---- the function

abbrev pub init_width : Option Expr → ℕ
init_width None = 0
init_width (Some e) = width e

abbrev pub stmt_width : Stmt → ℕ
stmt_width (Set x e) = width e
stmt_width (Print s es) = args_width es

abbrev pub widest : {A : Type 0} → (A → ℕ) → List A → ℕ
widest f [] = 0
widest f (x ∷ xs) = max (f x) (widest f xs)

-- how many temporaries a program needs
abbrev pub temporaries : Program → ℕ
temporaries p = max (widest init_width p.inits) (max (widest stmt_width p.stmts) (width p.result))

abbrev pub main_of : Program → Function
main_of p =
    let base = length p.inits in
    record {
      name = codes "main";
      params = 0;
      results = 1;
      cells = base + temporaries p;
      slots = 1;
      fibers = fibers base 0 (init_instrs base 0 p.inits) p.stmts p.result;
    }

-- the code of a small program
abbrev pub code_of : Program → Code
code_of p = record { main = 0; functions = main_of p ∷ [] }
