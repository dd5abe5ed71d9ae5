-- What a small program means, from left to right: its output and its result, and the ticks that it spends.
use Rattle.std.specs.Prelude.{ℕ, ◌+◌, List, [], ◌∷◌, ◌++◌, map, length, replicate, sum, Option, Some, None, ℤ, pos, slice_get, slice_set}
use Rattle.std.specs.Int.{int_wrapping_add, int_wrapping_sub, int_wrapping_mul}
use mir.Syntax.{w64}
use Rattle.ec_base.specs.Format.{formatted}
use Rattle.ec_base.specs.declared.value.Value.{Value}
use Rattle.ec_small.specs.declared.tree.Operator.{Operator}
use Rattle.ec_small.specs.declared.tree.Operator.TheVariants as operator
use Rattle.ec_small.specs.declared.tree.Expr.{Expr, fold-Expr}
use Rattle.ec_small.specs.declared.tree.Expr.TheOpen.{Expr-F}
use Rattle.ec_small.specs.declared.tree.Stmt.{Stmt}
use Rattle.ec_small.specs.declared.tree.Stmt.TheVariants.{Set, Print}
use Rattle.ec_small.specs.declared.tree.Program.{Program}

-- ---- expressions

-- the operators, modulo 2^64
abbrev pub combined : Operator → ℤ → ℤ → ℤ
combined operator.Add a b = int_wrapping_add w64 a b
combined operator.Sub a b = int_wrapping_sub w64 a b
combined operator.Mul a b = int_wrapping_mul w64 a b

abbrev pub or_zero : Option ℤ → ℤ
or_zero None = pos 0
or_zero (Some v) = v

abbrev pub value_of : List ℤ → Expr-F ℤ → ℤ
value_of vars (Expr-F.Number n) = n
value_of vars (Expr-F.Var k) = or_zero (slice_get vars k)
value_of vars (Expr-F.Binary op a b) = combined op a b

-- what an expression gives, where the variables have these values
abbrev pub value : List ℤ → Expr → ℤ
value vars e = fold-Expr ℤ (value_of vars) e

abbrev pub nodes_of : Expr-F ℕ → ℕ
nodes_of (Expr-F.Number n) = 1
nodes_of (Expr-F.Var k) = 1
nodes_of (Expr-F.Binary op a b) = 1 + a + b

-- a tick for each node of an expression
abbrev pub nodes : Expr → ℕ
nodes e = fold-Expr ℕ nodes_of e

-- ---- statements

-- what has come about so far
pub record State : Type 0 where
  pub vars : List ℤ
  pub output : List ℕ
  pub ticks : ℕ

abbrev pub spent : ℕ → State → State
spent n s = record s { ticks = s.ticks + n }

-- a variable is set to the value of an expression
abbrev pub assigned : ℕ → Expr → State → State
assigned k e s = record s { vars = slice_set s.vars k (value s.vars e) }

-- a declaration spends the ticks of its initialiser alone
abbrev pub initialised : ℕ → Option Expr → State → State
initialised k None s = s
initialised k (Some e) s = spent (nodes e) (assigned k e s)

-- variables are 0, and each is initialised in its turn
abbrev pub declared_from : ℕ → List (Option Expr) → State → State
declared_from k [] s = s
declared_from k (x ∷ xs) s = declared_from (k + 1) xs (initialised k x s)

-- a statement spends a tick, and one for each node
abbrev pub done : Stmt → State → State
done (Set k e) s = spent (1 + nodes e) (assigned k e s)
done (Print string es) s =
    spent (1 + sum (map nodes es)) (record s { output = s.output ++ formatted string (map (value s.vars) es) })

abbrev pub all_done : List Stmt → State → State
all_done [] s = s
all_done (x ∷ xs) s = all_done xs (done x s)

-- ---- programs

-- how a meaning ends; a small program always comes to its end
pub data Ending : Type 0 where
  Ended : Ending

-- a store from birth paths to cells, in the order of the paths
abbrev pub Store : Type 0
Store = List (List ℕ × List Value)

pub record Meaning : Type 0 where
  pub ending : Ending
  pub output : List ℕ
  pub result : ℤ
  pub store : Store
  pub ticks : ℕ

-- the state after the last statement; main's activation spends a tick
abbrev pub last_state : Program → State
last_state p =
    all_done p.stmts (declared_from 0 p.inits (record { vars = replicate (length p.inits) (pos 0); output = []; ticks = 1 }))

abbrev pub meant : Expr → State → Meaning
meant e s = record { ending = Ended; output = s.output; result = value s.vars e; store = []; ticks = s.ticks + 1 + nodes e }

-- the meaning of a small program: `return` is its last statement, and no small program has a block
abbrev pub meaning : Program → Meaning
meaning p = meant p.result (last_state p)
