-- What every tree of a small program keeps: its variables are declared, its strings ask for the values that they get, and
-- no expression has more than 256 operators.
use Rattle.std.specs.Prelude.{◌≡◌, ◌≤◌, ℕ, ◌+◌, ◌==◌, Bool, true, false, ◌&&◌, nat_lt, nat_le, length, Option, Some, None}
use Rattle.std.specs.List.{list_all}
use Rattle.ec_base.specs.Format.{conversions}
use Rattle.ec_small.specs.declared.tree.Expr.{Expr, fold-Expr}
use Rattle.ec_small.specs.declared.tree.Expr.TheOpen.{Expr-F}
use Rattle.ec_small.specs.declared.tree.Stmt.{Stmt}
use Rattle.ec_small.specs.declared.tree.Stmt.TheVariants.{Set, Print}
use Rattle.ec_small.specs.declared.tree.Program.{Program}

abbrev pub declared_in : ℕ → Expr-F Bool → Bool
declared_in count (Expr-F.Number n) = true
declared_in count (Expr-F.Var k) = nat_lt k count
declared_in count (Expr-F.Binary op a b) = a && b

-- all variables of an expression are among so many
abbrev pub is_declared : ℕ → Expr → Bool
is_declared count e = fold-Expr Bool (declared_in count) e

abbrev pub operators_in : Expr-F ℕ → ℕ
operators_in (Expr-F.Number n) = 0
operators_in (Expr-F.Var k) = 0
operators_in (Expr-F.Binary op a b) = 1 + a + b

-- the number of operators of an expression
abbrev pub operators : Expr → ℕ
operators e = fold-Expr ℕ operators_in e

abbrev pub is_sound : ℕ → Expr → Bool
is_sound count e = is_declared count e && nat_le (operators e) 256

abbrev pub is_sound_init : ℕ → Option Expr → Bool
is_sound_init count None = true
is_sound_init count (Some e) = is_sound count e

abbrev pub asks : Option ℕ → ℕ → Bool
asks None n = false
asks (Some m) n = m == n

abbrev pub is_sound_stmt : ℕ → Stmt → Bool
is_sound_stmt count (Set k e) = nat_lt k count && is_sound count e
is_sound_stmt count (Print s es) =
    nat_le (length s) 255 && asks (conversions s) (length es) && nat_le (length es) 8 && list_all (is_sound count) es

pub record Sound (p : Program) : Type 0 where
  pub few : length p.inits ≤ 256
  pub inits : list_all (is_sound_init (length p.inits)) p.inits ≡ true
  pub stmts : list_all (is_sound_stmt (length p.inits)) p.stmts ≡ true
  pub result : is_sound (length p.inits) p.result ≡ true
