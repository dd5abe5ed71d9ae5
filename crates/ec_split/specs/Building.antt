-- What the fibers that stand so far come to, and which parts of a program have few operators.
use Rattle.std.specs.Prelude.{◌≡◌, List, [], ◌∷◌, ◌++◌, length, Bool, true, ◌&&◌, nat_le, Option, Some, None}
use Rattle.std.specs.List.{list_all}
use Rattle.ec_base.specs.declared.limits.TheConstants.{MAX_MARKS, MAX_PRINT_ARGUMENTS}
use Rattle.ec_core.specs.declared.code.Fiber.{Fiber}
use Rattle.ec_core.specs.declared.code.Instr.{Instr}
use Rattle.ec_small.specs.declared.tree.Expr.{Expr}
use Rattle.ec_small.specs.declared.tree.Stmt.{Stmt}
use Rattle.ec_small.specs.declared.tree.Stmt.TheVariants.{Set, Print}
use Rattle.ec_small.specs.Sound.{operators}
use Rattle.ec_split.specs.declared.builder.Builder.{Builder}
use Rattle.ec_split.specs.Cut.{fiber, fibers}

-- instructions more in the fiber under way
abbrev pub goes_on : Builder → List Instr → Builder
goes_on b is = record b { instrs = b.instrs ++ is }

-- the fiber under way is done
abbrev pub ended : Builder → Builder
ended b = record b { done = b.done ++ fiber b.instrs ∷ []; instrs = [] }

-- all fibers, where these statements and the result are still to come
abbrev pub to_come : Builder → List Stmt → Expr → List Fiber
to_come b ss r = b.done ++ fibers b.base (length b.done) b.instrs ss r

-- a statement is done: whatever follows it, the fibers are the same
pub record Continues (s : Stmt) (old new : Builder) : Type 0 where
  pub base : new.base ≡ old.base
  pub fibers : (ss : List Stmt) (r : Expr) → to_come new ss r ≡ to_come old (s ∷ ss) r

-- ---- what has few operators

abbrev pub is_small : Expr → Bool
is_small e = nat_le (operators e) MAX_MARKS

abbrev pub is_small_init : Option Expr → Bool
is_small_init None = true
is_small_init (Some e) = is_small e

-- a `printf` has few arguments too
abbrev pub is_small_stmt : Stmt → Bool
is_small_stmt (Set x e) = is_small e
is_small_stmt (Print s es) = nat_le (length es) MAX_PRINT_ARGUMENTS && list_all is_small es
