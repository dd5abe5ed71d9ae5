-- Where the fibers of a small program stand in its code.
use Rattle.std.proofs.Common.{◌≡◌, ◌+◌, ℕ, List, [], ◌∷◌, ◌++◌, length, Some, refl, ap, ◌∙◌, subst, slice_get, append_assoc}
use Rattle.ec_core.specs.declared.code.Instr.{Instr}
use Rattle.ec_core.specs.declared.code.Instr.TheVariants as i
use Rattle.ec_core.specs.declared.code.Fiber.{Fiber}
use Rattle.ec_small.specs.declared.tree.Expr.{Expr}
use Rattle.ec_small.specs.declared.tree.Stmt.{Stmt}
use Rattle.ec_small.specs.declared.tree.Stmt.TheVariants.{Set, Print}
use Rattle.ec_small.specs.declared.tree.Program.{Program}
use Rattle.ec_split.specs.Cut.{main_of, fiber, fibers as fibers_from, instrs, print_instrs}

-- the rest of a fiber, up to its end
abbrev pub rest_of : ℕ → ℕ → List Stmt → Expr → List Instr
rest_of base k [] r = instrs base base r ++ i.EndFunction (base ∷ []) ∷ []
rest_of base k (Set x e ∷ ss) r = instrs x base e ++ rest_of base k ss r
rest_of base k (Print s es ∷ ss) r = print_instrs base k s es

-- the fibers behind it
abbrev behind : ℕ → ℕ → List Stmt → Expr → List Fiber
behind base k [] r = []
behind base k (Set x e ∷ ss) r = behind base k ss r
behind base k (Print s es ∷ ss) r = fibers_from base (k + 1) [] ss r

fibers_stand : (ss : List Stmt) (base k : ℕ) (begun : List Instr) (r : Expr) →
    fibers_from base k begun ss r ≡ fiber (begun ++ rest_of base k ss r) ∷ behind base k ss r
fibers_stand [] base k begun r =
    ap (λ z. fiber z ∷ []) (append_assoc begun (instrs base base r) (i.EndFunction (base ∷ []) ∷ []))
fibers_stand (Set x e ∷ ss) base k begun r =
    fibers_stand ss base k (begun ++ instrs x base e) r
    ∙ ap (λ z. fiber z ∷ behind base k ss r) (append_assoc begun (instrs x base e) (rest_of base k ss r))
fibers_stand (Print s es ∷ ss) base k begun r = refl

get_at : {A : Type 0} (xs ys : List A) (x : A) → slice_get (xs ++ x ∷ ys) (length xs) ≡ Some x
get_at [] ys x = refl
get_at (y ∷ xs) ys x = get_at xs ys x

-- fiber k of main, of which some instructions have been made for earlier statements
abbrev pub fiber_of : Program → ℕ → List Instr → List Stmt → Fiber
fiber_of p k begun ss = fiber (begun ++ rest_of (length p.inits) k ss p.result)

-- fiber k is the one that stands behind k others
pub fiber_at : (p : Program) (before : List Fiber) (k : ℕ) (begun : List Instr) (ss : List Stmt) →
    length before ≡ k →
    (main_of p).fibers ≡ before ++ fibers_from (length p.inits) k begun ss p.result →
    slice_get (main_of p).fibers k ≡ Some (fiber_of p k begun ss)
fiber_at p before k begun ss passed stand =
    let x = fiber_of p k begun ss in
    let others = behind (length p.inits) k ss p.result in
    let all = stand ∙ ap (λ z. before ++ z) (fibers_stand ss (length p.inits) k begun p.result) in
    ap (λ z. slice_get z k) all ∙ subst (λ z. slice_get (before ++ x ∷ others) z ≡ Some x) passed (get_at before others x)
