-- The two frames, what main's cells hold after a write, and which variables they show.
use Rattle.std.proofs.Common.{◌≡◌, ◌≢◌, ◌≤◌, ◌<◌, ℕ, zero, suc, Bool, true, List, [], ◌∷◌, ◌++◌, append_assoc, ◌∙◌, length, Some, None, ℤ, pos, refl, ap, slice_get, slice_set, replicate, arith}
use Rattle.ec_base.specs.declared.value.Value.{Value}
use Rattle.ec_base.specs.declared.value.Value.TheVariants.{Int}
use Rattle.ec_core.specs.declared.code.Instr.{Instr}
use Rattle.ec_core.specs.declared.eu.Frame.{Frame}
use Rattle.ec_core.specs.Fiber.{held_in, does}
use Rattle.ec_core.specs.State.{Exec}
use Rattle.ec_small.specs.Meaning.{or_zero}

-- ---- frames

abbrev pub root_frame : Value → Frame
root_frame x = record { function = None; live = true; birth = None; caller = None; cells = x ∷ [] }

abbrev pub main_frame : Bool → List Value → Frame
main_frame live cells = record {
  function = Some 0;
  live = live;
  birth = None;
  cells = cells;
  caller = Some (record { node = 0; frame = 0; cells = 0 ∷ []; slot = 0 });
}

-- both frames, while the root's cell is 0
abbrev pub frames_with : Bool → List Value → List Frame
frames_with live cells = root_frame (Int (pos 0)) ∷ main_frame live cells ∷ []

-- a unit in which main's frame has these cells
abbrev pub in_main : List Value → Exec → Exec
in_main cells u = record u { frames = frames_with true cells }

-- instructions of main bring its cells from before to after
abbrev pub Leads : List Instr → List Value → List Value → Type 0
Leads code before after =
    (rest : List Instr) (u : Exec) → does 0 1 (code ++ rest) (in_main before u) ≡ does 0 1 rest (in_main after u)

pub leads_on : (xs ys : List Instr) (a b c : List Value) → Leads xs a b → Leads ys b c → Leads (xs ++ ys) a c
leads_on xs ys a b c f g =
    λ rest u. ap (λ z. does 0 1 z (in_main a u)) (append_assoc xs ys rest) ∙ (f (ys ++ rest) u ∙ g rest u)

-- ---- writes

pub held_same : (cells : List Value) (d : ℕ) (x : Value) → d < length cells →
    held_in (slice_set cells d x) d ≡ x
held_same [] d x h = absurd (omega (arith, h))
held_same (y ∷ cells) zero x h = refl
held_same (y ∷ cells) (suc d) x h = held_same cells d x (omega (arith, h))

pub held_other : (cells : List Value) (d c : ℕ) (x : Value) → c ≢ d →
    held_in (slice_set cells d x) c ≡ held_in cells c
held_other [] d c x h = refl
held_other (y ∷ cells) zero zero x h = absurd (h refl)
held_other (y ∷ cells) zero (suc c) x h = refl
held_other (y ∷ cells) (suc d) zero x h = refl
held_other (y ∷ cells) (suc d) (suc c) x h = held_other cells d c x (λ e. h (ap suc e))

pub held_fresh : (count c : ℕ) → held_in (replicate count (Int (pos 0))) c ≡ Int (pos 0)
held_fresh zero c = refl
held_fresh (suc count) zero = refl
held_fresh (suc count) (suc c) = held_fresh count c

-- ---- variables

-- the first cells hold so many variables' values
abbrev pub Shown : ℕ → List ℤ → List Value → Type 0
Shown count vars cells = (k : ℕ) → k < count → held_in cells k ≡ Int (or_zero (slice_get vars k))

-- the cells below the base stay, but for cell d
abbrev pub KeepsBut : ℕ → ℕ → List Value → List Value → Type 0
KeepsBut d base before after = (c : ℕ) → c < base → c ≢ d → held_in after c ≡ held_in before c

-- the cells below the base stay
abbrev pub Keeps : ℕ → List Value → List Value → Type 0
Keeps base before after = (c : ℕ) → c < base → held_in after c ≡ held_in before c

pub keeps_all : (d base : ℕ) (before after : List Value) → base ≤ d → KeepsBut d base before after →
    Keeps base before after
keeps_all d base before after h k = λ c l. k c l (λ e. absurd (omega (arith, h, l, e)))

pub shown_kept : (count : ℕ) (vars : List ℤ) (base : ℕ) (before after : List Value) → count ≤ base →
    Keeps base before after → Shown count vars before → Shown count vars after
shown_kept count vars base before after h k shown = λ c l. k c (omega (arith, h, l)) ∙ shown c l

pub var_same : (vars : List ℤ) (d : ℕ) (n : ℤ) → d < length vars →
    or_zero (slice_get (slice_set vars d n) d) ≡ n
var_same [] d n h = absurd (omega (arith, h))
var_same (y ∷ vars) zero n h = refl
var_same (y ∷ vars) (suc d) n h = var_same vars d n (omega (arith, h))

pub var_other : (vars : List ℤ) (d k : ℕ) (n : ℤ) → k ≢ d →
    slice_get (slice_set vars d n) k ≡ slice_get vars k
var_other [] d k n h = refl
var_other (y ∷ vars) zero zero n h = absurd (h refl)
var_other (y ∷ vars) zero (suc k) n h = refl
var_other (y ∷ vars) (suc d) zero n h = refl
var_other (y ∷ vars) (suc d) (suc k) n h = var_other vars d k n (λ e. h (ap suc e))

pub var_fresh : (count k : ℕ) → or_zero (slice_get (replicate count (pos 0)) k) ≡ pos 0
var_fresh zero k = refl
var_fresh (suc count) zero = refl
var_fresh (suc count) (suc k) = var_fresh count k
