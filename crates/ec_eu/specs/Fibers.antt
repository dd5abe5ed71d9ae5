-- What one fiber run does.
use Rattle.std.specs.Prelude.{◌≡◌, ℕ, suc, max, ◌==◌, ◌&&◌, Bool, true, false, if◌then◌else◌, nat_lt, List, [], ◌∷◌, length, Option, Some, None, slice_get}
use Rattle.ec_cells.specs.Frames.{cell_count}
use Rattle.ec_code.specs.declared.code.Code.{Code}
use Rattle.ec_code.specs.declared.code.Fiber.{Fiber}
use Rattle.ec_code.specs.declared.code.Function.{Function}
use Rattle.ec_code.specs.declared.instr.Instr.{Instr}
use Rattle.ec_eu.specs.declared.state.Activation.{Activation}
use Rattle.ec_eu.specs.declared.state.Next.{Next}
use Rattle.ec_eu.specs.declared.state.Next.TheVariants as next
use Rattle.ec_eu.specs.Instructions.{Did, activation_of, one}
use Rattle.ec_eu.specs.State.{Exec, traps}

-- ---- instructions one after the other

-- where a fiber goes on behind an instruction at this place: at the next one, or at a later one
abbrev pub place_after : ℕ → Next → ℕ
place_after k (next.To target) = max (suc k) target
place_after k next.On = suc k
place_after k next.Ends = suc k
place_after k (next.Traps t) = suc k

abbrev pub goes_on : Next → Bool
goes_on next.On = true
goes_on (next.To target) = true
goes_on next.Ends = false
goes_on (next.Traps t) = false

-- the unit with the trap, where there is one
abbrev pub kept : Did → Exec
kept (s, next.On) = s
kept (s, next.To target) = s
kept (s, next.Ends) = s
kept (s, next.Traps t) = traps t s

-- the instructions from place k of a fiber of frame n on, of which the first to run is at this place
abbrev pub does : ℕ → ℕ → ℕ → List Instr → Exec → Exec
does n k first [] s = s
does n k first (x ∷ xs) s =
    if nat_lt k first then does n (suc k) first xs s
    else (if goes_on (one n x s).1 then does n (suc k) (place_after k (one n x s).1) xs (one n x s).0 else kept (one n x s))

-- the place of the next instruction behind one at this place, or none where the fiber has ended
abbrev pub Stepped : Option ℕ → ℕ → Did → Exec → Type 0
Stepped None at did new = (goes_on did.1 ≡ false) × (new ≡ kept did)
Stepped (Some place) at did new = (goes_on did.1 ≡ true) × (place ≡ place_after at did.1) × (new ≡ did.0)

-- ---- fiber runs

abbrev pub function_in : Code → Option Activation → Option Function
function_in code None = None
function_in code (Some a) = slice_get code.functions a.function

-- the frame has as many cells as the function, and its call as many as that has results
abbrev pub suits : Function → ℕ → Option Activation → Bool
suits f cells None = false
suits f cells (Some a) = (cells == f.cells) && (length a.caller.cells == f.results)

abbrev pub does_fiber : ℕ → Option Fiber → Exec → Exec
does_fiber n None s = s
does_fiber n (Some fiber) s = does n 0 0 fiber.instrs s

abbrev pub runs_in : ℕ → ℕ → Option Function → Exec → Exec
runs_in n fiber None s = s
runs_in n fiber (Some f) s =
    if suits f (cell_count n s.memory) (activation_of n s) then does_fiber n (slice_get f.fibers fiber) s else s

-- A fiber of a frame runs to its end, where the frame is live and its function stands in the code with that fiber, with as many
-- cells as the frame has, and as many results as its call has cells.
abbrev pub runs_fiber : Code → ℕ → ℕ → Exec → Exec
runs_fiber code n fiber s = runs_in n fiber (function_in code (activation_of n s)) s
