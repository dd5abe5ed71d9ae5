-- Fibers behind messages that wait.
use Rattle.std.proofs.Common.{◌≡◌, ℕ, suc, if◌then◌else◌, nat_lt, List, [], ◌∷◌, refl, ap, sym, ◌∙◌, append-nil, Option, Some, None, slice_get}
use Rattle.ec_cells.specs.Frames.{cell_count}
use Rattle.ec_code.specs.declared.code.Code.{Code}
use Rattle.ec_code.specs.declared.code.Fiber.{Fiber}
use Rattle.ec_code.specs.declared.code.Function.{Function}
use Rattle.ec_code.specs.declared.instr.Instr.{Instr}
use Rattle.ec_code.specs.declared.message.Message.{Message}
use Rattle.ec_eu.specs.declared.state.Next.TheVariants as next
use Rattle.ec_eu.specs.Alone.{FibersStandAlone, behind, silent}
use Rattle.ec_eu.specs.Fibers.{does, does_fiber, function_in, goes_on, kept, place_after, runs_fiber, runs_in, suits}
use Rattle.ec_eu.specs.Instructions.{Did, activation_of, one}
use Rattle.ec_eu.specs.State.{Exec}
use Rattle.ec_eu.proofs.Alone.Cells.{either_way}
use Rattle.ec_eu.proofs.Alone.Instructions.{moved, one_moved}

-- what a fiber does from an instruction on, which has done this
abbrev from : ℕ → ℕ → List Instr → Did → Exec
from n k xs d = if goes_on d.1 then does n (suc k) (place_after k d.1) xs d.0 else kept d

kept_behind : (ms : List Message) (d : Did) → kept (moved ms d) ≡ behind ms (kept d)
kept_behind ms (s, next.On) = refl
kept_behind ms (s, next.To target) = refl
kept_behind ms (s, next.Ends) = refl
kept_behind ms (s, next.Traps t) = refl

does_behind : (ms : List Message) (n k first : ℕ) (xs : List Instr) (s : Exec) →
    does n k first xs (behind ms s) ≡ behind ms (does n k first xs s)
does_behind ms n k first [] s = refl
does_behind ms n k first (x ∷ xs) s =
    let d : Did = one n x s in
    either_way (behind ms) (nat_lt k first) _ _ _ _
    (does_behind ms n (suc k) first xs s)
    (ap (λ u. from n k xs u) (one_moved ms n x s)
    ∙ either_way (behind ms) (goes_on d.1) _ _ _ _ (does_behind ms n (suc k) (place_after k d.1) xs d.0) (kept_behind ms d))

does_fiber_behind : (ms : List Message) (n : ℕ) (o : Option Fiber) (s : Exec) →
    does_fiber n o (behind ms s) ≡ behind ms (does_fiber n o s)
does_fiber_behind ms n None s = refl
does_fiber_behind ms n (Some fiber) s = does_behind ms n 0 0 fiber.instrs s

runs_in_behind : (ms : List Message) (n fiber : ℕ) (o : Option Function) (s : Exec) →
    runs_in n fiber o (behind ms s) ≡ behind ms (runs_in n fiber o s)
runs_in_behind ms n fiber None s = refl
runs_in_behind ms n fiber (Some f) s =
    either_way (behind ms) (suits f (cell_count n s.memory) (activation_of n s)) _ _ _ _
    (does_fiber_behind ms n (slice_get f.fibers fiber) s)
    refl

pub runs_fiber_behind : (ms : List Message) (code : Code) (n fiber : ℕ) (s : Exec) →
    runs_fiber code n fiber (behind ms s) ≡ behind ms (runs_fiber code n fiber s)
runs_fiber_behind ms code n fiber s = runs_in_behind ms n fiber (function_in code (activation_of n s)) s

-- ---- with an empty outbox

pub waits_behind : (s : Exec) → s ≡ behind s.outbox (silent s)
waits_behind s = ap {B = Exec} (λ waiting. record s { outbox = waiting }) (sym (append-nil s.outbox))

pub fibers_stand_alone : FibersStandAlone
fibers_stand_alone code n fiber s =
    ap (λ u. runs_fiber code n fiber u) (waits_behind s) ∙ runs_fiber_behind s.outbox code n fiber (silent s)
