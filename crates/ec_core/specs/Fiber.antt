-- What one fiber run does.
use Rattle.std.specs.Prelude.{ℕ, Bool, true, false, ◌&&◌, ◌==◌, if◌then◌else◌, List, [], ◌∷◌, ◌++◌, length, map, Option, Some, None, ℤ, pos, slice_get, slice_set}
use Rattle.std.specs.Int.{int_wrapping_add, int_wrapping_sub, int_wrapping_mul}
use mir.Syntax.{w64}
use Rattle.ec_base.specs.declared.value.Value.{Value}
use Rattle.ec_base.specs.declared.value.Value.TheVariants as v
use Rattle.ec_base.specs.Format.{formatted}
use Rattle.ec_core.specs.declared.code.Instr.{Instr}
use Rattle.ec_core.specs.declared.code.Instr.TheVariants as i
use Rattle.ec_core.specs.declared.code.Fiber.{Fiber}
use Rattle.ec_core.specs.declared.code.Function.{Function}
use Rattle.ec_core.specs.declared.code.Code.{Code}
use Rattle.ec_core.specs.declared.message.Entry.TheVariants as e
use Rattle.ec_core.specs.declared.message.Message.{Message}
use Rattle.ec_core.specs.declared.message.Message.TheVariants as m
use Rattle.ec_core.specs.declared.eu.Frame.{Frame}
use Rattle.ec_core.specs.declared.eu.Caller.{Caller}
use Rattle.ec_core.specs.State.{Exec}

-- ---- cells

-- a value as a number: what is no number counts as 0
abbrev pub as_int : Value → ℤ
as_int (v.Int n) = n
as_int v.Null = pos 0
as_int (v.Ptr b) = pos 0

abbrev pub or_zero : Option Value → Value
or_zero None = v.Int (pos 0)
or_zero (Some x) = x

-- what a cell holds, 0 where there is no such cell
abbrev pub held_in : List Value → ℕ → Value
held_in cells c = or_zero (slice_get cells c)

abbrev pub cells_in : Option Frame → List Value
cells_in None = []
cells_in (Some f) = f.cells

-- what a cell of frame n holds
abbrev pub cell_at : ℕ → ℕ → Exec → Value
cell_at n c s = held_in (cells_in (slice_get s.frames n)) c

abbrev pub int_at : ℕ → ℕ → Exec → ℤ
int_at n c s = as_int (cell_at n c s)

abbrev pub put_in : Option Frame → ℕ → ℕ → Value → Exec → Exec
put_in None n c x s = s
put_in (Some f) n c x s = record s { frames = slice_set s.frames n (record f { cells = slice_set f.cells c x }) }

-- the unit with a cell of frame n set, where there is such a cell
abbrev pub put : ℕ → ℕ → Value → Exec → Exec
put n c x s = put_in (slice_get s.frames n) n c x s

-- cells set one after the other, as far as both lists go
abbrev pub put_all : ℕ → List ℕ → List Value → Exec → Exec
put_all n [] xs s = s
put_all n (c ∷ cs) [] s = s
put_all n (c ∷ cs) (x ∷ xs) s = put_all n cs xs (put n c x s)

-- what these cells of frame n hold
abbrev pub cells_at : ℕ → List ℕ → Exec → List Value
cells_at n cs s = map (λ c. cell_at n c s) cs

abbrev pub ints_at : ℕ → List ℕ → Exec → List ℤ
ints_at n cs s = map (λ c. int_at n c s) cs

-- ---- messages

-- a message more in the outbox
abbrev pub says : Message → Exec → Exec
says message s = record s { outbox = s.outbox ++ message ∷ [] }

-- bytes for the output go to node 0, and their sync comes back
abbrev pub says_print : ℕ → ℕ → List ℕ → ℕ → Exec → Exec
says_print me n bytes slot s =
    says (m.Work 0 (e.Print bytes (record { node = me; frame = n; cell = None; slot = slot }))) s

-- ---- the end of a frame

abbrev pub end_in : Option Frame → ℕ → Exec → Exec
end_in None n s = s
end_in (Some f) n s = record s { frames = slice_set s.frames n (record f { live = false; cells = [] }) }

-- the frame is dead
abbrev pub end_frame : ℕ → Exec → Exec
end_frame n s = end_in (slice_get s.frames n) n s

abbrev pub caller_in : Option Frame → Option Caller
caller_in None = None
caller_in (Some f) = f.caller

-- where a frame's results go
abbrev pub caller_of : ℕ → Exec → Option Caller
caller_of n s = caller_in (slice_get s.frames n)

-- the message that carries values to where a frame's results go
abbrev pub answer_of : Option Caller → List Value → Option Message
answer_of None xs = None
answer_of (Some c) xs = Some (m.Work c.node (e.Fill c.frame c.slot c.cells xs))

-- the answer goes out, and the frame ends; nothing happens to a frame without a caller
abbrev pub answers : Option Message → ℕ → Exec → Exec
answers None n s = s
answers (Some answer) n s = end_frame n (says (m.EndFrame n) (says answer s))

-- the frame answers with what these cells hold
abbrev pub ends_function : ℕ → List ℕ → Exec → Exec
ends_function n cells s = answers (answer_of (caller_of n s) (cells_at n cells s)) n s

-- ---- one instruction

-- what one instruction of frame n does on node me
abbrev pub one : ℕ → ℕ → Instr → Exec → Exec
one me n (i.Const d k) s = put n d (v.Int k) s
one me n (i.Copy d a) s = put n d (cell_at n a s) s
one me n (i.Add d a b) s = put n d (v.Int (int_wrapping_add w64 (int_at n a s) (int_at n b s))) s
one me n (i.Sub d a b) s = put n d (v.Int (int_wrapping_sub w64 (int_at n a s) (int_at n b s))) s
one me n (i.Mul d a b) s = put n d (v.Int (int_wrapping_mul w64 (int_at n a s) (int_at n b s))) s
one me n (i.InitSync slot count reset fiber) s = says (m.Init n slot count reset fiber) s
one me n (i.PrintSync string cells slot) s = says_print me n (formatted string (ints_at n cells s)) slot s
one me n (i.EndFunction cells) s = ends_function n cells s
one me n i.EndFiber s = s

-- whether an instruction ends its fiber
abbrev pub ends : Instr → Bool
ends (i.EndFunction cells) = true
ends i.EndFiber = true
ends (i.Const d k) = false
ends (i.Copy d a) = false
ends (i.Add d a b) = false
ends (i.Sub d a b) = false
ends (i.Mul d a b) = false
ends (i.InitSync slot count reset fiber) = false
ends (i.PrintSync string cells slot) = false

-- a fiber from an instruction on
abbrev pub does : ℕ → ℕ → List Instr → Exec → Exec
does me n [] s = s
does me n (x ∷ rest) s = if ends x then one me n x s else does me n rest (one me n x s)

-- ---- a fiber run

abbrev pub number_in : Option Frame → Option ℕ
number_in None = None
number_in (Some x) = x.function

abbrev pub function_of : Code → Option ℕ → Option Function
function_of code None = None
function_of code (Some f) = slice_get code.functions f

-- the function that a frame was made for
abbrev pub function_at : Code → ℕ → Exec → Option Function
function_at code n s = function_of code (number_in (slice_get s.frames n))

abbrev pub result_count : Option Caller → ℕ
result_count None = 0
result_count (Some c) = length c.cells

-- the frame is live, and has as many cells and results as the function
abbrev pub suits : Function → Option Frame → Bool
suits f None = false
suits f (Some x) = x.live && (length x.cells == f.cells) && (result_count x.caller == f.results)

abbrev pub does_fiber : ℕ → ℕ → Option Fiber → Exec → Exec
does_fiber me n None s = s
does_fiber me n (Some fiber) s = does me n fiber.instrs s

abbrev pub runs_in : ℕ → ℕ → ℕ → Option Function → Exec → Exec
runs_in me n fiber None s = s
runs_in me n fiber (Some f) s =
    if suits f (slice_get s.frames n) then does_fiber me n (slice_get f.fibers fiber) s else s

-- a fiber of a frame runs to its end, where the frame is live and its function stands in the code with that fiber, with
-- as many cells as the frame has, and as many results as its call
abbrev pub runs_fiber : Code → ℕ → ℕ → ℕ → Exec → Exec
runs_fiber code me n fiber s = runs_in me n fiber (function_at code n s) s
