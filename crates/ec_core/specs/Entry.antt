-- What an entry does to the execution unit that takes it.
use Rattle.std.specs.Prelude.{ℕ, Bool, true, false, ◌&&◌, ◌==◌, if◌then◌else◌, List, [], ◌∷◌, ◌++◌, length, Option, Some, None, pos, slice_get}
use Rattle.ec_base.specs.declared.value.Value.{Value}
use Rattle.ec_base.specs.declared.value.Value.TheVariants as v
use Rattle.ec_core.specs.declared.code.Function.{Function}
use Rattle.ec_core.specs.declared.code.Code.{Code}
use Rattle.ec_core.specs.declared.message.Call.{Call}
use Rattle.ec_core.specs.declared.message.Entry.{Entry}
use Rattle.ec_core.specs.declared.message.Entry.TheVariants as e
use Rattle.ec_core.specs.declared.message.Message.TheVariants as m
use Rattle.ec_core.specs.declared.eu.Frame.{Frame}
use Rattle.ec_core.specs.declared.eu.Spawned.{Spawned}
use Rattle.ec_core.specs.State.{Exec}
use Rattle.ec_core.specs.Queues.{grown}
use Rattle.ec_core.specs.Fiber.{says, put_all, runs_fiber}

-- ---- calls

-- the cells of a new frame: the arguments, then zeros
abbrev pub first_cells : ℕ → List Value → List Value
first_cells count args = grown count (v.Int (pos 0)) args

abbrev pub frame_for : Function → Call → Frame
frame_for f c = record {
  function = Some c.function;
  live = true;
  birth = c.birth;
  caller = Some (record { node = c.node; frame = c.frame; cells = c.cells; slot = c.slot });
  cells = first_cells f.cells c.args;
}

-- the call has as many arguments as the function takes, and as many cells as it has results
abbrev pub takes : Function → Call → Bool
takes f c = (length c.args == f.params) && (length c.cells == f.results)

-- a frame more, for the call
abbrev pub with_frame : Function → Call → Exec → Exec
with_frame f c s = record s { frames = s.frames ++ frame_for f c ∷ [] }

-- a frame more, and its first fiber
abbrev pub entered : Code → ℕ → Call → Option Function → Exec → Exec
entered code me c None s = s
entered code me c (Some f) s = if takes f c then runs_fiber code me (length s.frames) 0 (with_frame f c s) else s

-- the function that the call names is entered, where there is one
abbrev pub called : Code → ℕ → Call → Exec → Exec
called code me c s = entered code me c (slice_get code.functions c.function) s

-- ---- answers

abbrev pub is_live : Option Frame → Bool
is_live None = false
is_live (Some f) = f.live

-- the frame lives
abbrev pub lives : ℕ → Exec → Bool
lives n s = is_live (slice_get s.frames n)

-- ---- entries

abbrev pub entry : Code → ℕ → Entry → Exec → Exec
entry code me (e.Start frame fiber slot filling) s = runs_fiber code me frame fiber s
entry code me (e.Enter call) s = called code me call s
entry code me (e.Fill frame slot cells values) s =
    if lives frame s then says (m.Sync me frame slot) (put_all frame cells values s) else s
entry code me (e.Print bytes back) s =
    says (m.Sync back.node back.frame back.slot) (record s { output = s.output ++ bytes })

-- ---- spawned fibers

abbrev pub spawned_of : Code → ℕ → List Spawned → Exec → Option Exec
spawned_of code me [] s = None
spawned_of code me (x ∷ rest) s = Some (runs_fiber code me x.frame x.fiber (record s { spawned = rest }))

-- the oldest spawned fiber runs, where one waits
abbrev pub spawned_step : Code → ℕ → Exec → Option Exec
spawned_step code me s = spawned_of code me s.spawned s

-- ---- at the start

-- a new unit: frame 0, which no function has, with one cell
abbrev pub new_exec : Exec
new_exec = record {
  frames = record { function = None; live = true; birth = None; caller = None; cells = v.Int (pos 0) ∷ [] } ∷ [];
  spawned = [];
  outbox = [];
  output = [];
}
