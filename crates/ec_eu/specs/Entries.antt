-- What an entry does to the execution unit that takes it, and what a spawned fiber does.
use Rattle.std.specs.Prelude.{ℕ, ◌==◌, ◌&&◌, Bool, if◌then◌else◌, List, [], ◌∷◌, ◌++◌, length, Option, Some, None, slice_get}
use Rattle.ec_base.specs.declared.token.Span.{Span}
use Rattle.ec_base.specs.declared.trap.TrapKind.TheVariants as kind
use Rattle.ec_base.specs.declared.value.Block.{Block}
use Rattle.ec_base.specs.declared.value.Value.{Value}
use Rattle.ec_cells.specs.Accesses.{add, as_int, element, load, put_element, store}
use Rattle.ec_cells.specs.Frames.{lives, with_frame}
use Rattle.ec_cells.specs.Memory.{Memory}
use Rattle.ec_code.specs.declared.code.Code.{Code}
use Rattle.ec_code.specs.declared.code.Function.{Function}
use Rattle.ec_code.specs.declared.message.Back.{Back}
use Rattle.ec_code.specs.declared.message.Call.{Call}
use Rattle.ec_code.specs.declared.message.Entry.{Entry}
use Rattle.ec_code.specs.declared.message.Entry.TheVariants as e
use Rattle.ec_code.specs.declared.message.Message.TheVariants as m
use Rattle.ec_eu.specs.declared.state.Activation.{Activation}
use Rattle.ec_eu.specs.declared.state.Spawned.{Spawned}
use Rattle.ec_eu.specs.Cells.{put_all, put_from}
use Rattle.ec_eu.specs.Fibers.{runs_fiber}
use Rattle.ec_eu.specs.State.{Exec, says, traps, with_memory}

-- ---- calls

abbrev pub activation_for : Call → Activation
activation_for c =
    record { function = c.function; caller = record { node = c.node; frame = c.frame; cells = c.cells; slot = c.slot } }

-- a frame more, for the call: its first cells are the arguments, and the others 0
abbrev pub makes_frame : Function → Call → Exec → Exec
makes_frame f c s =
    put_from (length s.memory.frames) 0 c.args (record s {
      memory = with_frame f.cells c.birth s.memory;
      activations = s.activations ++ Some (activation_for c) ∷ [];
    })

-- the call has as many arguments as the function takes, and as many cells as it has results
abbrev pub takes : Function → Call → Bool
takes f c = (length c.args == f.params) && (length c.cells == f.results)

-- a frame more, and its first fiber
abbrev pub entered : Code → Call → Option Function → Exec → Exec
entered code c None s = s
entered code c (Some f) s =
    if takes f c then runs_fiber code (length s.memory.frames) 0 (makes_frame f c s) else s

-- ---- answers of memory

-- the sync to which an answer comes down
abbrev pub says_done : Back → Exec → Exec
says_done back s = says (m.Sync back.node back.frame back.slot) s

abbrev pub cells_of : Option ℕ → List ℕ
cells_of None = []
cells_of (Some c) = c ∷ []

abbrev pub traps_bounds : Span → Exec → Exec
traps_bounds at s = traps (record { kind = kind.Bounds; at = at }) s

abbrev pub answers_value : Option Value → Span → Back → Exec → Exec
answers_value None at back s = traps_bounds at s
answers_value (Some x) at back s =
    says (m.Work back.node (e.Fill back.frame back.slot (cells_of back.cell) (x ∷ []))) s

abbrev pub answers_change : Option Memory → Span → Back → Exec → Exec
answers_change None at back s = traps_bounds at s
answers_change (Some m) at back s = says_done back (with_memory m s)

abbrev pub copies_out : Option (List Value) → Block → Span → (List Value → Entry) → Exec → Exec
copies_out None to at entry s = traps_bounds at s
copies_out (Some cells) to at entry s = says (m.Work to.node (entry cells)) s

-- values for cells of a frame, then a sync of a slot; nothing happens to a frame that isn't live
abbrev pub fills : ℕ → ℕ → List ℕ → List Value → Exec → Exec
fills frame slot cells values s =
    if lives frame s.memory then says (m.Sync s.memory.node frame slot) (put_all frame cells values s) else s

-- ---- entries

abbrev pub entry : Code → Entry → Exec → Exec
entry code (e.Start frame fiber slot filling) s = runs_fiber code frame fiber s
entry code (e.Enter call) s = entered code call (slice_get code.functions call.function) s
entry code (e.Load block index size off at back) s =
    answers_value (load block.number index size off s.memory) at back s
entry code (e.Store block index size off value at back) s =
    answers_change (store block.number index size off value s.memory) at back s
entry code (e.Add block value at back) s = answers_change (add block.number (as_int value) s.memory) at back s
entry code (e.CopyOut block index size to to_index at at_to back) s =
    copies_out (element block.number index size s.memory) to at (λ cells. e.CopyIn to to_index cells at_to back) s
entry code (e.CopyIn block index cells at back) s =
    answers_change (put_element block.number index cells s.memory) at back s
entry code (e.Fill frame slot cells values) s = fills frame slot cells values s
entry code (e.Print bytes back) s = says_done back (record s { output = s.output ++ bytes })

-- ---- spawned fibers

abbrev pub spawned_in : Code → List Spawned → Exec → Option Exec
spawned_in code [] s = None
spawned_in code (x ∷ rest) s = Some (runs_fiber code x.frame x.fiber (record s { spawned = rest }))

-- the oldest spawned fiber runs, where one waits
abbrev pub spawned_step : Code → Exec → Option Exec
spawned_step code s = spawned_in code s.spawned s
