-- How a command may end, and what its report and the sinks show of it.
use Rattle.std.specs.Prelude.{◌≡◌, ◌⊎◌, ℕ, nat_lt, if◌then◌else◌, List, [], ◌∷◌, ◌++◌, Some, None, slice_get, pos}
use Rattle.ec_core.specs.declared.choice.Run.{Run}
use Rattle.ec_core.specs.declared.code.Code.{Code}
use Rattle.ec_core.specs.declared.node.Node.{Node}
use Rattle.ec_core.specs.Run.{filled_in, output, result}
use Rattle.ec_edge.specs.Fault.{Rose}
use Rattle.ec_edge.specs.Sink.{SeenSink, Takes}
use Rattle.ec_driver.specs.declared.status.Report.{Report}
use Rattle.ec_driver.specs.declared.status.Status.{Status}
use Rattle.ec_driver.specs.declared.status.Status.TheVariants.{Done, StepsSpent, WriteFault, NoMemory}
use Rattle.ec_driver.specs.Lines.{line_of}
use Rattle.ec_driver.specs.Status.{failed, kind_of}

-- a report, the pieces that are put to the output, and the line for the error stream
pub record Ending : Type 0 where
  pub report : Report
  pub pieces : List (List ℕ)
  pub line : List ℕ

-- ---- the endings that there are

-- an empty piece isn't put
abbrev pub pieces_of : List ℕ → List (List ℕ)
pieces_of [] = []
pieces_of (b ∷ bs) = (b ∷ bs) ∷ []

-- a report, one output and a line
abbrev pub ending : Report → List ℕ → List ℕ → Ending
ending report output line = record { report = report; pieces = pieces_of output; line = line }

-- a report of nothing but its status
abbrev pub bare : Status → Report
bare s = record { status = s; run = None; code = None }

-- before anything was done: nothing but the line of the status
abbrev pub stop : Status → Ending
stop s = ending (bare s) [] (line_of s (pos 0))

-- of a source that isn't run a text, and no line
abbrev pub shown : List ℕ → Ending
shown text = ending (bare Done) text []

-- a run has ended where its last world has, and elsewhere its steps are spent
abbrev pub last_status : List Node → Status
last_status w = if nat_lt 0 (filled_in (slice_get w 0)) then Done else StepsSpent

-- of a run of this code with this last world: both are kept
abbrev pub reported : Code → Run → List Node → Report
reported code r w = record { status = last_status w; run = Some r; code = Some code }

-- and its output and the line of its status are written
abbrev pub ran : Code → Run → List Node → Ending
ran code r w = ending (reported code r w) (output w) (line_of (last_status w) (result w))

-- ---- what is shown of an ending

-- the output and the error stream, before and after a call
pub record Sinks : Type 0 where
  pub out : SeenSink
  pub out_after : SeenSink
  pub err : SeenSink
  pub err_after : SeenSink

abbrev pub joined : List (List ℕ) → List ℕ
joined [] = []
joined (p ∷ ps) = p ++ joined ps

-- the status is the ending's, and all of it was written without a fault
pub record Delivers (e : Ending) (s : Status) (d : Sinks) : Type 0 where
  pub status : s ≡ e.report.status
  pub output : Takes (joined e.pieces) d.out d.out_after
  pub line : Takes e.line d.err d.err_after

-- its count of faults rose
abbrev pub HasFailed : SeenSink → SeenSink → Type 0
HasFailed old new = Rose old.faults new.faults

-- the report and the sinks are this ending's
pub record Reports (e : Ending) (x : Report) (d : Sinks) : Type 0 where
  -- it keeps the same run of the same code
  pub run : x.run ≡ e.report.run
  pub code : x.code ≡ e.report.code
  -- unless the call failed the ending is delivered
  pub delivers : (kind_of x.status ≡ failed → ⊥) → Delivers e x.status d
  -- where nothing is put to the output it is as it was, and where memory is wanted for an ending without a line
  pub silent : e.pieces ≡ [] → d.out_after ≡ d.out
  pub unput : x.status ≡ NoMemory → e.line ≡ [] → d.out_after ≡ d.out
  -- a fault of writing comes only where a count rose, that of the output only where something is put to it
  pub fault : x.status ≡ WriteFault → HasFailed d.err d.err_after ⊎ (HasFailed d.out d.out_after × (e.pieces ≡ [] → ⊥))

-- the same, of the output before and after, and of the error stream
abbrev pub IsShown : Ending → Report → SeenSink → SeenSink → SeenSink → SeenSink → Type 0
IsShown e x out out_after err err_after =
    Reports e x (record { out = out; out_after = out_after; err = err; err_after = err_after })
