-- The stages of a small program's one activity, what a node looks like at each, and what is still to come.
use Rattle.std.proofs.Common.{◌≡◌, ◌≤◌, ◌+◌, ℕ, true, false, List, [], ◌∷◌, ◌++◌, length, Option, Some, None, ℤ, pos}
use Rattle.std.specs.List.{list_all}
use Rattle.ec_base.specs.declared.value.Value.{Value}
use Rattle.ec_base.specs.declared.value.Value.TheVariants.{Int}
use Rattle.ec_core.specs.declared.code.Fiber.{Fiber}
use Rattle.ec_core.specs.declared.message.Back.{Back}
use Rattle.ec_core.specs.declared.message.Call.{Call}
use Rattle.ec_core.specs.declared.message.Entry.{Entry}
use Rattle.ec_core.specs.declared.message.Entry.TheVariants as e
use Rattle.ec_core.specs.declared.message.Message.{Message}
use Rattle.ec_core.specs.declared.message.Message.TheVariants as m
use Rattle.ec_core.specs.declared.eu.Frame.{Frame}
use Rattle.ec_core.specs.declared.slots.Slot.{Slot}
use Rattle.ec_core.specs.declared.node.Node.{Node}
use Rattle.ec_core.specs.Slots.{Row, root_slot, refilled}
use Rattle.ec_small.specs.declared.tree.Stmt.{Stmt}
use Rattle.ec_small.specs.declared.tree.Program.{Program}
use Rattle.ec_small.specs.Meaning.{State, value, all_done, last_state}
use Rattle.ec_small.specs.Sound.{is_sound_stmt}
use Rattle.ec_split.specs.Cut.{main_of, fibers as fibers_from, temporaries, widest, stmt_width}
use Rattle.ec_agree.proofs.Shapes.Seen.{Seen, Looks}
use Rattle.ec_agree.proofs.Shapes.Cells.{Shown, root_frame, main_frame, frames_with}

-- ---- where main stands

-- the next fiber, the statements that are left, what came about before them, and main's cells
pub record Point : Type 0 where
  pub fiber : ℕ
  pub stmts : List Stmt
  pub state : State
  pub cells : List Value

-- what a fiber of main ends with: it asks for bytes to be printed, or answers main's result
pub data Next : Type 0 where
  Asks : (bytes : List ℕ) → (point : Point) → Next
  Answers : (n : ℤ) → Next

abbrev pub main_back : Back
main_back = record { node = 0; frame = 1; cell = None; slot = 0 }

abbrev pub answer : ℤ → Entry
answer n = e.Fill 0 0 (0 ∷ []) (Int n ∷ [])

abbrev pub messages : Next → List Message
messages (Asks bytes point) = m.Init 1 0 1 1 point.fiber ∷ m.Work 0 (e.Print bytes main_back) ∷ []
messages (Answers n) = m.Work 0 (answer n) ∷ m.EndFrame 1 ∷ []

abbrev pub frames_at : Next → List Frame
frames_at (Asks bytes point) = frames_with true point.cells
frames_at (Answers n) = frames_with false []

-- ---- stages

-- main's call is on its way; a fiber has ended; its slot is set up; the bytes are on their way; they're printed; the next
-- fiber is on its way; the answer is on its way; main's slots are gone, or the answer is taken; both; the root's slot is filled
pub data Stage : Type 0 where
  Entering : Stage
  Halted : (main : Option Slot) → (out : List ℕ) → Next → Stage
  Sending : (filled : ℕ) → (bytes out : List ℕ) → Point → Stage
  Printing : (filled : ℕ) → (bytes out : List ℕ) → Point → Stage
  Told : (filled : ℕ) → Point → Stage
  Starting : (filled : ℕ) → Point → Stage
  Answering : (main : Option Slot) → (n : ℤ) → (out : List ℕ) → Stage
  Forgot : (others : List Row) → (n : ℤ) → (out : List ℕ) → Stage
  Answered : (main : Option Slot) → (n : ℤ) → (out : List ℕ) → Stage
  Closing : (others : List Row) → (n : ℤ) → (out : List ℕ) → Stage
  Over : (others : List Row) → (n : ℤ) → (out : List ℕ) → Stage

abbrev pub root_row : Row
root_row = Some root_slot ∷ []

-- main's slot, which each print sets up anew
abbrev pub main_slot : ℕ → ℕ → Slot
main_slot fiber filled = record { count = 1; reset = 1; fiber = Some fiber; fillings = filled }

abbrev pub rows : Option Slot → List Row
rows None = root_row ∷ []
rows (Some x) = root_row ∷ (Some x ∷ []) ∷ []

abbrev pub main_call : Call
main_call = record { function = 0; args = []; birth = None; node = 0; frame = 0; cells = 0 ∷ []; slot = 0 }

-- a node where main's frame lives, and its slot is set up
abbrev pub waiting : ℕ → List ℕ → Point → List Message → List Entry → Seen
waiting filled out point pipe ready = record {
  frames = frames_with true point.cells;
  output = out;
  slots = rows (Some (main_slot point.fiber filled));
  pipe = pipe;
  ready = ready;
}

-- a node where main has ended
abbrev pub ended : Value → List ℕ → List Row → List Message → List Entry → Seen
ended x out slots pipe ready = record {
  frames = root_frame x ∷ main_frame false [] ∷ [];
  output = out;
  slots = slots;
  pipe = pipe;
  ready = ready;
}

abbrev pub expected : Stage → Seen
expected Entering = record {
  frames = root_frame (Int (pos 0)) ∷ [];
  output = [];
  slots = root_row ∷ [];
  pipe = [];
  ready = e.Enter main_call ∷ [];
}
expected (Halted main out next) = record {
  frames = frames_at next;
  output = out;
  slots = rows main;
  pipe = messages next;
  ready = [];
}
expected (Sending f bytes out point) = waiting f out point (m.Work 0 (e.Print bytes main_back) ∷ []) []
expected (Printing f bytes out point) = waiting f out point [] (e.Print bytes main_back ∷ [])
expected (Told f point) = waiting f point.state.output point (m.Sync 0 1 0 ∷ []) []
expected (Starting f point) = waiting f point.state.output point [] (e.Start 1 point.fiber 0 f ∷ [])
expected (Answering main n out) = ended (Int (pos 0)) out (rows main) (m.EndFrame 1 ∷ []) (answer n ∷ [])
expected (Forgot others n out) = ended (Int (pos 0)) out (root_row ∷ others) [] (answer n ∷ [])
expected (Answered main n out) = ended (Int n) out (rows main) (m.EndFrame 1 ∷ m.Sync 0 0 0 ∷ []) []
expected (Closing others n out) = ended (Int n) out (root_row ∷ others) (m.Sync 0 0 0 ∷ []) []
expected (Over others n out) = ended (Int n) out ((Some (refilled root_slot) ∷ []) ∷ others) [] []

-- ---- what is still to come

-- main's cells hold what its variables have
pub record Shows (p : Program) (vars : List ℤ) (cells : List Value) : Type 0 where
  pub count : length vars ≡ length p.inits
  pub size : length cells ≡ length p.inits + temporaries p
  pub shown : Shown (length p.inits) vars cells

-- the statements that are left stand in the code from the next fiber on, and end as the program does
pub record Ahead (p : Program) (point : Point) : Type 0 where
  pub before : List Fiber
  pub passed : length before ≡ point.fiber
  pub fibers : (main_of p).fibers ≡ before ++ fibers_from (length p.inits) point.fiber [] point.stmts p.result
  pub last : all_done point.stmts point.state ≡ last_state p
  pub shows : Shows p point.state.vars point.cells
  pub sound : list_all (is_sound_stmt (length p.inits)) point.stmts ≡ true
  pub wide : widest stmt_width point.stmts ≤ temporaries p

-- bytes that are to be printed bring the output to what it's to be at a point
pub record Prints (p : Program) (bytes out : List ℕ) (point : Point) : Type 0 where
  pub ahead : Ahead p point
  pub output : out ++ bytes ≡ point.state.output

-- the whole output, and the result
pub record Right (p : Program) (n : ℤ) (out : List ℕ) : Type 0 where
  pub output : out ≡ (last_state p).output
  pub result : n ≡ value (last_state p).vars p.result

abbrev pub GoodNext : Program → List ℕ → Next → Type 0
GoodNext p out (Asks bytes point) = Prints p bytes out point
GoodNext p out (Answers n) = Right p n out

abbrev pub Good : Program → Stage → Type 0
Good p Entering = Unit {0}
Good p (Halted main out next) = GoodNext p out next
Good p (Sending f bytes out point) = Prints p bytes out point
Good p (Printing f bytes out point) = Prints p bytes out point
Good p (Told f point) = Ahead p point
Good p (Starting f point) = Ahead p point
Good p (Answering main n out) = Right p n out
Good p (Forgot others n out) = Right p n out
Good p (Answered main n out) = Right p n out
Good p (Closing others n out) = Right p n out
Good p (Over others n out) = Right p n out

-- a node at some stage
pub record Stands (p : Program) (s : Node) : Type 0 where
  pub stage : Stage
  pub good : Good p stage
  pub looks : Looks s (expected stage)
