-- What every world keeps, whatever its code: what is named in it is there, and births make a forest of its frames, blocks and calls.
use Rattle.std.specs.Prelude.{◌≡◌, ◌<◌, ◌≤◌, ℕ, ◌==◌, ◌&&◌, Bool, true, false, List, [], ◌∷◌, ◌++◌, length, map, drop, flat_map, Option, Some, None, slice_get, is_some, is_none, ℤ}
use Rattle.std.specs.List.{All, count_by}
use Rattle.ec_base.specs.declared.value.Birth.{Birth}
use Rattle.ec_base.specs.declared.value.Block.{Block}
use Rattle.ec_base.specs.declared.value.Value.{Value}
use Rattle.ec_base.specs.declared.value.Value.TheVariants as v
use Rattle.ec_cells.specs.declared.node.Frame.{Frame}
use Rattle.ec_cells.specs.Frames.{lives}
use Rattle.ec_code.specs.declared.code.Code.{Code}
use Rattle.ec_code.specs.declared.message.Back.{Back}
use Rattle.ec_code.specs.declared.message.Entry.{Entry}
use Rattle.ec_code.specs.declared.message.Entry.TheVariants as e
use Rattle.ec_code.specs.declared.message.Message.{Message}
use Rattle.ec_code.specs.declared.message.Message.TheVariants as m
use Rattle.ec_eu.specs.declared.state.Activation.{Activation}
use Rattle.ec_eu.specs.Instructions.{activation_of}
use Rattle.ec_eu.specs.State.{Exec}
use Rattle.ec_world.specs.declared.choice.Choice.{Choice}
use Rattle.ec_world.specs.declared.node.Node.{Node}
use Rattle.ec_world.specs.Run.{start}
use Rattle.ec_world.specs.Step.{Machine, step}
use Rattle.ec_world_laws.specs.Worlds.{AllNumbered}

-- ---- what is made

-- how many frames and blocks each node has made, by its number
pub record Made : Type 0 where
  pub frames : ℕ → ℕ
  pub blocks : ℕ → ℕ

abbrev pub frames_of : Option Node → List Frame
frames_of None = []
frames_of (Some s) = s.eu.memory.frames

abbrev pub blocks_of : Option Node → List (List Value)
blocks_of None = []
blocks_of (Some s) = s.eu.memory.blocks

-- what the nodes of a world have made, live and dead
abbrev pub made_in : List Node → Made
made_in w =
    record { frames = λ node. length (frames_of (slice_get w node)); blocks = λ node. length (blocks_of (slice_get w node)) }

-- ---- what is named

-- a pointer names a block that its node has made
abbrev pub IsBlock : Made → Block → Type 0
IsBlock made b = b.number < made.blocks b.node

abbrev pub IsValue : Made → Value → Type 0
IsValue made (v.Int n) = Unit {0}
IsValue made v.Null = Unit {0}
IsValue made (v.Ptr b) = IsBlock made b

-- a frame that its node has made
abbrev pub IsFrame : Made → (node frame : ℕ) → Type 0
IsFrame made node frame = frame < made.frames node

abbrev pub IsBack : Made → Back → Type 0
IsBack made back = IsFrame made back.node back.frame

abbrev pub IsCaller : Made → Option Activation → Type 0
IsCaller made None = Unit {0}
IsCaller made (Some a) = IsFrame made a.caller.node a.caller.frame

-- an entry whose blocks, values and backs are there
abbrev pub IsEntry : Made → Entry → Type 0
IsEntry made (e.Start frame fiber slot filling) = Unit {0}
IsEntry made (e.Enter call) = All (IsValue made) call.args × IsFrame made call.node call.frame
IsEntry made (e.Load block index size off at back) = IsBlock made block × IsBack made back
IsEntry made (e.Store block index size off value at back) = IsBlock made block × IsValue made value × IsBack made back
IsEntry made (e.Add block value at back) = IsBlock made block × IsValue made value × IsBack made back
IsEntry made (e.CopyOut block index size to to_index at at_to back) = IsBlock made block × IsBlock made to × IsBack made back
IsEntry made (e.CopyIn block index cells at back) = IsBlock made block × All (IsValue made) cells × IsBack made back
IsEntry made (e.Fill frame slot cells values) = All (IsValue made) values
IsEntry made (e.Print bytes back) = IsBack made back

abbrev pub IsMessage : Made → Message → Type 0
IsMessage made (m.Init frame slot count reset fiber) = Unit {0}
IsMessage made (m.Incr frame slot) = Unit {0}
IsMessage made (m.Sync node frame slot) = Unit {0}
IsMessage made (m.Work node entry) = IsEntry made entry
IsMessage made (m.EndFrame frame) = Unit {0}

-- the cells of a frame hold values whose blocks are there
abbrev pub HasValues : Made → Frame → Type 0
HasValues made f = All (IsValue made) f.cells

-- ---- nodes

abbrev pub Begins : List (Option Birth) → Type 0
Begins [] = ⊥
Begins (birth ∷ births) = birth ≡ None

-- an execution unit whose frame 0 is there, without birth, and which has a birth for each frame and each block, and for each frame
-- what it was made for
pub record IsCounted (u : Exec) : Type 0 where
  pub first : Begins u.memory.births.frames
  pub frames : length u.memory.births.frames ≡ length u.memory.frames
  pub blocks : length u.memory.births.blocks ≡ length u.memory.blocks
  pub activations : length u.activations ≡ length u.memory.frames

-- an execution unit that holds and sends what names only what is there
pub record IsNaming (made : Made) (u : Exec) : Type 0 where
  pub cells : All (HasValues made) u.memory.frames
  pub blocks : All (λ cells. All (IsValue made) cells) u.memory.blocks
  pub callers : All (IsCaller made) u.activations
  pub outbox : All (IsMessage made) u.outbox

-- a node of this number, whose units and rings do so
pub record IsNamedNode (made : Made) (node : ℕ) (s : Node) : Type 0 where
  pub number : s.eu.memory.node ≡ node
  pub counts : IsCounted s.eu
  pub eu : IsNaming made s.eu
  pub su_ready : All (IsEntry made) s.su.ready
  pub peers : All (λ queue. All (IsMessage made) queue) s.su.peers
  pub ready : All (IsEntry made) s.ready
  pub events : All (IsMessage made) s.events
  pub net : All (λ queue. All (IsMessage made) queue) s.net

-- a world in which what is named is there
abbrev pub IsNamed : List Node → Type 0
IsNamed w = AllNumbered (IsNamedNode (made_in w)) w

-- ---- births

-- the entry that a message carries
abbrev pub carried : Message → List Entry
carried (m.Init frame slot count reset fiber) = []
carried (m.Incr frame slot) = []
carried (m.Sync node frame slot) = []
carried (m.Work node entry) = entry ∷ []
carried (m.EndFrame frame) = []

-- the messages and the entries that a node holds, wherever they stand
abbrev pub messages : Node → List Message
messages s = s.eu.outbox ++ s.events ++ flat_map (λ q. q) s.su.peers ++ flat_map (λ q. q) s.net

abbrev pub entries : Node → List Entry
entries s = s.ready ++ s.su.ready ++ flat_map carried (messages s)

abbrev pub births_of : Entry → List (Option Birth)
births_of (e.Start frame fiber slot filling) = []
births_of (e.Enter call) = call.birth ∷ []
births_of (e.Load block index size off at back) = []
births_of (e.Store block index size off value at back) = []
births_of (e.Add block value at back) = []
births_of (e.CopyOut block index size to to_index at at_to back) = []
births_of (e.CopyIn block index cells at back) = []
births_of (e.Fill frame slot cells values) = []
births_of (e.Print bytes back) = []

-- the births of a node's frames but the first, of its blocks, and of the calls on their way
abbrev pub births_at : Node → List (Option Birth)
births_at s =
    drop 1 s.eu.memory.births.frames ++ map Some s.eu.memory.births.blocks ++ flat_map births_of (entries s)

abbrev pub births_in : List Node → List (Option Birth)
births_in w = flat_map births_at w

-- the births of the frames that a node has made
abbrev pub frame_births : Option Node → List (Option Birth)
frame_births None = []
frame_births (Some s) = s.eu.memory.births.frames

-- the numbers that a live frame has taken are those from 1 up to the count
abbrev pub Takes : ℕ → Option Frame → Type 0
Takes number None = ⊥
Takes number (Some f) = (1 ≤ number) × (f.live ≡ true → number ≤ length f.taken)

-- a birth names a frame that its node has made, and a number that this frame has taken where it is live
abbrev pub IsBirth : List Node → Option Birth → Type 0
IsBirth w None = Unit {0}
IsBirth w (Some b) = Takes b.number (slice_get (frames_of (slice_get w b.node)) b.frame)

-- from a birth its frame's birth follows, and so on back to a frame without birth
pub data LeadsBack (w : List Node) : Option Birth → Type 0 where
  root : LeadsBack w None
  through : (b : Birth) (birth : Option Birth)
      → slice_get (frame_births (slice_get w b.node)) b.frame ≡ Some birth → LeadsBack w birth → LeadsBack w (Some b)

abbrev pub is_birth : Birth → Option Birth → Bool
is_birth b None = false
is_birth b (Some x) = (x.node == b.node) && (x.frame == b.frame) && (x.number == b.number)

-- each frame that was made for something, and has not ended, is live
abbrev pub IsActive : Exec → Type 0
IsActive u = (k : ℕ) → is_some (activation_of k u) ≡ true → lives k u.memory ≡ true

-- ---- all of it

-- what is named is there, and births make a forest
pub record IsRooted (w : List Node) : Type 0 where
  pub named : IsNamed w
  pub active : All (λ s. IsActive s.eu) w
  -- each birth is of a number that a frame has taken
  pub births : All (IsBirth w) (births_in w)
  -- no two frames, blocks or calls have the same birth
  pub apart : (b : Birth) → count_by (is_birth b) (births_in w) ≤ 1
  -- births lead back to a frame without birth
  pub lead_back : All (LeadsBack w) (births_in w)
  -- at most one frame or call, the first frames apart, has no birth
  pub root : count_by is_none (births_in w) ≤ 1

-- ---- laws

-- The start is such a world,
abbrev pub StartIsNamed : Type 0
StartIsNamed = (code : Code) (n : ℕ) (args : List ℤ) → IsNamed (start code n args).nodes

-- and a step of any code leads from such a world to one.
abbrev pub StepsStayNamed : Type 0
StepsStayNamed = (code : Code) (c : Choice) (w v : Machine) → IsNamed w.nodes → step code c w ≡ Some v → IsNamed v.nodes

-- The start is rooted,
abbrev pub StartIsRooted : Type 0
StartIsRooted = (code : Code) (n : ℕ) (args : List ℤ) → IsRooted (start code n args).nodes

-- and a step of any code leads from a rooted world to one.
abbrev pub StepsStayRooted : Type 0
StepsStayRooted = (code : Code) (c : Choice) (w v : Machine) → IsRooted w.nodes → step code c w ≡ Some v → IsRooted v.nodes
