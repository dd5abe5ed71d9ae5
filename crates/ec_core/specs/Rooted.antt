-- What every world keeps: what is named in it is there, and births make a forest of its frames and calls.
use Rattle.std.specs.Prelude.{◌≡◌, ◌<◌, ◌≤◌, ℕ, ◌==◌, ◌&&◌, Bool, true, false, List, [], ◌∷◌, ◌++◌, length, map, drop, flat_map, Option, Some, None, slice_get, is_none}
use Rattle.std.specs.List.{All, count_by}
use Rattle.ec_base.specs.declared.value.Birth.{Birth}
use Rattle.ec_base.specs.declared.value.Block.{Block}
use Rattle.ec_base.specs.declared.value.Value.{Value}
use Rattle.ec_base.specs.declared.value.Value.TheVariants as v
use Rattle.ec_core.specs.declared.message.Entry.{Entry}
use Rattle.ec_core.specs.declared.message.Entry.TheVariants as e
use Rattle.ec_core.specs.declared.message.Message.{Message}
use Rattle.ec_core.specs.declared.message.Message.TheVariants as m
use Rattle.ec_core.specs.declared.eu.Caller.{Caller}
use Rattle.ec_core.specs.declared.eu.Frame.{Frame}
use Rattle.ec_core.specs.declared.node.Node.{Node}

-- ---- what a node holds

-- the messages that a node holds, wherever they stand
abbrev pub messages : Node → List Message
messages s = s.eu.outbox ++ s.events ++ flat_map (λ q. q) s.su.peers ++ flat_map (λ q. q) s.net

-- the entry that a message carries
abbrev pub carried : Message → List Entry
carried (m.Init frame slot count reset fiber) = []
carried (m.Sync node frame slot) = []
carried (m.Work node entry) = entry ∷ []
carried (m.EndFrame frame) = []

-- the entries that a node holds, wherever they stand
abbrev pub entries : Node → List Entry
entries s = s.ready ++ s.su.ready ++ flat_map carried (messages s)

abbrev pub frames_of : Option Node → List Frame
frames_of None = []
frames_of (Some s) = s.eu.frames

-- the frames that a node has made, live and dead
abbrev pub frames_at : List Node → ℕ → List Frame
frames_at w node = frames_of (slice_get w node)

-- ---- births

abbrev pub births_of : Entry → List (Option Birth)
births_of (e.Start frame fiber slot filling) = []
births_of (e.Enter call) = call.birth ∷ []
births_of (e.Fill frame slot cells values) = []
births_of (e.Print bytes back) = []

-- the births of a node's frames but the first, and of the calls on their way
abbrev pub births_at : Node → List (Option Birth)
births_at s = drop 1 (map (λ f. f.birth) s.eu.frames) ++ flat_map births_of (entries s)

-- the births of a world's frames but the first of each node, and of its calls
abbrev pub births_in : List Node → List (Option Birth)
births_in w = flat_map births_at w

abbrev pub Begins : List Frame → Type 0
Begins [] = ⊥
Begins (f ∷ fs) = f.birth ≡ None

-- frame 0 is there and has no birth
abbrev pub HasFirst : Node → Type 0
HasFirst s = Begins s.eu.frames

-- the numbers that a frame has taken for births are those from 1 up to this one; no instruction takes one yet
abbrev pub taken_by : Frame → ℕ
taken_by f = 0

-- a frame that is live has taken the number
abbrev pub Takes : ℕ → Option Frame → Type 0
Takes number None = ⊥
Takes number (Some f) = (1 ≤ number) × (f.live ≡ true → number ≤ taken_by f)

-- a birth names a frame that its node has made, and a number that this frame has taken where it is live
abbrev pub IsBirth : List Node → Option Birth → Type 0
IsBirth w None = Unit {0}
IsBirth w (Some b) = Takes b.number (slice_get (frames_at w b.node) b.frame)

-- from a birth its frame's birth follows, and so on back to a frame without birth
pub data LeadsBack (w : List Node) : Option Birth → Type 0 where
  root : LeadsBack w None
  through : (b : Birth) (f : Frame)
      → slice_get (frames_at w b.node) b.frame ≡ Some f → LeadsBack w f.birth → LeadsBack w (Some b)

abbrev pub is_birth : Birth → Option Birth → Bool
is_birth b None = false
is_birth b (Some x) = (x.node == b.node) && (x.frame == b.frame) && (x.number == b.number)

-- ---- pointers

abbrev pub values_of : Entry → List Value
values_of (e.Start frame fiber slot filling) = []
values_of (e.Enter call) = call.args
values_of (e.Fill frame slot cells values) = values
values_of (e.Print bytes back) = []

abbrev pub values_at : Node → List Value
values_at s = flat_map (λ f. f.cells) s.eu.frames ++ flat_map values_of (entries s)

-- the values in cells, and those on their way
abbrev pub values_in : List Node → List Value
values_in w = flat_map values_at w

-- no instruction makes a block yet
abbrev pub IsBlock : List Node → Block → Type 0
IsBlock w b = ⊥

-- a pointer names a block that its node has
abbrev pub IsValue : List Node → Value → Type 0
IsValue w (v.Int n) = Unit {0}
IsValue w v.Null = Unit {0}
IsValue w (v.Ptr b) = IsBlock w b

-- ---- backs

-- a frame by its node and number
pub record Spot : Type 0 where
  pub node : ℕ
  pub frame : ℕ

abbrev pub backs_of : Entry → List Spot
backs_of (e.Start frame fiber slot filling) = []
backs_of (e.Enter call) = record { node = call.node; frame = call.frame } ∷ []
backs_of (e.Fill frame slot cells values) = []
backs_of (e.Print bytes back) = record { node = back.node; frame = back.frame } ∷ []

abbrev pub back_to : Option Caller → List Spot
back_to None = []
back_to (Some c) = record { node = c.node; frame = c.frame } ∷ []

abbrev pub backs_at : Node → List Spot
backs_at s = flat_map (λ f. back_to f.caller) s.eu.frames ++ flat_map backs_of (entries s)

-- the frames to which answers of frames, calls and prints go
abbrev pub backs_in : List Node → List Spot
backs_in w = flat_map backs_at w

-- a frame that its node has made
abbrev pub IsMade : List Node → Spot → Type 0
IsMade w x = x.frame < length (frames_at w x.node)

-- ---- all of it

-- what is named is there, and births make a forest
pub record IsRooted (w : List Node) : Type 0 where
  -- each node has its first frame, without birth
  pub first : All HasFirst w
  -- each birth is of a number that a frame has taken
  pub births : All (IsBirth w) (births_in w)
  -- no two frames or calls have the same birth
  pub apart : (b : Birth) → count_by (is_birth b) (births_in w) ≤ 1
  -- births lead back to a frame without birth
  pub lead_back : All (LeadsBack w) (births_in w)
  -- at most one frame or call, the first frames apart, has no birth
  pub root : count_by is_none (births_in w) ≤ 1
  -- each pointer names a block
  pub pointers : All (IsValue w) (values_in w)
  -- each back names a frame
  pub backs : All (IsMade w) (backs_in w)
