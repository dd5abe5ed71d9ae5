-- What nodes hold and send is in place: every node that it names is one of the n, and what is for a node is held for it alone.
use Rattle.std.specs.Prelude.{◌≡◌, ◌<◌, ℕ, true, List, length, Some, slice_get, ℤ}
use Rattle.std.specs.List.{All}
use Rattle.ec_code.specs.declared.code.Code.{Code}
use Rattle.ec_code.specs.declared.message.Message.{Message}
use Rattle.ec_code.specs.declared.message.Message.TheVariants as m
use Rattle.ec_code.specs.InPlace.{IsEntry, IsMessage}
use Rattle.ec_code.specs.Valid.{valid}
use Rattle.ec_world_laws.specs.Units.{IsPlaced}
use Rattle.ec_su.specs.Handle.{SyncUnit}
use Rattle.ec_world.specs.declared.choice.Choice.{Choice}
use Rattle.ec_world.specs.declared.node.Node.{Node}
use Rattle.ec_world.specs.Run.{start}
use Rattle.ec_world.specs.Step.{Machine, step}

-- what holds of each item and its place
abbrev pub AllNumbered : {A : Type 0} → (ℕ → A → Type 0) → List A → Type 0
AllNumbered {A} P xs = (k : ℕ) (x : A) → slice_get xs k ≡ Some x → P k x

-- a message that names a node as the one that it is for
abbrev pub Names : ℕ → Message → Type 0
Names node (m.Init frame slot count reset fiber) = ⊥
Names node (m.Incr frame slot) = ⊥
Names node (m.Sync to frame slot) = to ≡ node
Names node (m.Work to entry) = to ≡ node
Names node (m.EndFrame frame) = ⊥

-- a message that may be on its way to this node of n
abbrev pub IsFor : (n node : ℕ) → Message → Type 0
IsFor n node x = IsMessage n x × Names node x

abbrev pub AreFor : (n node : ℕ) → List Message → Type 0
AreFor n node messages = All (IsFor n node) messages

-- the synchronisation unit of this node of n: it has messages for each of the n, which name that one
pub record IsPlacedUnit (n node : ℕ) (u : SyncUnit) : Type 0 where
  pub number : u.node ≡ node
  pub ready : All (IsEntry n) u.ready
  pub count : length u.peers ≡ n
  pub peers : AllNumbered (AreFor n) u.peers

-- this node of n: it has a ring from each of the n, whose messages name this node
pub record IsPlacedNode (n node : ℕ) (s : Node) : Type 0 where
  pub eu : IsPlaced n s.eu
  pub su : IsPlacedUnit n node s.su
  pub ready : All (IsEntry n) s.ready
  pub events : All (IsMessage n) s.events
  pub count : length s.net ≡ n
  pub net : All (AreFor n node) s.net

-- a world of n nodes
pub record IsPlacedWorld (n : ℕ) (w : Machine) : Type 0 where
  pub count : length w.nodes ≡ n
  pub nodes : AllNumbered (IsPlacedNode n) w.nodes

-- The start is such a world,
abbrev pub StartIsPlaced : Type 0
StartIsPlaced = (n : ℕ) (code : Code) (args : List ℤ) → 0 < n → IsPlacedWorld n (start code n args)

-- and a step of valid code leads from such a world to one.
abbrev pub StepsStayPlaced : Type 0
StepsStayPlaced = (n : ℕ) (code : Code) (c : Choice) (w v : Machine) → valid code ≡ true → IsPlacedWorld n w →
    step code c w ≡ Some v → IsPlacedWorld n v
