-- The start names what is there, and each step leaves a world so.
use Rattle.std.proofs.Common.{◌≡◌, ◌<◌, ◌≤◌, ◌+◌, ◌-◌, ◌∙◌, ℕ, zero, suc, Bool, true, false, cond, List, [], ◌∷◌, ◌++◌, length, map, replicate, refl, ap, sym, Option, Some, None, slice_get, slice_set, subst, arith, ℤ, pos}
use Rattle.std.specs.List.{All}
use Rattle.std.proofs.lemmas.List.Elements.{All-nil, All-cons, All-append, All-map, All-replicate, All-take, All-weaker}
use Rattle.std.proofs.lemmas.Option.{same_Some}
use Rattle.ec_base.specs.declared.value.Value.{Value}
use Rattle.ec_base.specs.declared.value.Value.TheVariants as v
use Rattle.ec_code.specs.declared.code.Code.{Code}
use Rattle.ec_code.specs.declared.message.Entry.{Entry}
use Rattle.ec_code.specs.declared.message.Entry.TheVariants as e
use Rattle.ec_code.specs.declared.message.Message.{Message}
use Rattle.ec_code.specs.declared.message.Message.TheVariants as m
use Rattle.ec_eu.specs.declared.state.Activation.{Activation}
use Rattle.ec_queue.specs.Queues.{put_at, taken_at}
use Rattle.ec_world.specs.declared.choice.Choice.{Choice}
use Rattle.ec_world.specs.declared.node.Node.{Node}
use Rattle.ec_world.specs.Run.{fresh_node, fresh_nodes, main_args, main_call, param_count, start}
use Rattle.ec_world.specs.Step.{Machine, acts, acts_at, arrives_in, at_node, is_send, named, sends, sends_of, sends_on, with_nodes, with_peers}
use Rattle.ec_world_laws.specs.Rooted.{HasValues, IsCaller, IsEntry, IsMessage, IsNamed, IsNamedNode, IsValue, Made, StartIsNamed, StepsStayNamed, blocks_of, frames_of, made_in}
use Rattle.ec_world_laws.specs.Worlds.{AllNumbered}
use Rattle.ec_world_laws.proofs.Rooted.Nodes.{AreNamed, IsLater, Leads, acts_lead, fresh_named, got_named, sent_named}
use Rattle.ec_world_laws.proofs.Rooted.Runs.{Covers}
use Rattle.ec_world_laws.proofs.Worlds.Numbered.{numbered_set, tested}

-- ---- what is made later

-- no node has made more
pub record IsWithin (made more : Made) : Type 0 where
  pub frames : (k : ℕ) → made.frames k ≤ more.frames k
  pub blocks : (k : ℕ) → made.blocks k ≤ more.blocks k

module _ (made more : Made) (l : IsWithin made more) where
  in_frames : (node frame : ℕ) → frame < made.frames node → frame < more.frames node
  in_frames node frame h = let a = l.frames node in omega (arith, a, h)

  in_blocks : (node block : ℕ) → block < made.blocks node → block < more.blocks node
  in_blocks node block h = let a = l.blocks node in omega (arith, a, h)

  value_later : (x : Value) → IsValue made x → IsValue more x
  value_later (v.Int n) h = tt
  value_later v.Null h = tt
  value_later (v.Ptr b) h = in_blocks b.node b.number h

  values_later : (xs : List Value) → All (IsValue made) xs → All (IsValue more) xs
  values_later xs h = All-weaker (IsValue made) (IsValue more) value_later xs h

  entry_later : (x : Entry) → IsEntry made x → IsEntry more x
  entry_later (e.Start frame fiber slot filling) h = tt
  entry_later (e.Enter call) h = (values_later call.args h.0, in_frames call.node call.frame h.1)
  entry_later (e.Load block index size off at back) h =
      (in_blocks block.node block.number h.0, in_frames back.node back.frame h.1)
  entry_later (e.Store block index size off value at back) h =
      (in_blocks block.node block.number h.0, value_later value h.1, in_frames back.node back.frame h.2)
  entry_later (e.Add block value at back) h =
      (in_blocks block.node block.number h.0, value_later value h.1, in_frames back.node back.frame h.2)
  entry_later (e.CopyOut block index size to to_index at at_to back) h =
      (in_blocks block.node block.number h.0, in_blocks to.node to.number h.1, in_frames back.node back.frame h.2)
  entry_later (e.CopyIn block index cells at back) h =
      (in_blocks block.node block.number h.0, values_later cells h.1, in_frames back.node back.frame h.2)
  entry_later (e.Fill frame slot cells values) h = values_later values h
  entry_later (e.Print bytes back) h = in_frames back.node back.frame h

  pub message_later : (x : Message) → IsMessage made x → IsMessage more x
  message_later (m.Init frame slot count reset fiber) h = tt
  message_later (m.Incr frame slot) h = tt
  message_later (m.Sync node frame slot) h = tt
  message_later (m.Work node entry) h = entry_later entry h
  message_later (m.EndFrame frame) h = tt

  caller_later : (o : Option Activation) → IsCaller made o → IsCaller more o
  caller_later None h = tt
  caller_later (Some a) h = in_frames a.caller.node a.caller.frame h

  messages_later : (xs : List Message) → AreNamed made xs → AreNamed more xs
  messages_later xs h = All-weaker (IsMessage made) (IsMessage more) message_later xs h

  entries_later : (xs : List Entry) → All (IsEntry made) xs → All (IsEntry more) xs
  entries_later xs h = All-weaker (IsEntry made) (IsEntry more) entry_later xs h

  rings_later : (qs : List (List Message)) → All (AreNamed made) qs → All (AreNamed more) qs
  rings_later qs h = All-weaker (AreNamed made) (AreNamed more) messages_later qs h

  pub node_later : (node : ℕ) (s : Node) → IsNamedNode made node s → IsNamedNode more node s
  node_later node s p = record {
    number = p.number;
    counts = p.counts;
    eu = record {
      cells = All-weaker (HasValues made) (HasValues more) (λ f h. values_later f.cells h) s.eu.memory.frames p.eu.cells;
      blocks =
          All-weaker (λ cells. All (IsValue made) cells) (λ cells. All (IsValue more) cells) values_later s.eu.memory.blocks p.eu.blocks;
      callers = All-weaker (IsCaller made) (IsCaller more) caller_later s.eu.activations p.eu.callers;
      outbox = messages_later s.eu.outbox p.eu.outbox;
    };
    su_ready = entries_later s.su.ready p.su_ready;
    peers = rings_later s.su.peers p.peers;
    ready = entries_later s.ready p.ready;
    events = messages_later s.events p.events;
    net = rings_later s.net p.net;
  }

-- ---- a node that is set

-- a count of what a node has made
module _ (count : Option Node → ℕ) where
  count_set : (w : List Node) (i : ℕ) (s t : Node) → slice_get w i ≡ Some s → count (Some s) ≤ count (Some t) → (k : ℕ) →
      count (slice_get w k) ≤ count (slice_get (slice_set w i t) k)
  count_set [] i s t a h k = cc
  count_set (y ∷ w) zero s t a h zero = let b = ap count a in omega (arith, b, h)
  count_set (y ∷ w) zero s t a h (suc k) = omega arith
  count_set (y ∷ w) (suc i) s t a h zero = omega arith
  count_set (y ∷ w) (suc i) s t a h (suc k) = count_set w i s t a h k

set_there : (w : List Node) (i : ℕ) (s t : Node) → slice_get w i ≡ Some s → slice_get (slice_set w i t) i ≡ Some t
set_there [] i s t a = cc
set_there (y ∷ w) zero s t a = refl
set_there (y ∷ w) (suc i) s t a = set_there w i s t a

abbrev frame_count : Option Node → ℕ
frame_count o = length (frames_of o)

abbrev block_count : Option Node → ℕ
block_count o = length (blocks_of o)

set_within : (w : List Node) (i : ℕ) (s t : Node) → slice_get w i ≡ Some s → IsLater s.eu t.eu →
    IsWithin (made_in w) (made_in (slice_set w i t))
set_within w i s t a l =
    record { frames = count_set frame_count w i s t a l.frames; blocks = count_set block_count w i s t a l.blocks }

covered : (w : List Node) (i : ℕ) (s t : Node) → slice_get w i ≡ Some s → t.eu.memory.node ≡ i →
    Covers (made_in (slice_set w i t)) t.eu
covered w i s t a n =
    let there = set_there w i s t a in
    let frames = ap frame_count there in
    let blocks = ap block_count there in
    let more : Made = made_in (slice_set w i t) in
    record {
      frames = subst (λ k. length t.eu.memory.frames ≤ more.frames k) (sym n) (omega (arith, frames));
      blocks = subst (λ k. length t.eu.memory.blocks ≤ more.blocks k) (sym n) (omega (arith, blocks));
    }

set_named : (w : List Node) (i : ℕ) (s t : Node) → slice_get w i ≡ Some s → IsLater s.eu t.eu → IsNamed w →
    (Covers (made_in (slice_set w i t)) t.eu → IsNamedNode (made_in (slice_set w i t)) i s →
    IsNamedNode (made_in (slice_set w i t)) i t) →
    IsNamed (slice_set w i t)
set_named w i s t a l p h =
    let more : Made = made_in (slice_set w i t) in
    let all : AllNumbered (IsNamedNode more) w = λ k x g. node_later (made_in w) more (set_within w i s t a l) k x (p k x g) in
    let number : t.eu.memory.node ≡ i = l.node ∙ (p i s a).number in
    numbered_set (IsNamedNode more) w i t all (h (covered w i s t a number) (all i s a))

-- ---- one act

at_named : (me : ℕ) (s : Node) (o : Option Node) (w v : Machine) → slice_get w.nodes me ≡ Some s →
    ((t : Node) → o ≡ Some t → Leads me s t) → IsNamed w.nodes → at_node me o w ≡ Some v → IsNamed v.nodes
at_named me s None w v a h p g = cc
at_named me s (Some t) w v a h p g =
    let l : Leads me s t = h t refl in
    subst (λ (z : Machine). IsNamed z.nodes) (same_Some _ v g)
    (set_named w.nodes me s t a l.eu p (λ c q. l.named (made_in (slice_set w.nodes me t)) c q))

acted_named : (code : Code) (c : Choice) (o : Option Node) (w v : Machine) → slice_get w.nodes c.node ≡ o → IsNamed w.nodes →
    acts_at code c o w ≡ Some v → IsNamed v.nodes
acted_named code c None w v a p g = cc
acted_named code c (Some s) w v a p g =
    at_named c.node s (acts code c.act c.peer c.pick s) w v a
    (λ t h. acts_lead c.node code c.act c.peer c.pick s t (p c.node s a).counts h) p g

-- ---- a message to a peer

same_unit : (s t : Node) → t.eu ≡ s.eu → IsLater s.eu t.eu
same_unit s t a = rw a (record { node = refl; frames = omega arith; blocks = omega arith })

arrives_named : (me : ℕ) (x : Message) (peer : ℕ) (o : Option Node) (nodes new : List Node) → slice_get nodes peer ≡ o →
    IsMessage (made_in nodes) x → IsNamed nodes → arrives_in me x peer o nodes ≡ Some new → IsNamed new
arrives_named me x peer None nodes new a h p g = cc
arrives_named me x peer (Some s) nodes new a h p g =
    let t : Node = record s { net = put_at me x s.net } in
    let l : IsLater s.eu t.eu = same_unit s t refl in
    let more : Made = made_in (slice_set nodes peer t) in
    subst IsNamed (same_Some _ new g)
    (set_named nodes peer s t a l p
    (λ c q. got_named peer more me x s (message_later (made_in nodes) more (set_within nodes peer s t a l) x h) q))

sends_of_named : (me peer : ℕ) (o : Option (Message × List (List Message))) (s : Node) (nodes new : List Node) →
    slice_get nodes me ≡ Some s → taken_at peer s.su.peers ≡ o → IsNamed nodes → sends_of me peer o s nodes ≡ Some new → IsNamed new
sends_of_named me peer None s nodes new a t p g = cc
sends_of_named me peer (Some (x, rest)) s nodes new a t p g =
    let left : Node = record s { su = with_peers rest s.su } in
    let sent : List Node = slice_set nodes me left in
    let l : IsLater s.eu left.eu = same_unit s left refl in
    let is = (sent_named me (made_in nodes) peer x rest s t (p me s a)).0 in
    arrives_named me x peer (slice_get sent peer) sent new refl
    (message_later (made_in nodes) (made_in sent) (set_within nodes me s left a l) x is)
    (set_named nodes me s left a l p (λ c q. (sent_named me (made_in sent) peer x rest s t q).1)) g

sends_named : (me peer : ℕ) (o : Option Node) (nodes new : List Node) → slice_get nodes me ≡ o → IsNamed nodes →
    sends me peer o nodes ≡ Some new → IsNamed new
sends_named me peer None nodes new a p g = cc
sends_named me peer (Some s) nodes new a p g = sends_of_named me peer (taken_at peer s.su.peers) s nodes new a refl p g

with_nodes_named : (o : Option (List Node)) (w v : Machine) → ((nodes : List Node) → o ≡ Some nodes → IsNamed nodes) →
    with_nodes o w ≡ Some v → IsNamed v.nodes
with_nodes_named None w v h g = cc
with_nodes_named (Some nodes) w v h g = subst (λ (z : Machine). IsNamed z.nodes) (same_Some _ v g) (h nodes refl)

-- ---- any choice

kind_named : (code : Code) (c : Choice) (b : Bool) (w v : Machine) → IsNamed w.nodes →
    cond b (sends_on c.node c.peer w) (acts_at code c (slice_get w.nodes c.node) w) ≡ Some v → IsNamed v.nodes
kind_named code c true w v p g =
    with_nodes_named (sends c.node c.peer (slice_get w.nodes c.node) w.nodes) w v
    (λ nodes h. sends_named c.node c.peer (slice_get w.nodes c.node) w.nodes nodes refl p h) g
kind_named code c false w v p g = acted_named code c (slice_get w.nodes c.node) w v refl p g

pub steps_stay_named : StepsStayNamed
steps_stay_named code c w v p g = kind_named code c (is_send c.act) w v p (tested (named c w.nodes) _ v g)

-- ---- the start

args_named : (made : Made) (count : ℕ) (args : List ℤ) → All (IsValue made) (main_args count args)
args_named made count args =
    let zeros : List Value = replicate count (v.Int (pos 0)) in
    All-take (IsValue made) count (map v.Int args ++ zeros)
    (All-append (IsValue made) (map v.Int args) zeros (All-map (IsValue made) v.Int args (λ k d l. tt))
    (All-replicate (IsValue made) count (v.Int (pos 0)) tt))

fresh_all : (made : Made) (n node count k : ℕ) (s : Node) → slice_get (fresh_nodes n node count) k ≡ Some s →
    IsNamedNode made (node + k) s
fresh_all made n node zero k s g = cc
fresh_all made n node (suc count) zero s g =
    let same : node + 0 ≡ node = omega arith in
    rw same (subst (IsNamedNode made node) (same_Some _ s g) (fresh_named node made n [] (All-nil (IsEntry made))))
fresh_all made n node (suc count) (suc k) s g =
    let same : node + suc k ≡ suc node + k = omega arith in
    rw same (fresh_all made n (suc node) count k s g)

pub start_is_named : StartIsNamed
start_is_named code n args = nodes
  where
    made : Made
    made = made_in (start code n args).nodes

    first : List Entry
    first = e.Enter (main_call code args) ∷ []

    nodes : AllNumbered (IsNamedNode made) (fresh_node n 0 first ∷ fresh_nodes n 1 (n - 1))
    nodes zero s g =
        let args_are = args_named made (param_count (slice_get code.functions code.main)) args in
        subst (IsNamedNode made 0) (same_Some _ s g)
        (fresh_named 0 made n first (All-cons (IsEntry made) (e.Enter (main_call code args)) [] (args_are, omega arith) (All-nil (IsEntry made))))
    nodes (suc k) s g =
        let same : 1 + k ≡ suc k = omega arith in
        subst (λ node. IsNamedNode made node s) same (fresh_all made n 1 (n - 1) k s g)
