-- The start is in place, and each step leaves a world so.
use Rattle.std.proofs.Common.{◌≡◌, ◌<◌, ◌≤◌, ◌+◌, ◌-◌, ◌∙◌, ℕ, zero, suc, Bool, true, false, cond, List, [], ◌∷◌, ◌++◌, length, length-set, map, replicate, refl, ap, Option, Some, None, slice_get, slice_set, subst, arith, ℤ, pos}
use Rattle.std.specs.List.{All}
use Rattle.std.proofs.lemmas.List.Elements.{All-nil, All-cons, All-append, All-map, All-replicate, All-take}
use Rattle.std.proofs.lemmas.Option.{same_Some}
use Rattle.ec_base.specs.declared.value.Value.{Value}
use Rattle.ec_base.specs.declared.value.Value.TheVariants as v
use Rattle.ec_code.specs.declared.code.Code.{Code}
use Rattle.ec_code.specs.declared.message.Entry.{Entry}
use Rattle.ec_code.specs.declared.message.Entry.TheVariants as e
use Rattle.ec_code.specs.declared.message.Message.{Message}
use Rattle.ec_code.specs.InPlace.{IsCall, IsEntry, IsValue}
use Rattle.ec_code.specs.Valid.{valid}
use Rattle.ec_queue.specs.Queues.{put_at, taken_at}
use Rattle.ec_world.specs.declared.choice.Choice.{Choice}
use Rattle.ec_world.specs.declared.node.Node.{Node}
use Rattle.ec_world_laws.specs.Worlds.{AllNumbered, IsFor, IsPlacedNode, IsPlacedWorld, StartIsPlaced, StepsStayPlaced}
use Rattle.ec_world.specs.Run.{fresh_node, fresh_nodes, main_args, main_call, param_count, start}
use Rattle.ec_world.specs.Step.{Machine, acts, acts_at, arrives_in, at_node, is_send, named, sends, sends_of, sends_on, step, with_nodes, with_peers}
use Rattle.ec_world_laws.proofs.Worlds.Nodes.{acts_placed, fresh_placed, got_placed, sent_placed}
use Rattle.ec_world_laws.proofs.Worlds.Numbered.{Took, numbered_set, tested, took_at}

module _ (n : ℕ) where
  abbrev ArePlaced : List Node → Type 0
  ArePlaced nodes = (length nodes ≡ n) × AllNumbered (IsPlacedNode n) nodes

  set_placed : (nodes : List Node) (k : ℕ) (s : Node) → ArePlaced nodes → IsPlacedNode n k s → ArePlaced (slice_set nodes k s)
  set_placed nodes k s p h = (length-set nodes k s ∙ p.0, numbered_set (IsPlacedNode n) nodes k s p.1 h)

  world_placed : (w : Machine) → ArePlaced w.nodes → IsPlacedWorld n w
  world_placed w p = record { count = p.0; nodes = p.1 }

  -- ---- one act

  at_placed : (me : ℕ) (o : Option Node) (w v : Machine) → ((s : Node) → o ≡ Some s → IsPlacedNode n me s) → ArePlaced w.nodes →
      at_node me o w ≡ Some v → ArePlaced v.nodes
  at_placed me None w v h p g = cc
  at_placed me (Some s) w v h p g =
      subst (λ (m : Machine). ArePlaced m.nodes) (same_Some _ v g) (set_placed w.nodes me s p (h s refl))

  acted_placed : (code : Code) (c : Choice) (o : Option Node) (w v : Machine) → valid code ≡ true → slice_get w.nodes c.node ≡ o →
      ArePlaced w.nodes → acts_at code c o w ≡ Some v → ArePlaced v.nodes
  acted_placed code c None w v ok a p g = cc
  acted_placed code c (Some s) w v ok a p g =
      at_placed c.node (acts code c.act c.peer c.pick s) w v
      (λ t h. acts_placed n c.node code c.act c.peer c.pick s t ok (p.1 c.node s a) h) p g

  -- ---- a message to a peer

  arrives_placed : (me : ℕ) (x : Message) (peer : ℕ) (o : Option Node) (nodes new : List Node) → slice_get nodes peer ≡ o →
      IsFor n peer x → ArePlaced nodes → arrives_in me x peer o nodes ≡ Some new → ArePlaced new
  arrives_placed me x peer None nodes new a h p g = cc
  arrives_placed me x peer (Some s) nodes new a h p g =
      subst ArePlaced (same_Some _ new g)
      (set_placed nodes peer (record s { net = put_at me x s.net }) p (got_placed n peer me x s h (p.1 peer s a)))

  sends_of_placed : (me peer : ℕ) (o : Option (Message × List (List Message))) (s : Node) (nodes new : List Node) →
      slice_get nodes me ≡ Some s → taken_at peer s.su.peers ≡ o → ArePlaced nodes → sends_of me peer o s nodes ≡ Some new →
      ArePlaced new
  sends_of_placed me peer None s nodes new a t p g = cc
  sends_of_placed me peer (Some (x, rest)) s nodes new a t p g =
      let here : IsPlacedNode n me s = p.1 me s a in
      let took : Took (IsFor n) peer x s.su.peers rest = took_at (IsFor n) peer x s.su.peers rest here.su.peers t in
      let left : Node = record s { su = with_peers rest s.su } in
      let sent : List Node = slice_set nodes me left in
      arrives_placed me x peer (slice_get sent peer) sent new refl took.item
      (set_placed nodes me left p (sent_placed n me peer x rest s took here)) g

  sends_placed : (me peer : ℕ) (o : Option Node) (nodes new : List Node) → slice_get nodes me ≡ o → ArePlaced nodes →
      sends me peer o nodes ≡ Some new → ArePlaced new
  sends_placed me peer None nodes new a p g = cc
  sends_placed me peer (Some s) nodes new a p g = sends_of_placed me peer (taken_at peer s.su.peers) s nodes new a refl p g

  with_nodes_placed : (o : Option (List Node)) (w v : Machine) → ((nodes : List Node) → o ≡ Some nodes → ArePlaced nodes) →
      with_nodes o w ≡ Some v → ArePlaced v.nodes
  with_nodes_placed None w v h g = cc
  with_nodes_placed (Some nodes) w v h g = subst (λ (m : Machine). ArePlaced m.nodes) (same_Some _ v g) (h nodes refl)

  -- ---- any choice

  kind_placed : (code : Code) (c : Choice) (b : Bool) (w v : Machine) → valid code ≡ true → ArePlaced w.nodes →
      cond b (sends_on c.node c.peer w) (acts_at code c (slice_get w.nodes c.node) w) ≡ Some v → ArePlaced v.nodes
  kind_placed code c true w v ok p g =
      with_nodes_placed (sends c.node c.peer (slice_get w.nodes c.node) w.nodes) w v
      (λ nodes h. sends_placed c.node c.peer (slice_get w.nodes c.node) w.nodes nodes refl p h) g
  kind_placed code c false w v ok p g = acted_placed code c (slice_get w.nodes c.node) w v ok refl p g

  pub step_placed : (code : Code) (c : Choice) (w v : Machine) → valid code ≡ true → IsPlacedWorld n w → step code c w ≡ Some v →
      IsPlacedWorld n v
  step_placed code c w v ok p g =
      world_placed v
      (kind_placed code c (is_send c.act) w v ok (p.count, p.nodes) (tested (named c w.nodes) _ v g))

  -- ---- the start

  args_placed : (count : ℕ) (args : List ℤ) → All (IsValue n) (main_args count args)
  args_placed count args =
      let zeros : List Value = replicate count (v.Int (pos 0)) in
      All-take (IsValue n) count (map v.Int args ++ zeros)
      (All-append (IsValue n) (map v.Int args) zeros (All-map (IsValue n) v.Int args (λ k d l. tt))
      (All-replicate (IsValue n) count (v.Int (pos 0)) tt))

  main_placed : (code : Code) (args : List ℤ) → 0 < n → IsCall n (main_call code args)
  main_placed code args h =
      record { node = h; birth = tt; args = args_placed (param_count (slice_get code.functions code.main)) args }

  fresh_long : (node count : ℕ) → length (fresh_nodes n node count) ≡ count
  fresh_long node zero = refl
  fresh_long node (suc count) = ap suc (fresh_long (suc node) count)

  fresh_all : (node count : ℕ) → node + count ≤ n → (k : ℕ) (s : Node) → slice_get (fresh_nodes n node count) k ≡ Some s →
      IsPlacedNode n (node + k) s
  fresh_all node zero l k s g = cc
  fresh_all node (suc count) l zero s g =
      let here : node < n = omega (arith, l) in
      let same : node + 0 ≡ node = omega arith in
      rw same (subst (IsPlacedNode n node) (same_Some _ s g) (fresh_placed n node [] here (All-nil (IsEntry n))))
  fresh_all node (suc count) l (suc k) s g =
      let same : node + suc k ≡ suc node + k = omega arith in
      rw same (fresh_all (suc node) count (omega (arith, l)) k s g)

  pub start_placed : (code : Code) (args : List ℤ) → 0 < n → IsPlacedWorld n (start code n args)
  start_placed code args h = record { count = ap suc (fresh_long 1 (n - 1)) ∙ omega (arith, h); nodes = nodes }
    where
      first : List Entry
      first = e.Enter (main_call code args) ∷ []

      nodes : AllNumbered (IsPlacedNode n) (fresh_node n 0 first ∷ fresh_nodes n 1 (n - 1))
      nodes zero s g =
          subst (IsPlacedNode n 0) (same_Some _ s g)
          (fresh_placed n 0 _ h (All-cons (IsEntry n) (e.Enter (main_call code args)) [] (main_placed code args h) (All-nil (IsEntry n))))
      nodes (suc k) s g =
          let same : 1 + k ≡ suc k = omega arith in
          subst (λ node. IsPlacedNode n node s) same (fresh_all 1 (n - 1) (omega (arith, h)) k s g)

pub steps_stay_placed : StepsStayPlaced
steps_stay_placed n code c w v ok p g = step_placed n code c w v ok p g

pub start_is_placed : StartIsPlaced
start_is_placed n code args h = start_placed n code args h
