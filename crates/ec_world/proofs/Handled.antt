-- No unit handles more than one message in a step.
use Rattle.std.proofs.Common.{◌≡◌, ◌<◌, ◌≤◌, ◌+◌, ℕ, zero, suc, Bool, true, false, cond, List, [], ◌∷◌, length, get_or, refl, ap, sym, Option, Some, None, slice_get, slice_set, arith}
use Rattle.std.specs.Prelude.{is_none, nat_lt, ◌==◌}
use Rattle.std.proofs.lemmas.Option.{same_Some}
use Rattle.ec_code.specs.declared.code.Code.{Code}
use Rattle.ec_code.specs.declared.message.Entry.{Entry}
use Rattle.ec_code.specs.declared.message.Message.{Message}
use Rattle.ec_eu.specs.State.{Exec}
use Rattle.ec_eu.specs.Entries.{spawned_step}
use Rattle.ec_queue.specs.Queues.{taken, taken_at, put_at}
use Rattle.ec_slots.specs.declared.slot.Filled.{Filled}
use Rattle.ec_slots.specs.Slots.{filled_by, slot_of, synced}
use Rattle.ec_su.specs.Handle.{SyncUnit, Way, Stays, Syncs, Carries, candidates, way, goes, handle, is_root, syncs, starts, to_peer, readies, with_slots, settled_by}
use Rattle.ec_world.specs.declared.choice.Act.{Act}
use Rattle.ec_world.specs.declared.choice.Act.TheVariants.{EuReady, EuSpawn, EuEvent, EuHungry, SuEvent, SuNet, SuReady, SuSend}
use Rattle.ec_world.specs.declared.choice.Choice.{Choice}
use Rattle.ec_world.specs.declared.node.Node.{Node}
use Rattle.ec_world.specs.Step.{Machine, eu_ready, eu_spawn, eu_event, su_event, su_net, su_ready, acts, at_node, acts_at, with_nodes, with_peers, arrives_in, sends_of, sends, is_send, named, step}
use Rattle.ec_world.specs.Run.{handled}

-- ---- one message

start_same : (frame slot : ℕ) (o : Option Filled) (b : Bool) (s : SyncUnit) → b ≡ is_root s.node frame slot → (starts frame slot o s).handled ≡ s.handled
start_same frame slot None b s e = refl
start_same frame slot (Some f) true s e = rw (sym e) refl
start_same frame slot (Some f) false s e = rw (sym e) refl

syncs_same : (frame slot : ℕ) (s : SyncUnit) → (syncs frame slot s).handled ≡ s.handled
syncs_same frame slot s = start_same frame slot (filled_by (slot_of frame slot s.slots)) (is_root s.node frame slot) (with_slots (synced frame slot s.slots) s) refl

own_sync_same : (frame slot : ℕ) (node : ℕ) (message : Message) (b : Bool) (s : SyncUnit) → (cond b (syncs frame slot s) (to_peer node message s)).handled ≡ s.handled
own_sync_same frame slot node message true s = syncs_same frame slot s
own_sync_same frame slot node message false s = refl

own_work_same : (node : ℕ) (entry : Entry) (message : Message) (b : Bool) (s : SyncUnit) → (cond b (readies entry s) (to_peer node message s)).handled ≡ s.handled
own_work_same node entry message true s = refl
own_work_same node entry message false s = refl

goes_same : (y : Way) (message : Message) (s : SyncUnit) → (goes y message s).handled ≡ s.handled
goes_same Stays message s = refl
goes_same (Syncs node frame slot) message s = own_sync_same frame slot node message (node == s.node) s
goes_same (Carries node entry) message s = own_work_same node entry message (node == s.node) s

handle_more : (message : Message) (s : SyncUnit) → (handle message s).handled ≤ s.handled + 1
handle_more message s =
    let e = goes_same (way message) message (with_slots (settled_by message s.slots) s) in omega (arith, e)

-- ---- one act

ready_more : (code : Code) (o : Option (Entry × List Entry)) (s t : Node) → eu_ready code o s ≡ Some t → t.su.handled ≤ s.su.handled + 1
ready_more code None s t h = cc
ready_more code (Some (x, rest)) s t h = let e = ap (λ n. n.su.handled) (same_Some _ _ h) in omega (arith, e)

spawn_more : (o : Option Exec) (s t : Node) → eu_spawn o s ≡ Some t → t.su.handled ≤ s.su.handled + 1
spawn_more None s t h = cc
spawn_more (Some u) s t h = let e = ap (λ n. n.su.handled) (same_Some _ _ h) in omega (arith, e)

-- a test before an act
tested : (b : Bool) (o : Option Node) (s t : Node) → ((t : Node) → o ≡ Some t → t.su.handled ≤ s.su.handled + 1) → cond b o None ≡ Some t →
    t.su.handled ≤ s.su.handled + 1
tested true o s t f h = f t h
tested false o s t f h = cc

out_more : (o : Option (Message × List Message)) (s t : Node) → eu_event o s ≡ Some t → t.su.handled ≤ s.su.handled + 1
out_more None s t h = cc
out_more (Some (x, rest)) s t h = let e = ap (λ n. n.su.handled) (same_Some _ _ h) in omega (arith, e)

event_more : (pick : ℕ) (o : Option (Message × List Message)) (s t : Node) → su_event pick o s ≡ Some t → t.su.handled ≤ s.su.handled + 1
event_more pick None s t h = cc
event_more pick (Some (x, rest)) s t h =
    tested (nat_lt pick (candidates x s.su)) (Some (record s { events = rest; su = handle x s.su })) s t
    (λ v k. let e = ap (λ n. n.su.handled) (same_Some _ _ k) in omega (arith, e, handle_more x s.su)) h

net_more : (pick : ℕ) (o : Option (Message × List (List Message))) (s t : Node) → su_net pick o s ≡ Some t → t.su.handled ≤ s.su.handled + 1
net_more pick None s t h = cc
net_more pick (Some (x, rest)) s t h =
    tested (nat_lt pick (candidates x s.su)) (Some (record s { net = rest; su = handle x s.su })) s t
    (λ v k. let e = ap (λ n. n.su.handled) (same_Some _ _ k) in omega (arith, e, handle_more x s.su)) h

moved_more : (o : Option (Entry × List Entry)) (s t : Node) → su_ready o s ≡ Some t → t.su.handled ≤ s.su.handled + 1
moved_more None s t h = cc
moved_more (Some (x, rest)) s t h = let e = ap (λ n. n.su.handled) (same_Some _ _ h) in omega (arith, e)

act_more : (code : Code) (act : Act) (peer pick : ℕ) (s t : Node) → acts code act peer pick s ≡ Some t → t.su.handled ≤ s.su.handled + 1
act_more code EuReady peer pick s t h =
    tested (is_none s.eu.trap) (eu_ready code (taken s.ready) s) s t (λ v k. ready_more code (taken s.ready) s v k) h
act_more code EuSpawn peer pick s t h =
    tested (is_none s.eu.trap) (eu_spawn (spawned_step code s.eu) s) s t (λ v k. spawn_more (spawned_step code s.eu) s v k) h
act_more code EuEvent peer pick s t h = out_more (taken s.eu.outbox) s t h
act_more code EuHungry peer pick s t h = cc
act_more code SuEvent peer pick s t h = event_more pick (taken s.events) s t h
act_more code SuNet peer pick s t h = net_more pick (taken_at peer s.net) s t h
act_more code SuReady peer pick s t h = moved_more (taken s.su.ready) s t h
act_more code SuSend peer pick s t h = cc

-- ---- the world

pub handled_at : (w : List Node) (i : ℕ) (s : Node) → slice_get w i ≡ Some s → s.su.handled ≤ handled w
handled_at [] i s h = cc
handled_at (x ∷ w) zero s h = let e = ap (λ n. n.su.handled) (same_Some _ _ h) in omega (arith, e)
handled_at (x ∷ w) (suc i) s h = omega (arith, handled_at w i s h)

handled_set : (w : List Node) (i most : ℕ) (t : Node) → handled w ≤ most → t.su.handled ≤ most → handled (slice_set w i t) ≤ most
handled_set [] i most t h k = h
handled_set (x ∷ w) zero most t h k = omega arith
handled_set (x ∷ w) (suc i) most t h k = omega (arith, handled_set w i most t (omega arith) k)

at_more : (me : ℕ) (o : Option Node) (most : ℕ) (w v : Machine) → ((t : Node) → o ≡ Some t → t.su.handled ≤ most) → handled w.nodes ≤ most →
    at_node me o w ≡ Some v → handled v.nodes ≤ most
at_more me None most w v f k h = cc
at_more me (Some t) most w v f k h =
    let e = ap (λ m. handled m.nodes) (same_Some _ _ h) in omega (arith, e, handled_set w.nodes me most t k (f t refl))

acts_more : (code : Code) (c : Choice) (o : Option Node) (w v : Machine) → slice_get w.nodes c.node ≡ o → acts_at code c o w ≡ Some v →
    handled v.nodes ≤ handled w.nodes + 1
acts_more code c None w v g h = cc
acts_more code c (Some s) w v g h =
    at_more c.node (acts code c.act c.peer c.pick s) (handled w.nodes + 1) w v
    (λ t k. omega (arith, act_more code c.act c.peer c.pick s t k, handled_at w.nodes c.node s g)) (omega arith) h

arrive_more : (me : ℕ) (x : Message) (peer : ℕ) (o : Option Node) (w v : List Node) → slice_get w peer ≡ o → arrives_in me x peer o w ≡ Some v → handled v ≤ handled w
arrive_more me x peer None w v g h = cc
arrive_more me x peer (Some s) w v g h =
    let e = ap handled (same_Some _ _ h)
    in omega (arith, e, handled_set w peer (handled w) (record s { net = put_at me x s.net }) (omega arith) (handled_at w peer s g))

sent_more : (me peer : ℕ) (o : Option (Message × List (List Message))) (s : Node) (w v : List Node) → slice_get w me ≡ Some s → sends_of me peer o s w ≡ Some v → handled v ≤ handled w
sent_more me peer None s w v g h = cc
sent_more me peer (Some (x, rest)) s w v g h =
    let t : Node = record s { su = with_peers rest s.su }
    in let u : List Node = slice_set w me t
    in omega (arith, arrive_more me x peer (slice_get u peer) u v refl h, handled_set w me (handled w) t (omega arith) (handled_at w me s g))

send_more : (me peer : ℕ) (o : Option Node) (w v : List Node) → slice_get w me ≡ o → sends me peer o w ≡ Some v → handled v ≤ handled w
send_more me peer None w v g h = cc
send_more me peer (Some s) w v g h = sent_more me peer (taken_at peer s.su.peers) s w v g h

put_more : (o : Option (List Node)) (w v : Machine) → ((nodes : List Node) → o ≡ Some nodes → handled nodes ≤ handled w.nodes) →
    with_nodes o w ≡ Some v → handled v.nodes ≤ handled w.nodes
put_more None w v f h = cc
put_more (Some nodes) w v f h = let e = ap (λ m. handled m.nodes) (same_Some _ _ h) in omega (arith, e, f nodes refl)

kind_more : (code : Code) (c : Choice) (b : Bool) (w v : Machine) →
    cond b (with_nodes (sends c.node c.peer (slice_get w.nodes c.node) w.nodes) w) (acts_at code c (slice_get w.nodes c.node) w) ≡ Some v →
    handled v.nodes ≤ handled w.nodes + 1
kind_more code c true w v h =
    omega (
      arith,
      put_more (sends c.node c.peer (slice_get w.nodes c.node) w.nodes) w v
          (λ nodes k. send_more c.node c.peer (slice_get w.nodes c.node) w.nodes nodes refl k) h,
    )
kind_more code c false w v h = acts_more code c (slice_get w.nodes c.node) w v refl h

name_more : (code : Code) (c : Choice) (b : Bool) (w v : Machine) →
    cond b (cond (is_send c.act) (with_nodes (sends c.node c.peer (slice_get w.nodes c.node) w.nodes) w)
    (acts_at code c (slice_get w.nodes c.node) w)) None ≡ Some v → handled v.nodes ≤ handled w.nodes + 1
name_more code c true w v h = kind_more code c (is_send c.act) w v h
name_more code c false w v h = cc

pub handled_more : (code : Code) (c : Choice) (w v : Machine) → step code c w ≡ Some v → handled v.nodes ≤ handled w.nodes + 1
handled_more code c w v h = name_more code c (named c w.nodes) w v h

-- a node that is read has handled no more
pub handled_below : (w : List Node) (i most : ℕ) (s : Node) → handled w < most → i < length w → s ≡ get_or w i s → s.su.handled < most
handled_below [] i most s h k e = absurd (omega arith)
handled_below (x ∷ w) zero most s h k e = let f = ap (λ n. n.su.handled) e in omega (arith, f)
handled_below (x ∷ w) (suc i) most s h k e = handled_below w i most s (omega arith) (omega arith) e
