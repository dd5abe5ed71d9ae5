-- No unit handles more than one message in a step.
use Rattle.std.proofs.Common.{◌≡◌, ◌≤◌, ◌+◌, ℕ, zero, suc, Bool, true, false, cond, List, [], ◌∷◌, refl, ap, Option, Some, None, slice_get, slice_set, arith}
use Rattle.std.specs.Prelude.{nat_lt, ◌==◌}
use Rattle.std.proofs.lemmas.Option.{same_Some}
use Rattle.ec_core.specs.declared.code.Code.{Code}
use Rattle.ec_core.specs.declared.message.Entry.{Entry}
use Rattle.ec_core.specs.declared.message.Message.{Message}
use Rattle.ec_core.specs.declared.choice.Act.{Act}
use Rattle.ec_core.specs.declared.choice.Act.TheVariants.{EuReady, EuSpawn, EuEvent, EuHungry, SuEvent, SuNet, SuReady, SuSend}
use Rattle.ec_core.specs.declared.choice.Choice.{Choice}
use Rattle.ec_core.specs.declared.node.Node.{Node}
use Rattle.ec_core.specs.declared.slots.Slot.{Slot}
use Rattle.ec_core.specs.declared.su.Su.{Su}
use Rattle.ec_core.specs.Queues.{taken, taken_at, put_at}
use Rattle.ec_core.specs.State.{Exec}
use Rattle.ec_core.specs.Slots.{slot_of, with_slot, one_less, refilled}
use Rattle.ec_core.specs.Handle.{Way, Stays, Syncs, Carries, way, goes, handle, syncs, fills, starts, to_peer, readies, with_slots, settled_by}
use Rattle.ec_core.specs.Entry.{spawned_step}
use Rattle.ec_core.specs.Step.{eu_ready, eu_spawn, eu_event, su_event, su_net, su_ready, acts, at_node, acts_at, arrives_in, sends_of, sends, is_send, named, step}
use Rattle.ec_core.specs.Run.{handled}

-- ---- one message

start_same : (frame slot : ℕ) (x : Slot) (o : Option ℕ) (s : Su) → (starts frame slot x o s).handled ≡ s.handled
start_same frame slot x None s = refl
start_same frame slot x (Some fiber) s = refl

sync_same : (frame slot : ℕ) (x : Slot) (b : Bool) (s : Su) → (cond b (with_slots (with_slot frame slot (one_less x) s.slots) s) (fills frame slot x s)).handled ≡ s.handled
sync_same frame slot x true s = refl
sync_same frame slot x false s = start_same frame slot (refilled x) x.fiber (with_slots (with_slot frame slot (refilled x) s.slots) s)

syncs_same : (frame slot : ℕ) (o : Option Slot) (s : Su) → (syncs frame slot o s).handled ≡ s.handled
syncs_same frame slot None s = refl
syncs_same frame slot (Some x) s = sync_same frame slot x (nat_lt 1 x.count) s

own_sync_same : (frame slot : ℕ) (node : ℕ) (message : Message) (b : Bool) (s : Su) → (cond b (syncs frame slot (slot_of frame slot s.slots) s) (to_peer node message s)).handled ≡ s.handled
own_sync_same frame slot node message true s = syncs_same frame slot (slot_of frame slot s.slots) s
own_sync_same frame slot node message false s = refl

own_work_same : (node : ℕ) (entry : Entry) (message : Message) (b : Bool) (s : Su) → (cond b (readies entry s) (to_peer node message s)).handled ≡ s.handled
own_work_same node entry message true s = refl
own_work_same node entry message false s = refl

goes_same : (me : ℕ) (y : Way) (message : Message) (s : Su) → (goes me y message s).handled ≡ s.handled
goes_same me Stays message s = refl
goes_same me (Syncs node frame slot) message s = own_sync_same frame slot node message (node == me) s
goes_same me (Carries node entry) message s = own_work_same node entry message (node == me) s

handle_more : (me : ℕ) (message : Message) (s : Su) → (handle me message s).handled ≤ s.handled + 1
handle_more me message s =
    let e = goes_same me (way message) message (with_slots (settled_by message s.slots) s) in omega (arith, e)

-- ---- one act

ready_more : (code : Code) (me : ℕ) (o : Option (Entry × List Entry)) (s t : Node) → eu_ready code me o s ≡ Some t → t.su.handled ≤ s.su.handled + 1
ready_more code me None s t h = cc
ready_more code me (Some (x, rest)) s t h = let e = ap (λ n. n.su.handled) (same_Some _ _ h) in omega (arith, e)

spawn_more : (o : Option Exec) (s t : Node) → eu_spawn o s ≡ Some t → t.su.handled ≤ s.su.handled + 1
spawn_more None s t h = cc
spawn_more (Some u) s t h = let e = ap (λ n. n.su.handled) (same_Some _ _ h) in omega (arith, e)

out_more : (o : Option (Message × List Message)) (s t : Node) → eu_event o s ≡ Some t → t.su.handled ≤ s.su.handled + 1
out_more None s t h = cc
out_more (Some (x, rest)) s t h = let e = ap (λ n. n.su.handled) (same_Some _ _ h) in omega (arith, e)

event_more : (me : ℕ) (o : Option (Message × List Message)) (s t : Node) → su_event me o s ≡ Some t → t.su.handled ≤ s.su.handled + 1
event_more me None s t h = cc
event_more me (Some (x, rest)) s t h =
    let e = ap (λ n. n.su.handled) (same_Some _ _ h) in omega (arith, e, handle_more me x s.su)

net_more : (me : ℕ) (o : Option (Message × List (List Message))) (s t : Node) → su_net me o s ≡ Some t → t.su.handled ≤ s.su.handled + 1
net_more me None s t h = cc
net_more me (Some (x, rest)) s t h =
    let e = ap (λ n. n.su.handled) (same_Some _ _ h) in omega (arith, e, handle_more me x s.su)

moved_more : (o : Option (Entry × List Entry)) (s t : Node) → su_ready o s ≡ Some t → t.su.handled ≤ s.su.handled + 1
moved_more None s t h = cc
moved_more (Some (x, rest)) s t h = let e = ap (λ n. n.su.handled) (same_Some _ _ h) in omega (arith, e)

act_more : (code : Code) (me : ℕ) (act : Act) (peer : ℕ) (s t : Node) → acts code me act peer s ≡ Some t → t.su.handled ≤ s.su.handled + 1
act_more code me EuReady peer s t h = ready_more code me (taken s.ready) s t h
act_more code me EuSpawn peer s t h = spawn_more (spawned_step code me s.eu) s t h
act_more code me EuEvent peer s t h = out_more (taken s.eu.outbox) s t h
act_more code me EuHungry peer s t h = cc
act_more code me SuEvent peer s t h = event_more me (taken s.events) s t h
act_more code me SuNet peer s t h = net_more me (taken_at peer s.net) s t h
act_more code me SuReady peer s t h = moved_more (taken s.su.ready) s t h
act_more code me SuSend peer s t h = cc

-- ---- the world

handled_at : (w : List Node) (i : ℕ) (s : Node) → slice_get w i ≡ Some s → s.su.handled ≤ handled w
handled_at [] i s h = cc
handled_at (x ∷ w) zero s h = let e = ap (λ n. n.su.handled) (same_Some _ _ h) in omega (arith, e)
handled_at (x ∷ w) (suc i) s h = omega (arith, handled_at w i s h)

handled_set : (w : List Node) (i most : ℕ) (t : Node) → handled w ≤ most → t.su.handled ≤ most → handled (slice_set w i t) ≤ most
handled_set [] i most t h k = h
handled_set (x ∷ w) zero most t h k = omega arith
handled_set (x ∷ w) (suc i) most t h k = omega (arith, handled_set w i most t (omega arith) k)

at_more : (me : ℕ) (o : Option Node) (most : ℕ) (w v : List Node) → ((t : Node) → o ≡ Some t → t.su.handled ≤ most) → handled w ≤ most → at_node me o w ≡ Some v → handled v ≤ most
at_more me None most w v f k h = cc
at_more me (Some t) most w v f k h = let e = ap handled (same_Some _ _ h) in omega (arith, e, handled_set w me most t k (f t refl))

acts_more : (code : Code) (c : Choice) (o : Option Node) (w v : List Node) → slice_get w c.node ≡ o → acts_at code c o w ≡ Some v → handled v ≤ handled w + 1
acts_more code c None w v g h = cc
acts_more code c (Some s) w v g h =
    at_more c.node (acts code c.node c.act c.peer s) (handled w + 1) w v (λ t k. omega (arith, act_more code c.node c.act c.peer s t k, handled_at w c.node s g)) (omega arith) h

arrive_more : (me : ℕ) (x : Message) (peer : ℕ) (o : Option Node) (w v : List Node) → slice_get w peer ≡ o → arrives_in me x peer o w ≡ Some v → handled v ≤ handled w
arrive_more me x peer None w v g h = cc
arrive_more me x peer (Some s) w v g h =
    let e = ap handled (same_Some _ _ h)
    in omega (arith, e, handled_set w peer (handled w) (record s { net = put_at me x s.net }) (omega arith) (handled_at w peer s g))

sent_more : (me peer : ℕ) (o : Option (Message × List (List Message))) (s : Node) (w v : List Node) → slice_get w me ≡ Some s → sends_of me peer o s w ≡ Some v → handled v ≤ handled w
sent_more me peer None s w v g h = cc
sent_more me peer (Some (x, rest)) s w v g h =
    let t : Node = record s { su = record s.su { peers = rest } }
    in let u : List Node = slice_set w me t
    in omega (arith, arrive_more me x peer (slice_get u peer) u v refl h, handled_set w me (handled w) t (omega arith) (handled_at w me s g))

send_more : (me peer : ℕ) (o : Option Node) (w v : List Node) → slice_get w me ≡ o → sends me peer o w ≡ Some v → handled v ≤ handled w
send_more me peer None w v g h = cc
send_more me peer (Some s) w v g h = sent_more me peer (taken_at peer s.su.peers) s w v g h

kind_more : (code : Code) (c : Choice) (b : Bool) (w v : List Node) → cond b (sends c.node c.peer (slice_get w c.node) w) (acts_at code c (slice_get w c.node) w) ≡ Some v → handled v ≤ handled w + 1
kind_more code c true w v h = omega (arith, send_more c.node c.peer (slice_get w c.node) w v refl h)
kind_more code c false w v h = acts_more code c (slice_get w c.node) w v refl h

name_more : (code : Code) (c : Choice) (b : Bool) (w v : List Node) → cond b (cond (is_send c.act) (sends c.node c.peer (slice_get w c.node) w) (acts_at code c (slice_get w c.node) w)) None ≡ Some v → handled v ≤ handled w + 1
name_more code c true w v h = kind_more code c (is_send c.act) w v h
name_more code c false w v h = cc

pub handled_more : (code : Code) (c : Choice) (w v : List Node) → step code c w ≡ Some v → handled v ≤ handled w + 1
handled_more code c w v h = name_more code c (named c w) w v h
