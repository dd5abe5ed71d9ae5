-- A choice is enabled exactly where it leads somewhere.
use Rattle.std.proofs.Common.{◌≡◌, ℕ, zero, suc, Bool, true, false, ◌&&◌, cond, List, [], ◌∷◌, refl, ap, sym, ◌∙◌, Option, Some, None, slice_get, slice_set}
use Rattle.std.specs.Prelude.{is_some}
use Rattle.ec_core.specs.declared.code.Code.{Code}
use Rattle.ec_core.specs.declared.message.Entry.{Entry}
use Rattle.ec_core.specs.declared.message.Message.{Message}
use Rattle.ec_core.specs.declared.choice.Act.{Act}
use Rattle.ec_core.specs.declared.choice.Act.TheVariants.{EuReady, EuSpawn, EuEvent, EuHungry, SuEvent, SuNet, SuReady, SuSend}
use Rattle.ec_core.specs.declared.choice.Choice.{Choice}
use Rattle.ec_core.specs.declared.eu.Spawned.{Spawned}
use Rattle.ec_core.specs.declared.node.Node.{Node}
use Rattle.ec_core.specs.Queues.{taken, taken_of, has_some, has_some_in}
use Rattle.ec_core.specs.State.{Exec}
use Rattle.ec_core.specs.Entry.{spawned_of}
use Rattle.ec_core.specs.Step.{eu_ready, eu_spawn, eu_event, su_event, su_net, su_ready, acts, at_node, acts_at, arrives_in, sends_of, sends, is_send, well_named, step, offers, offers_in, enabled}

-- ---- one act

ready_some : (code : Code) (me : ℕ) (q : List Entry) (s : Node) → is_some (eu_ready code me (taken q) s) ≡ has_some q
ready_some code me [] s = refl
ready_some code me (x ∷ xs) s = refl

spawn_some : (code : Code) (me : ℕ) (q : List Spawned) (u : Exec) (s : Node) → is_some (eu_spawn (spawned_of code me q u) s) ≡ has_some q
spawn_some code me [] u s = refl
spawn_some code me (x ∷ xs) u s = refl

out_some : (q : List Message) (s : Node) → is_some (eu_event (taken q) s) ≡ has_some q
out_some [] s = refl
out_some (x ∷ xs) s = refl

event_some : (me : ℕ) (q : List Message) (s : Node) → is_some (su_event me (taken q) s) ≡ has_some q
event_some me [] s = refl
event_some me (x ∷ xs) s = refl

net_some : (me at : ℕ) (o : Option (List Message)) (qs : List (List Message)) (s : Node) → is_some (su_net me (taken_of o at qs) s) ≡ has_some_in o
net_some me at None qs s = refl
net_some me at (Some []) qs s = refl
net_some me at (Some (x ∷ xs)) qs s = refl

moved_some : (q : List Entry) (s : Node) → is_some (su_ready (taken q) s) ≡ has_some q
moved_some [] s = refl
moved_some (x ∷ xs) s = refl

act_some : (code : Code) (me : ℕ) (act : Act) (peer : ℕ) (s : Node) → is_send act ≡ false → is_some (acts code me act peer s) ≡ offers act peer s
act_some code me EuReady peer s h = ready_some code me s.ready s
act_some code me EuSpawn peer s h = spawn_some code me s.eu.spawned s.eu s
act_some code me EuEvent peer s h = out_some s.eu.outbox s
act_some code me EuHungry peer s h = refl
act_some code me SuEvent peer s h = event_some me s.events s
act_some code me SuNet peer s h = net_some me peer (slice_get s.net peer) s.net s
act_some code me SuReady peer s h = moved_some s.su.ready s
act_some code me SuSend peer s h = cc

at_some : (me : ℕ) (o : Option Node) (w : List Node) → is_some (at_node me o w) ≡ is_some o
at_some me None w = refl
at_some me (Some s) w = refl

acts_some : (code : Code) (c : Choice) (o : Option Node) (w : List Node) → is_send c.act ≡ false → is_some (acts_at code c o w) ≡ offers_in c.act c.peer o
acts_some code c None w h = refl
acts_some code c (Some s) w h = at_some c.node (acts code c.node c.act c.peer s) w ∙ act_some code c.node c.act c.peer s h

-- ---- a message to a peer

set_some : {A : Type 0} (xs : List A) (i j : ℕ) (y : A) → is_some (slice_get (slice_set xs i y) j) ≡ is_some (slice_get xs j)
set_some [] i j y = refl
set_some (x ∷ xs) zero zero y = refl
set_some (x ∷ xs) zero (suc j) y = refl
set_some (x ∷ xs) (suc i) zero y = refl
set_some (x ∷ xs) (suc i) (suc j) y = set_some xs i j y

arrive_some : (me : ℕ) (x : Message) (peer : ℕ) (o : Option Node) (w : List Node) → is_some (arrives_in me x peer o w) ≡ is_some o
arrive_some me x peer None w = refl
arrive_some me x peer (Some s) w = refl

sent_some : (me peer : ℕ) (o : Option (List Message)) (qs : List (List Message)) (s : Node) (w : List Node) → is_some (slice_get w peer) ≡ true → is_some (sends_of me peer (taken_of o peer qs) s w) ≡ has_some_in o
sent_some me peer None qs s w h = refl
sent_some me peer (Some []) qs s w h = refl
sent_some me peer (Some (x ∷ xs)) qs s w h =
    let t : Node = record s { su = record s.su { peers = slice_set qs peer xs } }
    in let v : List Node = slice_set w me t
    in arrive_some me x peer (slice_get v peer) v ∙ (set_some w me peer t ∙ h)

send_some : (me peer : ℕ) (o : Option Node) (w : List Node) → is_some (slice_get w peer) ≡ true → is_some (sends me peer o w) ≡ offers_in SuSend peer o
send_some me peer None w h = refl
send_some me peer (Some s) w h = sent_some me peer (slice_get s.su.peers peer) s.su.peers s w h

-- ---- any choice

is_the_send : (act : Act) → is_send act ≡ true → act ≡ SuSend
is_the_send EuReady h = cc
is_the_send EuSpawn h = cc
is_the_send EuEvent h = cc
is_the_send EuHungry h = cc
is_the_send SuEvent h = cc
is_the_send SuNet h = cc
is_the_send SuReady h = cc
is_the_send SuSend h = refl

kind_some : (code : Code) (c : Choice) (b : Bool) (w : List Node) → is_send c.act ≡ b → is_some (slice_get w c.peer) ≡ true → is_some (cond b (sends c.node c.peer (slice_get w c.node) w) (acts_at code c (slice_get w c.node) w)) ≡ offers_in c.act c.peer (slice_get w c.node)
kind_some code c true w e h =
    send_some c.node c.peer (slice_get w c.node) w h ∙ ap (λ act. offers_in act c.peer (slice_get w c.node)) (sym (is_the_send c.act e))
kind_some code c false w e h = acts_some code c (slice_get w c.node) w e

name_some : (code : Code) (c : Choice) (a b : Bool) (w : List Node) → is_some (slice_get w c.peer) ≡ b → is_some (cond (a && b) (cond (is_send c.act) (sends c.node c.peer (slice_get w c.node) w) (acts_at code c (slice_get w c.node) w)) None) ≡ ((a && b) && offers_in c.act c.peer (slice_get w c.node))
name_some code c false b w e = refl
name_some code c true false w e = refl
name_some code c true true w e = kind_some code c (is_send c.act) w refl e

pub exactly : (code : Code) (c : Choice) (w : List Node) → is_some (step code c w) ≡ enabled c w
exactly code c w = name_some code c (well_named c) (is_some (slice_get w c.peer)) w refl
