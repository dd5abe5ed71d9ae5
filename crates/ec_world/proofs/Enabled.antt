-- A choice is enabled exactly where it leads somewhere.
use Rattle.std.proofs.Common.{◌≡◌, ◌<◌, ℕ, zero, suc, Bool, true, false, ◌&&◌, cond, List, [], ◌∷◌, length, refl, ap, sym, ◌∙◌, Option, Some, None, slice_get, slice_set, arith}
use Rattle.std.specs.Prelude.{◌==◌, if◌then◌else◌, is_none, is_some, nat_lt}
use Rattle.std.proofs.lemmas.Bool.{eqb-true, ltb-true}
use Rattle.ec_code.specs.declared.code.Code.{Code}
use Rattle.ec_code.specs.declared.message.Entry.{Entry}
use Rattle.ec_code.specs.declared.message.Message.{Message}
use Rattle.ec_eu.specs.declared.state.Spawned.{Spawned}
use Rattle.ec_eu.specs.Entries.{spawned_in}
use Rattle.ec_eu.specs.State.{Exec}
use Rattle.ec_queue.specs.Queues.{taken, taken_of, has_some, has_some_in}
use Rattle.ec_su.specs.Handle.{candidates, handle}
use Rattle.ec_world.specs.declared.choice.Act.{Act}
use Rattle.ec_world.specs.declared.choice.Act.TheVariants.{EuReady, EuSpawn, EuEvent, EuHungry, SuEvent, SuNet, SuReady, SuSend}
use Rattle.ec_world.specs.declared.choice.Choice.{Choice}
use Rattle.ec_world.specs.declared.node.Node.{Node}
use Rattle.ec_world.specs.Step.{Machine, eu_ready, eu_spawn, eu_event, su_event, su_net, su_ready, acts, at_node, acts_at, with_nodes, with_peers, arrives_in, sends_of, sends, is_send, uses_pick, well_named, step, offers, offers_in, enabled, picks, candidates_of, candidates_in}

-- ---- one act

-- a test before an act
tested_some : (b : Bool) (o : Option Node) → is_some (cond b o None) ≡ (b && is_some o)
tested_some true o = refl
tested_some false o = refl

and_true : (b : Bool) → (b && true) ≡ b
and_true true = refl
and_true false = refl

ready_some : (code : Code) (q : List Entry) (s : Node) → is_some (eu_ready code (taken q) s) ≡ has_some q
ready_some code [] s = refl
ready_some code (x ∷ xs) s = refl

spawn_some : (code : Code) (q : List Spawned) (u : Exec) (s : Node) → is_some (eu_spawn (spawned_in code q u) s) ≡ has_some q
spawn_some code [] u s = refl
spawn_some code (x ∷ xs) u s = refl

out_some : (q : List Message) (s : Node) → is_some (eu_event (taken q) s) ≡ has_some q
out_some [] s = refl
out_some (x ∷ xs) s = refl

event_some : (pick : ℕ) (q : List Message) (s : Node) → is_some (su_event pick (taken q) s) ≡ (has_some q && nat_lt pick (candidates_of q s.su))
event_some pick [] s = refl
event_some pick (x ∷ xs) s =
    tested_some (nat_lt pick (candidates x s.su)) (Some (record s { events = xs; su = handle x s.su }))
    ∙ and_true (nat_lt pick (candidates x s.su))

net_some : (pick at : ℕ) (o : Option (List Message)) (qs : List (List Message)) (s : Node) →
    is_some (su_net pick (taken_of o at qs) s) ≡ (has_some_in o && nat_lt pick (candidates_in o s.su))
net_some pick at None qs s = refl
net_some pick at (Some []) qs s = refl
net_some pick at (Some (x ∷ xs)) qs s =
    tested_some (nat_lt pick (candidates x s.su)) (Some (record s { net = slice_set qs at xs; su = handle x s.su }))
    ∙ and_true (nat_lt pick (candidates x s.su))

moved_some : (q : List Entry) (s : Node) → is_some (su_ready (taken q) s) ≡ has_some q
moved_some [] s = refl
moved_some (x ∷ xs) s = refl

-- a pick that isn't used is 0
no_pick : (pick : ℕ) (b : Bool) → (pick == 0) ≡ true → (b && nat_lt pick 1) ≡ b
no_pick pick b h = let e : pick ≡ 0 = eqb-true pick 0 h in rw e (and_true b)

abbrev PickFits : Act → ℕ → Type 0
PickFits act pick = (if uses_pick act then true else pick == 0) ≡ true

act_some : (code : Code) (act : Act) (peer pick : ℕ) (s : Node) → is_send act ≡ false → PickFits act pick →
    is_some (acts code act peer pick s) ≡ (offers act peer s && nat_lt pick (picks act peer s))
act_some code EuReady peer pick s h p =
    tested_some (is_none s.eu.trap) (eu_ready code (taken s.ready) s)
    ∙ ap (λ b. is_none s.eu.trap && b) (ready_some code s.ready s) ∙ sym (no_pick pick (is_none s.eu.trap && has_some s.ready) p)
act_some code EuSpawn peer pick s h p =
    tested_some (is_none s.eu.trap) (eu_spawn (spawned_in code s.eu.spawned s.eu) s)
    ∙ ap (λ b. is_none s.eu.trap && b) (spawn_some code s.eu.spawned s.eu s)
    ∙ sym (no_pick pick (is_none s.eu.trap && has_some s.eu.spawned) p)
act_some code EuEvent peer pick s h p = out_some s.eu.outbox s ∙ sym (no_pick pick (has_some s.eu.outbox) p)
act_some code EuHungry peer pick s h p = refl
act_some code SuEvent peer pick s h p = event_some pick s.events s
act_some code SuNet peer pick s h p = net_some pick peer (slice_get s.net peer) s.net s
act_some code SuReady peer pick s h p = moved_some s.su.ready s ∙ sym (no_pick pick (has_some s.su.ready) p)
act_some code SuSend peer pick s h p = cc

at_some : (me : ℕ) (o : Option Node) (w : Machine) → is_some (at_node me o w) ≡ is_some o
at_some me None w = refl
at_some me (Some s) w = refl

acts_some : (code : Code) (c : Choice) (o : Option Node) (w : Machine) → is_send c.act ≡ false → PickFits c.act c.pick →
    is_some (acts_at code c o w) ≡ offers_in c o
acts_some code c None w h p = refl
acts_some code c (Some s) w h p =
    at_some c.node (acts code c.act c.peer c.pick s) w ∙ act_some code c.act c.peer c.pick s h p

-- ---- a message to a peer

set_some : {A : Type 0} (xs : List A) (i j : ℕ) (y : A) → is_some (slice_get (slice_set xs i y) j) ≡ is_some (slice_get xs j)
set_some [] i j y = refl
set_some (x ∷ xs) zero zero y = refl
set_some (x ∷ xs) zero (suc j) y = refl
set_some (x ∷ xs) (suc i) zero y = refl
set_some (x ∷ xs) (suc i) (suc j) y = set_some xs i j y

get_some : {A : Type 0} (xs : List A) (i : ℕ) → i < length xs → is_some (slice_get xs i) ≡ true
get_some [] i h = absurd (omega arith)
get_some (x ∷ xs) zero h = refl
get_some (x ∷ xs) (suc i) h = get_some xs i (omega arith)

arrive_some : (me : ℕ) (x : Message) (peer : ℕ) (o : Option Node) (w : List Node) → is_some (arrives_in me x peer o w) ≡ is_some o
arrive_some me x peer None w = refl
arrive_some me x peer (Some s) w = refl

sent_some : (me peer : ℕ) (o : Option (List Message)) (qs : List (List Message)) (s : Node) (w : List Node) → is_some (slice_get w peer) ≡ true → is_some (sends_of me peer (taken_of o peer qs) s w) ≡ has_some_in o
sent_some me peer None qs s w h = refl
sent_some me peer (Some []) qs s w h = refl
sent_some me peer (Some (x ∷ xs)) qs s w h =
    let t : Node = record s { su = with_peers (slice_set qs peer xs) s.su }
    in let v : List Node = slice_set w me t
    in arrive_some me x peer (slice_get v peer) v ∙ (set_some w me peer t ∙ h)

abbrev send_offers : ℕ → Option Node → Bool
send_offers peer None = false
send_offers peer (Some s) = has_some_in (slice_get s.su.peers peer)

send_some : (me peer : ℕ) (o : Option Node) (w : List Node) → is_some (slice_get w peer) ≡ true → is_some (sends me peer o w) ≡ send_offers peer o
send_some me peer None w h = refl
send_some me peer (Some s) w h = sent_some me peer (slice_get s.su.peers peer) s.su.peers s w h

put_some : (o : Option (List Node)) (w : Machine) → is_some (with_nodes o w) ≡ is_some o
put_some None w = refl
put_some (Some nodes) w = refl

offers_send : (c : Choice) (act : Act) (o : Option Node) → c.act ≡ act → is_send act ≡ true → PickFits act c.pick → send_offers c.peer o ≡ offers_in c o
offers_send c SuSend None e h p = refl
offers_send c SuSend (Some s) e h p = rw e (sym (no_pick c.pick (has_some_in (slice_get s.su.peers c.peer)) p))
offers_send c EuReady o e h p = absurd (cc)
offers_send c EuSpawn o e h p = absurd (cc)
offers_send c EuEvent o e h p = absurd (cc)
offers_send c EuHungry o e h p = absurd (cc)
offers_send c SuEvent o e h p = absurd (cc)
offers_send c SuNet o e h p = absurd (cc)
offers_send c SuReady o e h p = absurd (cc)

-- ---- any choice

kind_some : (code : Code) (c : Choice) (b : Bool) (w : Machine) → is_send c.act ≡ b → PickFits c.act c.pick → c.peer < length w.nodes →
    is_some (cond b (with_nodes (sends c.node c.peer (slice_get w.nodes c.node) w.nodes) w) (acts_at code c (slice_get w.nodes c.node) w)) ≡ offers_in c (slice_get w.nodes c.node)
kind_some code c true w e p h =
    put_some (sends c.node c.peer (slice_get w.nodes c.node) w.nodes) w
    ∙ send_some c.node c.peer (slice_get w.nodes c.node) w.nodes (get_some w.nodes c.peer h)
    ∙ offers_send c c.act (slice_get w.nodes c.node) refl e p
kind_some code c false w e p h = acts_some code c (slice_get w.nodes c.node) w e p

and_right : (a b : Bool) → (a && b) ≡ true → b ≡ true
and_right true b h = h
and_right false b h = absurd (cc)

pub exactly : (code : Code) (c : Choice) (w : Machine) → is_some (step code c w) ≡ enabled c w.nodes
exactly code c w = by (well_named c) refl (nat_lt c.peer (length w.nodes)) refl
  where
    by : (a : Bool) → well_named c ≡ a → (b : Bool) → nat_lt c.peer (length w.nodes) ≡ b →
        is_some (cond (a && b) (cond (is_send c.act) (with_nodes (sends c.node c.peer (slice_get w.nodes c.node) w.nodes) w) (acts_at code c (slice_get w.nodes c.node) w)) None)
        ≡ ((a && b) && offers_in c (slice_get w.nodes c.node))
    by false e b f = refl
    by true e false f = refl
    by true e true f = kind_some code c (is_send c.act) w refl (and_right _ _ e) (ltb-true c.peer (length w.nodes) f)
