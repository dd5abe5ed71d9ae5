-- No step makes what is on its way weigh more, where its execution unit doesn't.
use Rattle.std.proofs.Common.{◌≡◌, ◌≤◌, ◌+◌, ℕ, zero, suc, Bool, true, false, cond, List, [], ◌∷◌, refl, ap, ◌∙◌, Option, Some, None, slice_get, slice_set, arith}
use Rattle.std.specs.Prelude.{nat_lt, ◌==◌}
use Rattle.std.specs.List.{sum_by}
use Rattle.std.proofs.lemmas.List.Sums.{sum_by_push}
use Rattle.std.proofs.lemmas.Option.{same_Some}
use Rattle.ec_core.specs.declared.code.Code.{Code}
use Rattle.ec_core.specs.declared.message.Entry.{Entry}
use Rattle.ec_core.specs.declared.message.Entry.TheVariants.{Start}
use Rattle.ec_core.specs.declared.message.Message.{Message}
use Rattle.ec_core.specs.declared.message.Message.TheVariants.{Init, Sync, Work, EndFrame}
use Rattle.ec_core.specs.declared.choice.Act.{Act}
use Rattle.ec_core.specs.declared.choice.Act.TheVariants.{EuReady, EuSpawn, EuEvent, EuHungry, SuEvent, SuNet, SuReady, SuSend}
use Rattle.ec_core.specs.declared.choice.Choice.{Choice}
use Rattle.ec_core.specs.declared.eu.Frame.{Frame}
use Rattle.ec_core.specs.declared.node.Node.{Node}
use Rattle.ec_core.specs.declared.slots.Slot.{Slot}
use Rattle.ec_core.specs.declared.su.Su.{Su}
use Rattle.ec_core.specs.Queues.{taken, taken_at, put_at}
use Rattle.ec_core.specs.State.{Exec}
use Rattle.ec_core.specs.Slots.{slot_of, with_slot, one_less, refilled}
use Rattle.ec_core.specs.Handle.{handle, syncs, fills, starts, to_peer, readies, with_slots}
use Rattle.ec_core.specs.Entry.{entry, spawned_step}
use Rattle.ec_core.specs.Step.{eu_ready, eu_spawn, eu_event, su_event, su_net, su_ready, acts, at_node, acts_at, arrives_in, sends_of, sends, is_send, named, step}
use Rattle.ec_core.proofs.Roots.Weights.{take_weighs, put_weighs, row_weighs, taken_is, sum_set, of_message, of_queue, of_row, of_node}

-- ---- one message

-- starts of fibers weigh nothing
pub record IsIdle (f : Entry → ℕ) : Type 0 where
  pub start : (frame fiber slot filling : ℕ) → f (Start frame fiber slot filling) ≡ 0

abbrev of_su : (Entry → ℕ) → Su → ℕ
of_su f u = sum_by f u.ready + of_row f u.peers

starts_weigh : (f : Entry → ℕ) → IsIdle f → (frame slot : ℕ) (x : Slot) (o : Option ℕ) (u : Su) → of_su f (starts frame slot x o u) ≤ of_su f u
starts_weigh f idle frame slot x None u = omega arith
starts_weigh f idle frame slot x (Some fiber) u =
    let a = sum_by_push f u.ready (Start frame fiber slot x.fillings) in omega (arith, a, idle.start frame fiber slot x.fillings)

sync_weighs : (f : Entry → ℕ) → IsIdle f → (frame slot : ℕ) (x : Slot) (b : Bool) (u : Su) → of_su f (cond b (with_slots (with_slot frame slot (one_less x) u.slots) u) (fills frame slot x u)) ≤ of_su f u
sync_weighs f idle frame slot x true u = omega arith
sync_weighs f idle frame slot x false u =
    starts_weigh f idle frame slot (refilled x) x.fiber (with_slots (with_slot frame slot (refilled x) u.slots) u)

syncs_weigh : (f : Entry → ℕ) → IsIdle f → (frame slot : ℕ) (o : Option Slot) (u : Su) → of_su f (syncs frame slot o u) ≤ of_su f u
syncs_weigh f idle frame slot None u = omega arith
syncs_weigh f idle frame slot (Some x) u = sync_weighs f idle frame slot x (nat_lt 1 x.count) u

own_sync_weighs : (f : Entry → ℕ) → IsIdle f → (frame slot node : ℕ) (x : Message) (b : Bool) (u : Su) → of_su f (cond b (syncs frame slot (slot_of frame slot u.slots) u) (to_peer node x u)) ≤ of_su f u + of_message f x
own_sync_weighs f idle frame slot node x true u =
    let a = syncs_weigh f idle frame slot (slot_of frame slot u.slots) u in omega (arith, a)
own_sync_weighs f idle frame slot node x false u = let a = put_weighs (of_message f) u.peers node x in omega (arith, a)

own_work_weighs : (f : Entry → ℕ) (node : ℕ) (y : Entry) (b : Bool) (u : Su) → of_su f (cond b (readies y u) (to_peer node (Work node y) u)) ≤ of_su f u + of_message f (Work node y)
own_work_weighs f node y true u = let a = sum_by_push f u.ready y in omega (arith, a)
own_work_weighs f node y false u = let a = put_weighs (of_message f) u.peers node (Work node y) in omega (arith, a)

handle_weighs : (f : Entry → ℕ) → IsIdle f → (me : ℕ) (x : Message) (u : Su) → of_su f (handle me x u) ≤ of_su f u + of_message f x
handle_weighs f idle me (Init frame slot count reset fiber) u = omega arith
handle_weighs f idle me (Sync node frame slot) u = own_sync_weighs f idle frame slot node (Sync node frame slot) (node == me) (with_slots u.slots u)
handle_weighs f idle me (Work node y) u = own_work_weighs f node y (node == me) (with_slots u.slots u)
handle_weighs f idle me (EndFrame frame) u = omega arith

-- ---- one act

-- the weight of an execution unit
abbrev pub of_exec : (List Frame → ℕ) → (Entry → ℕ) → Exec → ℕ
of_exec g f u = g u.frames + of_queue f u.outbox

-- an execution unit that comes to u makes nothing weigh more
pub record Runs (g : List Frame → ℕ) (f : Entry → ℕ) (code : Code) (me : ℕ) (s : Node) (u : Exec) : Type 0 where
  pub ready : (x : Entry) (rest : List Entry) → s.ready ≡ x ∷ rest → entry code me x s.eu ≡ u → of_exec g f u ≤ of_exec g f s.eu + f x
  pub spawn : spawned_step code me s.eu ≡ Some u → of_exec g f u ≤ of_exec g f s.eu

module _ (g : List Frame → ℕ) (f : Entry → ℕ) (idle : IsIdle f) (code : Code) (me : ℕ) where
  ready_weighs : (o : Option (Entry × List Entry)) (s t : Node) → taken s.ready ≡ o → Runs g f code me s t.eu → eu_ready code me o s ≡ Some t → of_node g f t ≤ of_node g f s
  ready_weighs None s t e runs h = cc
  ready_weighs (Some (x, rest)) s t e runs h =
      let k = same_Some _ t h in
      let a = ap (of_node g f) k in
      let b = take_weighs f s.ready rest x e in
      let c = runs.ready x rest (taken_is s.ready rest x e) (ap (λ n. n.eu) k) in
      let d = ap (λ n. of_exec g f n.eu) k in
      omega (arith, a, b, c, d)

  spawn_weighs : (o : Option Exec) (s t : Node) → spawned_step code me s.eu ≡ o → Runs g f code me s t.eu → eu_spawn o s ≡ Some t → of_node g f t ≤ of_node g f s
  spawn_weighs None s t e runs h = cc
  spawn_weighs (Some u) s t e runs h =
      let k = same_Some _ t h in
      let a = ap (of_node g f) k in
      let b = runs.spawn (e ∙ ap (λ n. Some n.eu) k) in
      let c = ap (λ n. of_exec g f n.eu) k in
      omega (arith, a, b, c)

  out_weighs : (o : Option (Message × List Message)) (s t : Node) → taken s.eu.outbox ≡ o → eu_event o s ≡ Some t → of_node g f t ≤ of_node g f s
  out_weighs None s t e h = cc
  out_weighs (Some (x, rest)) s t e h =
      let a = ap (of_node g f) (same_Some _ _ h) in
      let b = take_weighs (of_message f) s.eu.outbox rest x e in
      let c = sum_by_push (of_message f) s.events x in
      omega (arith, a, b, c)

  event_weighs : (o : Option (Message × List Message)) (s t : Node) → taken s.events ≡ o → su_event me o s ≡ Some t → of_node g f t ≤ of_node g f s
  event_weighs None s t e h = cc
  event_weighs (Some (x, rest)) s t e h =
      let a = ap (of_node g f) (same_Some _ _ h) in
      let b = take_weighs (of_message f) s.events rest x e in
      let c = handle_weighs f idle me x s.su in
      omega (arith, a, b, c)

  net_weighs : (peer : ℕ) (o : Option (Message × List (List Message))) (s t : Node) → taken_at peer s.net ≡ o → su_net me o s ≡ Some t → of_node g f t ≤ of_node g f s
  net_weighs peer None s t e h = cc
  net_weighs peer (Some (x, rest)) s t e h =
      let a = ap (of_node g f) (same_Some _ _ h) in
      let b = row_weighs (of_message f) s.net rest peer x e in
      let c = handle_weighs f idle me x s.su in
      omega (arith, a, b, c)

  moved_weighs : (o : Option (Entry × List Entry)) (s t : Node) → taken s.su.ready ≡ o → su_ready o s ≡ Some t → of_node g f t ≤ of_node g f s
  moved_weighs None s t e h = cc
  moved_weighs (Some (x, rest)) s t e h =
      let a = ap (of_node g f) (same_Some _ _ h) in
      let b = take_weighs f s.su.ready rest x e in
      let c = sum_by_push f s.ready x in
      omega (arith, a, b, c)

  pub act_weighs : (act : Act) (peer : ℕ) (s t : Node) → acts code me act peer s ≡ Some t → Runs g f code me s t.eu → of_node g f t ≤ of_node g f s
  act_weighs EuReady peer s t h runs = ready_weighs (taken s.ready) s t refl runs h
  act_weighs EuSpawn peer s t h runs = spawn_weighs (spawned_step code me s.eu) s t refl runs h
  act_weighs EuEvent peer s t h runs = out_weighs (taken s.eu.outbox) s t refl h
  act_weighs EuHungry peer s t h runs = cc
  act_weighs SuEvent peer s t h runs = event_weighs (taken s.events) s t refl h
  act_weighs SuNet peer s t h runs = net_weighs peer (taken_at peer s.net) s t refl h
  act_weighs SuReady peer s t h runs = moved_weighs (taken s.su.ready) s t refl h
  act_weighs SuSend peer s t h runs = cc

-- ---- the world

-- the node that a message left, and the one that it came to
abbrev pub sent_from : Node → List (List Message) → Node
sent_from s rest = record s { su = record s.su { peers = rest } }

abbrev pub got_by : Node → ℕ → Message → Node
got_by t me x = record t { net = put_at me x t.net }

-- a step changes one node by an act, or two by a message from one to the other
pub data Changes (code : Code) (c : Choice) (w : List Node) : List Node → Type 0 where
  acted : (s t : Node) → slice_get w c.node ≡ Some s → acts code c.node c.act c.peer s ≡ Some t → Changes code c w (slice_set w c.node t)
  sent : (s t : Node) (x : Message) (rest : List (List Message)) → slice_get w c.node ≡ Some s → taken_at c.peer s.su.peers ≡ Some (x, rest) → slice_get (slice_set w c.node (sent_from s rest)) c.peer ≡ Some t → Changes code c w (slice_set (slice_set w c.node (sent_from s rest)) c.peer (got_by t c.node x))

at_changes : (code : Code) (c : Choice) (s : Node) (o : Option Node) (w v : List Node) → slice_get w c.node ≡ Some s → acts code c.node c.act c.peer s ≡ o → at_node c.node o w ≡ Some v → Changes code c w v
at_changes code c s None w v e a h = cc
at_changes code c s (Some t) w v e a h = let k = same_Some _ v h in rw (← k) (acted s t e a)

acts_change : (code : Code) (c : Choice) (o : Option Node) (w v : List Node) → slice_get w c.node ≡ o → acts_at code c o w ≡ Some v → Changes code c w v
acts_change code c None w v e h = cc
acts_change code c (Some s) w v e h = at_changes code c s (acts code c.node c.act c.peer s) w v e refl h

arrival_changes : (code : Code) (c : Choice) (s : Node) (x : Message) (rest : List (List Message)) (o : Option Node) (w v : List Node) → slice_get w c.node ≡ Some s → taken_at c.peer s.su.peers ≡ Some (x, rest) → slice_get (slice_set w c.node (sent_from s rest)) c.peer ≡ o → arrives_in c.node x c.peer o (slice_set w c.node (sent_from s rest)) ≡ Some v → Changes code c w v
arrival_changes code c s x rest None w v e a b h = cc
arrival_changes code c s x rest (Some t) w v e a b h = let k = same_Some _ v h in rw (← k) (sent s t x rest e a b)

sent_changes : (code : Code) (c : Choice) (s : Node) (o : Option (Message × List (List Message))) (w v : List Node) → slice_get w c.node ≡ Some s → taken_at c.peer s.su.peers ≡ o → sends_of c.node c.peer o s w ≡ Some v → Changes code c w v
sent_changes code c s None w v e a h = cc
sent_changes code c s (Some (x, rest)) w v e a h =
    arrival_changes code c s x rest (slice_get (slice_set w c.node (sent_from s rest)) c.peer) w v e a refl h

send_changes : (code : Code) (c : Choice) (o : Option Node) (w v : List Node) → slice_get w c.node ≡ o → sends c.node c.peer o w ≡ Some v → Changes code c w v
send_changes code c None w v e h = cc
send_changes code c (Some s) w v e h = sent_changes code c s (taken_at c.peer s.su.peers) w v e refl h

kind_changes : (code : Code) (c : Choice) (b : Bool) (w v : List Node) → cond b (sends c.node c.peer (slice_get w c.node) w) (acts_at code c (slice_get w c.node) w) ≡ Some v → Changes code c w v
kind_changes code c true w v h = send_changes code c (slice_get w c.node) w v refl h
kind_changes code c false w v h = acts_change code c (slice_get w c.node) w v refl h

name_changes : (code : Code) (c : Choice) (b : Bool) (w v : List Node) → cond b (cond (is_send c.act) (sends c.node c.peer (slice_get w c.node) w) (acts_at code c (slice_get w c.node) w)) None ≡ Some v → Changes code c w v
name_changes code c true w v h = kind_changes code c (is_send c.act) w v h
name_changes code c false w v h = cc

pub changes : (code : Code) (c : Choice) (w v : List Node) → step code c w ≡ Some v → Changes code c w v
changes code c w v h = name_changes code c (named c w) w v h

pub get_set : {A : Type 0} (xs : List A) (k : ℕ) (x y : A) → slice_get xs k ≡ Some x → slice_get (slice_set xs k y) k ≡ Some y
get_set [] k x y h = cc
get_set (z ∷ xs) zero x y h = refl
get_set (z ∷ xs) (suc k) x y h = get_set xs k x y h

-- a world weighs no more after a step
pub world_weighs : (g : List Frame → ℕ) (f : Entry → ℕ) → IsIdle f → (code : Code) (c : Choice) (w v : List Node) → ((s t : Node) → slice_get w c.node ≡ Some s → slice_get v c.node ≡ Some t → Runs g f code c.node s t.eu) → Changes code c w v → sum_by (of_node g f) v ≤ sum_by (of_node g f) w
world_weighs g f idle code c w v runs (acted s t e a) =
    let p = sum_set (of_node g f) w c.node s t e in
    let q = act_weighs g f idle code c.node c.act c.peer s t a (runs s t e (get_set w c.node s t e)) in
    omega (arith, p, q)
world_weighs g f idle code c w v runs (sent s t x rest e a b) =
    let u : List Node = slice_set w c.node (sent_from s rest) in
    let p = sum_set (of_node g f) w c.node s (sent_from s rest) e in
    let q = sum_set (of_node g f) u c.peer t (got_by t c.node x) b in
    let k = row_weighs (of_message f) s.su.peers rest c.peer x a in
    let l = put_weighs (of_message f) t.net c.node x in
    omega (arith, p, q, k, l)
