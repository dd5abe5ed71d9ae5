-- Which births acts of nodes bring: what is moved brings none.
use Rattle.std.proofs.Common.{◌≡◌, ◌<◌, ◌≤◌, ◌+◌, ◌∙◌, ◌⊎◌, ℕ, List, [], ◌∷◌, inl, inr, refl, ap, sym, Option, Some, None, slice_get, subst, arith}
use Rattle.std.specs.Prelude.{◌==◌, is_none, nat_lt}
use Rattle.std.specs.List.{sum_by}
use Rattle.std.proofs.lemmas.List.Sums.{sum_by-cons, sum_by_push}
use Rattle.std.proofs.lemmas.Option.{same_Some}
use Rattle.ec_base.specs.declared.value.Birth.{Birth}
use Rattle.ec_code.specs.declared.code.Code.{Code}
use Rattle.ec_code.specs.declared.message.Entry.{Entry}
use Rattle.ec_code.specs.declared.message.Entry.TheVariants as e
use Rattle.ec_code.specs.declared.message.Message.{Message}
use Rattle.ec_code.specs.declared.message.Message.TheVariants as m
use Rattle.ec_eu.specs.Entries.{entry, spawned_step}
use Rattle.ec_eu.specs.State.{Exec}
use Rattle.ec_queue.specs.Queues.{taken, taken_at}
use Rattle.ec_slots.specs.declared.slot.Filled.{Filled}
use Rattle.ec_slots.specs.Slots.{filled_by, slot_of, synced}
use Rattle.ec_su.specs.Handle.{SyncUnit, candidates, handle, is_root, readies, starts, syncs, to_peer, with_slots}
use Rattle.ec_world.specs.declared.choice.Act.{Act}
use Rattle.ec_world.specs.declared.choice.Act.TheVariants.{EuReady, EuSpawn, EuEvent, EuHungry, SuEvent, SuNet, SuReady, SuSend}
use Rattle.ec_world.specs.declared.node.Node.{Node}
use Rattle.ec_world.specs.Step.{acts, eu_event, eu_ready, eu_spawn, su_event, su_net, su_ready}
use Rattle.ec_world_laws.specs.Rooted.{IsActive, IsCounted, births_of}
use Rattle.ec_world_laws.proofs.Rooted.Births.{Mark, TakesMark, active_same, marks, numbered, of_births, own_births}
use Rattle.ec_world_laws.proofs.Rooted.Bringing.{Brings, entry_brings, same_as, spawned_brings}
use Rattle.ec_world_laws.proofs.Rooted.Weights.{of_message, of_node, of_row, put_weighs, row_weighs, take_weighs}
use Rattle.ec_world_laws.proofs.Units.Values.{either}
use Rattle.ec_world_laws.proofs.Worlds.Numbered.{tested}

-- ---- one message

abbrev of_su : (Option Birth → ℕ) → SyncUnit → ℕ
of_su h u = sum_by (of_births h) u.ready + of_row (of_births h) u.peers

module _ (h : Option Birth → ℕ) where
  -- a unit that weighs no more than another, and so much
  abbrev Within : SyncUnit → ℕ → SyncUnit → Type 0
  Within u more t = of_su h t ≤ of_su h u + more

  starts_weigh : (frame slot : ℕ) (o : Option Filled) (u : SyncUnit) → Within u 0 (starts frame slot o u)
  starts_weigh frame slot None u = omega arith
  starts_weigh frame slot (Some f) u =
      let a = sum_by_push (of_births h) u.ready (e.Start frame f.fiber slot f.filling) in
      either (Within u 0) (is_root u.node frame slot) u (readies (e.Start frame f.fiber slot f.filling) u) (omega arith) (omega (arith, a))

  syncs_weigh : (frame slot : ℕ) (u : SyncUnit) → Within u 0 (syncs frame slot u)
  syncs_weigh frame slot u =
      starts_weigh frame slot (filled_by (slot_of frame slot u.slots)) (with_slots (synced frame slot u.slots) u)

  peer_weighs : (peer : ℕ) (x : Message) (u : SyncUnit) → Within u (of_message (of_births h) x) (to_peer peer x u)
  peer_weighs peer x u = let a = put_weighs (of_message (of_births h)) u.peers peer x in omega (arith, a)

  handle_weighs : (x : Message) (u : SyncUnit) → Within u (of_message (of_births h) x) (handle x u)
  handle_weighs (m.Init frame slot count reset fiber) u = omega arith
  handle_weighs (m.Incr frame slot) u = omega arith
  handle_weighs (m.Sync to frame slot) u =
      let a = syncs_weigh frame slot (with_slots u.slots u) in
      either (Within u 0) (to == u.node) _ _ a (peer_weighs to (m.Sync to frame slot) (with_slots u.slots u))
  handle_weighs (m.Work to entry) u =
      let a = sum_by_push (of_births h) u.ready entry in
      either (Within u (of_message (of_births h) (m.Work to entry))) (to == u.node) (readies entry (with_slots u.slots u)) _
      (omega (arith, a)) (peer_weighs to (m.Work to entry) (with_slots u.slots u))
  handle_weighs (m.EndFrame frame) u = omega arith

-- ---- one act

abbrev pub node_births : (Option Birth → ℕ) → Node → ℕ
node_births h s = of_node (own_births h) (of_births h) s

-- an act that brings so many births of a frame behind those that it has taken
pub record Moves (s t : Node) : Type 0 where
  pub frame : ℕ
  pub taken : ℕ
  pub count : ℕ
  pub weighs : (h : Option Birth → ℕ) →
      node_births h t ≤ node_births h s + sum_by h (numbered s.eu.memory.node frame taken count)
  pub before : 0 < count → (number : ℕ) → TakesMark number (slice_get (marks s.eu.memory) frame) → number ≤ taken
  pub takes : (j number : ℕ) → TakesMark number (slice_get (marks s.eu.memory) j) → TakesMark number (slice_get (marks t.eu.memory) j)
  pub own : (number : ℕ) → taken < number → number ≤ taken + count → TakesMark number (slice_get (marks t.eu.memory) frame)
  pub births : (j : ℕ) (o : Option Birth) → slice_get s.eu.memory.births.frames j ≡ Some o →
      slice_get t.eu.memory.births.frames j ≡ Some o
  pub source : 0 < count → (o : Option Birth) × (slice_get t.eu.memory.births.frames frame ≡ Some o) ×
      ((o ≡ None) ⊎ (1 ≤ node_births (same_as o) s))
  pub active : IsActive s.eu → IsActive t.eu

-- an act that leaves memory and what frames were made for
pub moves_only : (s t : Node) → t.eu.memory ≡ s.eu.memory → t.eu.activations ≡ s.eu.activations →
    ((h : Option Birth → ℕ) → node_births h t ≤ node_births h s) → Moves s t
moves_only s t n a w = record {
  frame = 0;
  taken = 0;
  count = 0;
  weighs = λ h. let x = w h in omega (arith, x);
  before = λ h number g. absurd (omega (arith, h));
  takes = λ j number h. subst (λ (xs : List Mark). TakesMark number (slice_get xs j)) (sym (ap marks n)) h;
  own = λ number x y. absurd (omega (arith, x, y));
  births = λ j o h. ap (λ k. slice_get k.births.frames j) n ∙ h;
  source = λ h. absurd (omega (arith, h));
  active = active_same s.eu t.eu (ap marks n) a;
}

ready_moves : (code : Code) (q : List Entry) (s t : Node) → s.ready ≡ q → IsCounted s.eu → IsActive s.eu →
    eu_ready code (taken q) s ≡ Some t → Moves s t
ready_moves code [] s t e c a g = cc
ready_moves code (x ∷ rest) s t e c a g =
    let r : Brings (births_of x) s.eu (entry code x s.eu) = entry_brings code x s.eu c a in
    let ready = λ (h : Option Birth → ℕ). ap (sum_by (of_births h)) e ∙ sum_by-cons (of_births h) x rest in
    subst (Moves s) (same_Some _ t g) (record {
      frame = r.frame;
      taken = r.taken;
      count = r.count;
      weighs = λ h. let y = r.weighs h in let z = ready h in omega (arith, y, z);
      before = r.before;
      takes = r.takes;
      own = r.own;
      births = r.births;
      source = λ k.
          let o = r.source k in
          let z = ready (same_as o.0) in
          (o.0, o.1, elim o.2 [ inl y ↦ inl y | inr y ↦ inr (omega (arith, y, z)) ]);
      active = r.active;
    })

spawn_moves : (code : Code) (o : Option Exec) (s t : Node) → spawned_step code s.eu ≡ o → IsCounted s.eu → IsActive s.eu →
    eu_spawn o s ≡ Some t → Moves s t
spawn_moves code None s t e c a g = cc
spawn_moves code (Some u) s t e c a g =
    let r : Brings [] s.eu u = spawned_brings code s.eu.spawned s.eu u c a e in
    subst (Moves s) (same_Some _ t g) (record {
      frame = r.frame;
      taken = r.taken;
      count = r.count;
      weighs = λ h. let y = r.weighs h in omega (arith, y);
      before = r.before;
      takes = r.takes;
      own = r.own;
      births = r.births;
      source = λ k.
          let o = r.source k in (o.0, o.1, elim o.2 [ inl y ↦ inl y | inr y ↦ inr (omega (arith, y)) ]);
      active = r.active;
    })

out_moves : (o : Option (Message × List Message)) (s t : Node) → taken s.eu.outbox ≡ o → eu_event o s ≡ Some t → Moves s t
out_moves None s t e g = cc
out_moves (Some (x, rest)) s t e g = subst (Moves s) (same_Some _ t g) (moves_only s _ refl refl (λ h.
    let a = take_weighs (of_message (of_births h)) s.eu.outbox rest x e in
    let b = sum_by_push (of_message (of_births h)) s.events x in
    omega (arith, a, b)))

event_moves : (pick : ℕ) (o : Option (Message × List Message)) (s t : Node) → taken s.events ≡ o → su_event pick o s ≡ Some t → Moves s t
event_moves pick None s t e g = cc
event_moves pick (Some (x, rest)) s t e g =
    subst (Moves s) (same_Some _ t (tested (nat_lt pick (candidates x s.su)) _ t g)) (moves_only s _ refl refl (λ h.
    let a = take_weighs (of_message (of_births h)) s.events rest x e in
    let b = handle_weighs h x s.su in
    omega (arith, a, b)))

net_moves : (pick peer : ℕ) (o : Option (Message × List (List Message))) (s t : Node) → taken_at peer s.net ≡ o →
    su_net pick o s ≡ Some t → Moves s t
net_moves pick peer None s t e g = cc
net_moves pick peer (Some (x, rest)) s t e g =
    subst (Moves s) (same_Some _ t (tested (nat_lt pick (candidates x s.su)) _ t g)) (moves_only s _ refl refl (λ h.
    let a = row_weighs (of_message (of_births h)) s.net rest peer x e in
    let b = handle_weighs h x s.su in
    omega (arith, a, b)))

moved_moves : (o : Option (Entry × List Entry)) (s t : Node) → taken s.su.ready ≡ o → su_ready o s ≡ Some t → Moves s t
moved_moves None s t e g = cc
moved_moves (Some (x, rest)) s t e g = subst (Moves s) (same_Some _ t g) (moves_only s _ refl refl (λ h.
    let a = take_weighs (of_births h) s.su.ready rest x e in
    let b = sum_by_push (of_births h) s.ready x in
    omega (arith, a, b)))

pub acts_move : (code : Code) (act : Act) (peer pick : ℕ) (s t : Node) → IsCounted s.eu → IsActive s.eu →
    acts code act peer pick s ≡ Some t → Moves s t
acts_move code EuReady peer pick s t c a g = ready_moves code s.ready s t refl c a (tested (is_none s.eu.trap) _ t g)
acts_move code EuSpawn peer pick s t c a g =
    spawn_moves code (spawned_step code s.eu) s t refl c a (tested (is_none s.eu.trap) _ t g)
acts_move code EuEvent peer pick s t c a g = out_moves (taken s.eu.outbox) s t refl g
acts_move code EuHungry peer pick s t c a g = cc
acts_move code SuEvent peer pick s t c a g = event_moves pick (taken s.events) s t refl g
acts_move code SuNet peer pick s t c a g = net_moves pick peer (taken_at peer s.net) s t refl g
acts_move code SuReady peer pick s t c a g = moved_moves (taken s.su.ready) s t refl g
acts_move code SuSend peer pick s t c a g = cc
