-- Acts of nodes name only what is there.
use Rattle.std.proofs.Common.{◌≡◌, ◌≤◌, ◌∙◌, ℕ, List, [], ◌∷◌, length, refl, Option, Some, None, subst, arith}
use Rattle.std.specs.Prelude.{◌==◌, is_none, nat_lt}
use Rattle.std.specs.List.{All}
use Rattle.std.proofs.lemmas.List.Elements.{All-nil, All-cons, All-head, All-tail, All-push, All-replicate}
use Rattle.std.proofs.lemmas.Option.{same_Some}
use Rattle.ec_code.specs.declared.code.Code.{Code}
use Rattle.ec_code.specs.declared.message.Entry.{Entry}
use Rattle.ec_code.specs.declared.message.Entry.TheVariants as e
use Rattle.ec_code.specs.declared.message.Message.{Message}
use Rattle.ec_code.specs.declared.message.Message.TheVariants as m
use Rattle.ec_eu.specs.Entries.{entry, spawned_step}
use Rattle.ec_eu.specs.State.{Exec}
use Rattle.ec_queue.specs.Queues.{put_at, taken, taken_at}
use Rattle.ec_slots.specs.declared.slot.Filled.{Filled}
use Rattle.ec_slots.specs.Slots.{filled_by, slot_of, synced}
use Rattle.ec_su.specs.Handle.{SyncUnit, candidates, handle, is_root, readies, starts, syncs, to_peer, with_slots}
use Rattle.ec_world.specs.declared.choice.Act.{Act}
use Rattle.ec_world.specs.declared.choice.Act.TheVariants.{EuReady, EuSpawn, EuEvent, EuHungry, SuEvent, SuNet, SuReady, SuSend}
use Rattle.ec_world.specs.declared.node.Node.{Node}
use Rattle.ec_world.specs.Run.{fresh_node}
use Rattle.ec_world.specs.Step.{acts, eu_event, eu_ready, eu_spawn, su_event, su_net, su_ready, with_peers}
use Rattle.ec_world_laws.specs.Rooted.{HasValues, IsCaller, IsCounted, IsEntry, IsMessage, IsNamedNode, IsValue, Made}
use Rattle.ec_world_laws.proofs.Rooted.Entries.{entry_runs, spawned_runs}
use Rattle.ec_world_laws.proofs.Rooted.Runs.{Covers, Runs}
use Rattle.ec_world_laws.proofs.Units.Values.{either}
use Rattle.ec_world_laws.proofs.Worlds.Numbered.{Took, all_from_numbered, numbered_from_all, put_at_all, tested, took_at}

-- ---- synchronisation units

abbrev pub AreNamed : Made → List Message → Type 0
AreNamed made queue = All (IsMessage made) queue

-- what a synchronisation unit holds names only what is there
abbrev pub HoldsNamed : Made → SyncUnit → Type 0
HoldsNamed made u = All (IsEntry made) u.ready × All (AreNamed made) u.peers

module _ (made : Made) where
  readies_named : (x : Entry) (u : SyncUnit) → IsEntry made x → HoldsNamed made u → HoldsNamed made (readies x u)
  readies_named x u h p = (All-push (IsEntry made) u.ready x p.0 h, p.1)

  to_peer_named : (peer : ℕ) (x : Message) (u : SyncUnit) → IsMessage made x → HoldsNamed made u → HoldsNamed made (to_peer peer x u)
  to_peer_named peer x u h p = (p.0, put_at_all (IsMessage made) peer x u.peers p.1 h)

  starts_named : (frame slot : ℕ) (o : Option Filled) (u : SyncUnit) → HoldsNamed made u → HoldsNamed made (starts frame slot o u)
  starts_named frame slot None u p = p
  starts_named frame slot (Some f) u p =
      either (HoldsNamed made) (is_root u.node frame slot) _ _ p (readies_named (e.Start frame f.fiber slot f.filling) u tt p)

  syncs_named : (frame slot : ℕ) (u : SyncUnit) → HoldsNamed made u → HoldsNamed made (syncs frame slot u)
  syncs_named frame slot u p =
      starts_named frame slot (filled_by (slot_of frame slot u.slots)) (with_slots (synced frame slot u.slots) u) p

  handle_named : (x : Message) (u : SyncUnit) → IsMessage made x → HoldsNamed made u → HoldsNamed made (handle x u)
  handle_named (m.Init frame slot count reset fiber) u h p = p
  handle_named (m.Incr frame slot) u h p = p
  handle_named (m.Sync to frame slot) u h p =
      either (HoldsNamed made) (to == u.node) _ _ (syncs_named frame slot (with_slots u.slots u) p)
      (to_peer_named to (m.Sync to frame slot) (with_slots u.slots u) h p)
  handle_named (m.Work to entry) u h p =
      either (HoldsNamed made) (to == u.node) _ _ (readies_named entry (with_slots u.slots u) h p)
      (to_peer_named to (m.Work to entry) (with_slots u.slots u) h p)
  handle_named (m.EndFrame frame) u h p = p

-- ---- one act

-- a unit that is at the same node, and has made no less
pub record IsLater (u t : Exec) : Type 0 where
  pub node : t.memory.node ≡ u.memory.node
  pub frames : length u.memory.frames ≤ length t.memory.frames
  pub blocks : length u.memory.blocks ≤ length t.memory.blocks

same_unit : (u : Exec) → IsLater u u
same_unit u = record { node = refl; frames = omega arith; blocks = omega arith }

later : (Given : Made → Type 0) (u t : Exec) → Runs Given u t → IsLater u t
later Given u t r = record { node = r.node; frames = r.frames; blocks = r.blocks }

-- a node that comes to another: its execution unit has made no less, and what it names is there
pub record Leads (node : ℕ) (s t : Node) : Type 0 where
  pub eu : IsLater s.eu t.eu
  pub named : (made : Made) → Covers made t.eu → IsNamedNode made node s → IsNamedNode made node t

module _ (node : ℕ) where
  -- ---- acts of the execution unit

  ready_leads : (code : Code) (q : List Entry) (s t : Node) → s.ready ≡ q → IsCounted s.eu → eu_ready code (taken q) s ≡ Some t →
      Leads node s t
  ready_leads code [] s t a c h = cc
  ready_leads code (x ∷ rest) s t a c h =
      let r : Runs (λ made. IsEntry made x) s.eu (entry code x s.eu) = entry_runs code x s.eu c in
      subst (Leads node s) (same_Some _ t h) (record {
        eu = later _ s.eu (entry code x s.eu) r;
        named = λ made d p.
            let all : All (IsEntry made) (x ∷ rest) = subst (λ xs. All (IsEntry made) xs) a p.ready in
            record {
              number = r.node ∙ p.number;
              counts = r.counts p.counts;
              eu = r.naming made d (All-head (IsEntry made) x rest all) p.eu;
              su_ready = p.su_ready;
              peers = p.peers;
              ready = All-tail (IsEntry made) x rest all;
              events = p.events;
              net = p.net;
            };
      })

  spawn_leads : (code : Code) (o : Option Exec) (s t : Node) → spawned_step code s.eu ≡ o → IsCounted s.eu → eu_spawn o s ≡ Some t →
      Leads node s t
  spawn_leads code None s t a c h = cc
  spawn_leads code (Some u) s t a c h =
      let r : Runs (λ made. Unit {0}) s.eu u = spawned_runs (λ made. Unit {0}) code s.eu.spawned s.eu u c a in
      subst (Leads node s) (same_Some _ t h) (record {
        eu = later _ s.eu u r;
        named = λ made d p. record {
          number = r.node ∙ p.number;
          counts = r.counts p.counts;
          eu = r.naming made d tt p.eu;
          su_ready = p.su_ready;
          peers = p.peers;
          ready = p.ready;
          events = p.events;
          net = p.net;
        };
      })

  out_leads : (q : List Message) (s t : Node) → s.eu.outbox ≡ q → eu_event (taken q) s ≡ Some t → Leads node s t
  out_leads [] s t a h = cc
  out_leads (x ∷ rest) s t a h = subst (Leads node s) (same_Some _ t h) (record {
    eu = record { node = refl; frames = omega arith; blocks = omega arith };
    named = λ made d p.
        let all : AreNamed made (x ∷ rest) = subst (AreNamed made) a p.eu.outbox in
        record {
          number = p.number;
          counts =
              record { first = p.counts.first; frames = p.counts.frames; blocks = p.counts.blocks; activations = p.counts.activations };
          eu = record {
            cells = p.eu.cells;
            blocks = p.eu.blocks;
            callers = p.eu.callers;
            outbox = All-tail (IsMessage made) x rest all;
          };
          su_ready = p.su_ready;
          peers = p.peers;
          ready = p.ready;
          events = All-push (IsMessage made) s.events x p.events (All-head (IsMessage made) x rest all);
          net = p.net;
        };
  })

  -- ---- acts of the synchronisation unit

  event_leads : (pick : ℕ) (q : List Message) (s t : Node) → s.events ≡ q → su_event pick (taken q) s ≡ Some t → Leads node s t
  event_leads pick [] s t a h = cc
  event_leads pick (x ∷ rest) s t a h =
      subst (Leads node s) (same_Some _ t (tested (nat_lt pick (candidates x s.su)) _ t h)) (record {
        eu = same_unit s.eu;
        named = λ made d p.
            let all : AreNamed made (x ∷ rest) = subst (AreNamed made) a p.events in
            let su = handle_named made x s.su (All-head (IsMessage made) x rest all) (p.su_ready, p.peers) in
            record {
              number = p.number;
              counts = p.counts;
              eu = p.eu;
              su_ready = su.0;
              peers = su.1;
              ready = p.ready;
              events = All-tail (IsMessage made) x rest all;
              net = p.net;
            };
      })

  -- of messages in rings, the one that was taken, and those that are left
  took_named : (made : Made) (at : ℕ) (x : Message) (qs rest : List (List Message)) → All (AreNamed made) qs →
      taken_at at qs ≡ Some (x, rest) → IsMessage made x × All (AreNamed made) rest
  took_named made at x qs rest all h =
      let took : Took (λ k. IsMessage made) at x qs rest =
      took_at (λ k. IsMessage made) at x qs rest (numbered_from_all (AreNamed made) qs all) h in
      (took.item, all_from_numbered (AreNamed made) rest took.left)

  net_leads : (pick peer : ℕ) (o : Option (Message × List (List Message))) (s t : Node) → taken_at peer s.net ≡ o →
      su_net pick o s ≡ Some t → Leads node s t
  net_leads pick peer None s t a h = cc
  net_leads pick peer (Some (x, rest)) s t a h =
      subst (Leads node s) (same_Some _ t (tested (nat_lt pick (candidates x s.su)) _ t h)) (record {
        eu = same_unit s.eu;
        named = λ made d p.
            let took = took_named made peer x s.net rest p.net a in
            let su = handle_named made x s.su took.0 (p.su_ready, p.peers) in
            record {
              number = p.number;
              counts = p.counts;
              eu = p.eu;
              su_ready = su.0;
              peers = su.1;
              ready = p.ready;
              events = p.events;
              net = took.1;
            };
      })

  moved_leads : (q : List Entry) (s t : Node) → s.su.ready ≡ q → su_ready (taken q) s ≡ Some t → Leads node s t
  moved_leads [] s t a h = cc
  moved_leads (x ∷ rest) s t a h = subst (Leads node s) (same_Some _ t h) (record {
    eu = same_unit s.eu;
    named = λ made d p.
        let all : All (IsEntry made) (x ∷ rest) = subst (λ xs. All (IsEntry made) xs) a p.su_ready in
        record {
          number = p.number;
          counts = p.counts;
          eu = p.eu;
          su_ready = All-tail (IsEntry made) x rest all;
          peers = p.peers;
          ready = All-push (IsEntry made) s.ready x p.ready (All-head (IsEntry made) x rest all);
          events = p.events;
          net = p.net;
        };
  })

  -- ---- the table

  pub acts_lead : (code : Code) (act : Act) (peer pick : ℕ) (s t : Node) → IsCounted s.eu → acts code act peer pick s ≡ Some t →
      Leads node s t
  acts_lead code EuReady peer pick s t c h = ready_leads code s.ready s t refl c (tested (is_none s.eu.trap) _ t h)
  acts_lead code EuSpawn peer pick s t c h =
      spawn_leads code (spawned_step code s.eu) s t refl c (tested (is_none s.eu.trap) _ t h)
  acts_lead code EuEvent peer pick s t c h = out_leads s.eu.outbox s t refl h
  acts_lead code EuHungry peer pick s t c h = cc
  acts_lead code SuEvent peer pick s t c h = event_leads pick s.events s t refl h
  acts_lead code SuNet peer pick s t c h = net_leads pick peer (taken_at peer s.net) s t refl h
  acts_lead code SuReady peer pick s t c h = moved_leads s.su.ready s t refl h
  acts_lead code SuSend peer pick s t c h = cc

  -- ---- messages between nodes

  -- the message that was taken for a peer, and the node without it
  pub sent_named : (made : Made) (peer : ℕ) (x : Message) (rest : List (List Message)) (s : Node) →
      taken_at peer s.su.peers ≡ Some (x, rest) → IsNamedNode made node s →
      IsMessage made x × IsNamedNode made node (record s { su = with_peers rest s.su })
  sent_named made peer x rest s a p =
      let took = took_named made peer x s.su.peers rest p.peers a in (
        took.0,
        record {
          number = p.number;
          counts = p.counts;
          eu = p.eu;
          su_ready = p.su_ready;
          peers = took.1;
          ready = p.ready;
          events = p.events;
          net = p.net;
        },
      )

  -- the node with a message more from a peer
  pub got_named : (made : Made) (from : ℕ) (x : Message) (s : Node) → IsMessage made x → IsNamedNode made node s →
      IsNamedNode made node (record s { net = put_at from x s.net })
  got_named made from x s h p = record {
    number = p.number;
    counts = p.counts;
    eu = p.eu;
    su_ready = p.su_ready;
    peers = p.peers;
    ready = p.ready;
    events = p.events;
    net = put_at_all (IsMessage made) from x s.net p.net h;
  }

  -- ---- the start

  pub fresh_named : (made : Made) (n : ℕ) (ready : List Entry) → All (IsEntry made) ready →
      IsNamedNode made node (fresh_node n node ready)
  fresh_named made n ready h = record {
    number = refl;
    counts = record { first = refl; frames = refl; blocks = refl; activations = refl };
    eu = record {
      cells =
          All-cons (HasValues made) _ [] (All-cons (IsValue made) _ [] tt (All-nil (IsValue made))) (All-nil (HasValues made));
      blocks = All-nil (λ cells. All (IsValue made) cells);
      callers = All-cons (IsCaller made) None [] tt (All-nil (IsCaller made));
      outbox = All-nil (IsMessage made);
    };
    su_ready = All-nil (IsEntry made);
    peers = All-replicate (AreNamed made) n [] (All-nil (IsMessage made));
    ready = h;
    events = All-nil (IsMessage made);
    net = All-replicate (AreNamed made) n [] (All-nil (IsMessage made));
  }
