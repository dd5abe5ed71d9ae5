-- Acts leave a node in place.
use Rattle.std.proofs.Common.{◌≡◌, ◌<◌, ◌∙◌, ℕ, true, List, [], ◌∷◌, refl, Option, Some, None, slice_get, subst}
use Rattle.std.specs.Prelude.{is_none, nat_lt}
use Rattle.std.specs.List.{All}
use Rattle.std.proofs.lemmas.List.{length-replicate}
use Rattle.std.proofs.lemmas.List.Elements.{All-nil, All-head, All-tail, All-push, All-replicate}
use Rattle.std.proofs.lemmas.Option.{same_Some}
use Rattle.ec_code.specs.declared.code.Code.{Code}
use Rattle.ec_code.specs.declared.message.Entry.{Entry}
use Rattle.ec_code.specs.declared.message.Message.{Message}
use Rattle.ec_code.specs.InPlace.{IsEntry, IsMessage}
use Rattle.ec_code.specs.Valid.{valid}
use Rattle.ec_eu.specs.Entries.{spawned_step}
use Rattle.ec_world_laws.specs.Units.{IsPlaced}
use Rattle.ec_eu.specs.State.{Exec}
use Rattle.ec_world_laws.proofs.Units.Entries.{entries_stay_placed, new_placed, spawned_stay_placed}
use Rattle.ec_queue.specs.Queues.{put_at, taken, taken_at}
use Rattle.ec_su.specs.Handle.{candidates}
use Rattle.ec_world.specs.declared.choice.Act.{Act}
use Rattle.ec_world.specs.declared.choice.Act.TheVariants.{EuReady, EuSpawn, EuEvent, EuHungry, SuEvent, SuNet, SuReady, SuSend}
use Rattle.ec_world.specs.declared.node.Node.{Node}
use Rattle.ec_world_laws.specs.Worlds.{AllNumbered, AreFor, IsFor, IsPlacedNode}
use Rattle.ec_world.specs.Run.{fresh_node}
use Rattle.ec_world.specs.Step.{acts, eu_event, eu_ready, eu_spawn, su_event, su_net, su_ready, with_peers}
use Rattle.ec_world_laws.proofs.Worlds.Numbered.{Took, all_from_numbered, numbered_from_all, put_at_all, put_to_long, tested, took_at}
use Rattle.ec_world_laws.proofs.Worlds.Units.{handle_placed, new_unit_placed}

module _ (n node : ℕ) where
  -- the node with another execution unit
  ran : (u : Exec) (s : Node) → IsPlaced n u → IsPlacedNode n node s → IsPlacedNode n node (record s { eu = u })
  ran u s h p =
      record { eu = h; su = p.su; ready = p.ready; events = p.events; count = p.count; net = p.net }

  -- ---- acts of the execution unit

  ready_placed : (code : Code) (q : List Entry) (s t : Node) → valid code ≡ true → All (IsEntry n) q → IsPlacedNode n node s →
      eu_ready code (taken q) s ≡ Some t → IsPlacedNode n node t
  ready_placed code [] s t v h p e = cc
  ready_placed code (x ∷ rest) s t v h p e = subst (IsPlacedNode n node) (same_Some _ t e) (record {
    eu = entries_stay_placed n code x s.eu v (All-head (IsEntry n) x rest h) p.eu;
    su = p.su;
    ready = All-tail (IsEntry n) x rest h;
    events = p.events;
    count = p.count;
    net = p.net;
  })

  spawn_placed : (o : Option Exec) (s t : Node) → ((u : Exec) → o ≡ Some u → IsPlaced n u) → IsPlacedNode n node s →
      eu_spawn o s ≡ Some t → IsPlacedNode n node t
  spawn_placed None s t h p e = cc
  spawn_placed (Some u) s t h p e = subst (IsPlacedNode n node) (same_Some _ t e) (ran u s (h u refl) p)

  out_placed : (q : List Message) (s t : Node) → All (IsMessage n) q → IsPlacedNode n node s → eu_event (taken q) s ≡ Some t →
      IsPlacedNode n node t
  out_placed [] s t h p e = cc
  out_placed (x ∷ rest) s t h p e = subst (IsPlacedNode n node) (same_Some _ t e) (record {
    eu = record {
      node = p.eu.node;
      nodes = p.eu.nodes;
      cells = p.eu.cells;
      blocks = p.eu.blocks;
      callers = p.eu.callers;
      outbox = All-tail (IsMessage n) x rest h;
    };
    su = p.su;
    ready = p.ready;
    events = All-push (IsMessage n) s.events x p.events (All-head (IsMessage n) x rest h);
    count = p.count;
    net = p.net;
  })

  -- ---- acts of the synchronisation unit

  event_placed : (pick : ℕ) (q : List Message) (s t : Node) → All (IsMessage n) q → IsPlacedNode n node s →
      su_event pick (taken q) s ≡ Some t → IsPlacedNode n node t
  event_placed pick [] s t h p e = cc
  event_placed pick (x ∷ rest) s t h p e =
      subst (IsPlacedNode n node) (same_Some _ t (tested (nat_lt pick (candidates x s.su)) _ t e)) (record {
        eu = p.eu;
        su = handle_placed n node x s.su (All-head (IsMessage n) x rest h) p.su;
        ready = p.ready;
        events = All-tail (IsMessage n) x rest h;
        count = p.count;
        net = p.net;
      })

  net_placed : (pick peer : ℕ) (o : Option (Message × List (List Message))) (s t : Node) → taken_at peer s.net ≡ o →
      IsPlacedNode n node s → su_net pick o s ≡ Some t → IsPlacedNode n node t
  net_placed pick peer None s t g p e = cc
  net_placed pick peer (Some (x, rest)) s t g p e =
      let all : AllNumbered (λ k. AreFor n node) s.net = numbered_from_all (AreFor n node) s.net p.net in
      let took : Took (λ k. IsFor n node) peer x s.net rest = took_at (λ k. IsFor n node) peer x s.net rest all g in
      subst (IsPlacedNode n node) (same_Some _ t (tested (nat_lt pick (candidates x s.su)) _ t e)) (record {
        eu = p.eu;
        su = handle_placed n node x s.su took.item.0 p.su;
        ready = p.ready;
        events = p.events;
        count = took.count ∙ p.count;
        net = all_from_numbered (AreFor n node) rest took.left;
      })

  moved_placed : (q : List Entry) (s t : Node) → All (IsEntry n) q → IsPlacedNode n node s → su_ready (taken q) s ≡ Some t →
      IsPlacedNode n node t
  moved_placed [] s t h p e = cc
  moved_placed (x ∷ rest) s t h p e = subst (IsPlacedNode n node) (same_Some _ t e) (record {
    eu = p.eu;
    su = record { number = p.su.number; ready = All-tail (IsEntry n) x rest h; count = p.su.count; peers = p.su.peers };
    ready = All-push (IsEntry n) s.ready x p.ready (All-head (IsEntry n) x rest h);
    events = p.events;
    count = p.count;
    net = p.net;
  })

  -- ---- the table

  pub acts_placed : (code : Code) (act : Act) (peer pick : ℕ) (s t : Node) → valid code ≡ true → IsPlacedNode n node s →
      acts code act peer pick s ≡ Some t → IsPlacedNode n node t
  acts_placed code EuReady peer pick s t v p e =
      ready_placed code s.ready s t v p.ready p (tested (is_none s.eu.trap) _ t e)
  acts_placed code EuSpawn peer pick s t v p e =
      spawn_placed (spawned_step code s.eu) s t (λ u h. spawned_stay_placed n code s.eu u v p.eu h) p
      (tested (is_none s.eu.trap) _ t e)
  acts_placed code EuEvent peer pick s t v p e = out_placed s.eu.outbox s t p.eu.outbox p e
  acts_placed code EuHungry peer pick s t v p e = cc
  acts_placed code SuEvent peer pick s t v p e = event_placed pick s.events s t p.events p e
  acts_placed code SuNet peer pick s t v p e = net_placed pick peer (taken_at peer s.net) s t refl p e
  acts_placed code SuReady peer pick s t v p e = moved_placed s.su.ready s t p.su.ready p e
  acts_placed code SuSend peer pick s t v p e = cc

  -- ---- messages between nodes

  -- the node without a message for a peer
  pub sent_placed : (peer : ℕ) (x : Message) (rest : List (List Message)) (s : Node) → Took (IsFor n) peer x s.su.peers rest →
      IsPlacedNode n node s → IsPlacedNode n node (record s { su = with_peers rest s.su })
  sent_placed peer x rest s took p = record {
    eu = p.eu;
    su = record { number = p.su.number; ready = p.su.ready; count = took.count ∙ p.su.count; peers = took.left };
    ready = p.ready;
    events = p.events;
    count = p.count;
    net = p.net;
  }

  -- the node with a message more from a peer
  pub got_placed : (from : ℕ) (x : Message) (s : Node) → IsFor n node x → IsPlacedNode n node s →
      IsPlacedNode n node (record s { net = put_at from x s.net })
  got_placed from x s h p = record {
    eu = p.eu;
    su = p.su;
    ready = p.ready;
    events = p.events;
    count = put_to_long (slice_get s.net from) from x s.net ∙ p.count;
    net = put_at_all (IsFor n node) from x s.net p.net h;
  }

  -- ---- the start

  pub fresh_placed : (ready : List Entry) → node < n → All (IsEntry n) ready → IsPlacedNode n node (fresh_node n node ready)
  fresh_placed ready l h = record {
    eu = new_placed n node l;
    su = new_unit_placed n node;
    ready = h;
    events = All-nil (IsMessage n);
    count = length-replicate n [];
    net = All-replicate (AreFor n node) n [] (All-nil (IsFor n node));
  }
