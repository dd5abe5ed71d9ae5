-- The start is rooted, and each step of a rooted world leads to one.
use Rattle.std.proofs.Common.{◌≡◌, ◌≤◌, ◌-◌, ◌∙◌, mul-zero, ℕ, zero, suc, Bool, true, false, cond, List, [], ◌∷◌, replicate, refl, Option, Some, None, slice_get, slice_set, subst, arith, ℤ}
use Rattle.std.specs.Prelude.{is_none}
use Rattle.std.specs.List.{All, sum_by}
use Rattle.std.proofs.lemmas.List.Elements.{All-nil, All-cons, All-set}
use Rattle.std.proofs.lemmas.List.Sums.{sum_by-cons}
use Rattle.std.proofs.lemmas.List.Folds.{sum_by-replicate}
use Rattle.std.proofs.lemmas.Option.{same_Some}
use Rattle.ec_base.specs.declared.value.Birth.{Birth}
use Rattle.ec_code.specs.declared.code.Code.{Code}
use Rattle.ec_code.specs.declared.message.Entry.{Entry}
use Rattle.ec_code.specs.declared.message.Entry.TheVariants as e
use Rattle.ec_code.specs.declared.message.Message.{Message}
use Rattle.ec_queue.specs.Queues.{put_at, taken_at}
use Rattle.ec_world.specs.declared.choice.Choice.{Choice}
use Rattle.ec_world.specs.declared.node.Node.{Node}
use Rattle.ec_world.specs.Run.{fresh_node, fresh_nodes, main_call, start}
use Rattle.ec_world.specs.Step.{Machine, acts, acts_at, arrives_in, at_node, is_send, named, sends, sends_of, sends_on, with_nodes, with_peers}
use Rattle.ec_world_laws.specs.Rooted.{IsActive, IsBirth, IsNamed, LeadsBack, StartIsRooted, StepsStayRooted, births_in, is_birth, root}
use Rattle.ec_world_laws.proofs.Rooted.Births.{of_births}
use Rattle.ec_world_laws.proofs.Rooted.Forest.{BornIn, Changes, TakesIn, acted_changes, births_weigh, kept_set, stays_rooted}
use Rattle.ec_world_laws.proofs.Rooted.Moves.{acts_move, node_births}
use Rattle.ec_world_laws.proofs.Rooted.Same.{all_fewer, weight}
use Rattle.ec_world_laws.proofs.Rooted.Weights.{of_message, of_queue, of_row, put_weighs, row_weighs, sum_set}
use Rattle.ec_world_laws.proofs.Rooted.Worlds.{start_is_named, steps_stay_named}
use Rattle.ec_world_laws.proofs.Units.Values.{all_at}
use Rattle.ec_world_laws.proofs.Worlds.Numbered.{tested}

abbrev AreActive : List Node → Type 0
AreActive w = All (λ s. IsActive s.eu) w

-- ---- one act

at_changes : (code : Code) (c : Choice) (s : Node) (o : Option Node) (w v : Machine) → slice_get w.nodes c.node ≡ Some s →
    acts code c.act c.peer c.pick s ≡ o → IsNamed w.nodes → AreActive w.nodes → at_node c.node o w ≡ Some v → Changes w.nodes v.nodes
at_changes code c s None w v a h n l g = cc
at_changes code c s (Some t) w v a h n l g =
    let here = n c.node s a in
    subst (λ (z : Machine). Changes w.nodes z.nodes) (same_Some _ v g)
    (acted_changes w.nodes c.node s t a here.number
    (acts_move code c.act c.peer c.pick s t here.counts (all_at (λ x. IsActive x.eu) w.nodes c.node s l a) h) l)

acted : (code : Code) (c : Choice) (o : Option Node) (w v : Machine) → slice_get w.nodes c.node ≡ o → IsNamed w.nodes →
    AreActive w.nodes → acts_at code c o w ≡ Some v → Changes w.nodes v.nodes
acted code c None w v a n l g = cc
acted code c (Some s) w v a n l g = at_changes code c s (acts code c.act c.peer c.pick s) w v a refl n l g

-- ---- a message to a peer

module _ (me peer : ℕ) (x : Message) (rest : List (List Message)) (s t : Node) (w : List Node) where
  abbrev left : Node
  left = record s { su = with_peers rest s.su }

  abbrev sent : List Node
  sent = slice_set w me left

  abbrev got : Node
  got = record t { net = put_at me x t.net }

  sent_changes : slice_get w me ≡ Some s → taken_at peer s.su.peers ≡ Some (x, rest) → slice_get sent peer ≡ Some t → AreActive w →
      Changes w (slice_set sent peer got)
  sent_changes a h b l =
      let left_active : AreActive sent = All-set (λ n. IsActive n.eu) w me left (all_at (λ n. IsActive n.eu) w me s l a) l in
      record {
        node = 0;
        frame = 0;
        taken = 0;
        count = 0;
        weighs = λ f.
            let p = sum_set (node_births f) w me s left a in
            let q = sum_set (node_births f) sent peer t got b in
            let y = row_weighs (of_message (of_births f)) s.su.peers rest peer x h in
            let z = put_weighs (of_message (of_births f)) t.net me x in
            omega (arith, p, q, y, z);
        before = λ c number g. absurd (omega (arith, c));
        takes = λ k j number g.
            kept_set (TakesIn j number) sent peer t got b (λ y. y) k (kept_set (TakesIn j number) w me s left a (λ y. y) k g);
        own = λ number y z. absurd (omega (arith, y, z));
        births = λ k j o g. kept_set (BornIn j o) sent peer t got b (λ y. y) k (kept_set (BornIn j o) w me s left a (λ y. y) k g);
        source = λ c. absurd (omega (arith, c));
        active = All-set (λ n. IsActive n.eu) sent peer got (all_at (λ n. IsActive n.eu) sent peer t left_active b) left_active;
      }

arrives : (me peer : ℕ) (x : Message) (rest : List (List Message)) (s : Node) (o : Option Node) (w v : List Node) →
    slice_get w me ≡ Some s → taken_at peer s.su.peers ≡ Some (x, rest) →
    slice_get (slice_set w me (record s { su = with_peers rest s.su })) peer ≡ o → AreActive w →
    arrives_in me x peer o (slice_set w me (record s { su = with_peers rest s.su })) ≡ Some v → Changes w v
arrives me peer x rest s None w v a h b l g = cc
arrives me peer x rest s (Some t) w v a h b l g = subst (Changes w) (same_Some _ v g) (sent_changes me peer x rest s t w a h b l)

sends_of_changes : (me peer : ℕ) (o : Option (Message × List (List Message))) (s : Node) (w v : List Node) → slice_get w me ≡ Some s →
    taken_at peer s.su.peers ≡ o → AreActive w → sends_of me peer o s w ≡ Some v → Changes w v
sends_of_changes me peer None s w v a h l g = cc
sends_of_changes me peer (Some (x, rest)) s w v a h l g =
    arrives me peer x rest s (slice_get (slice_set w me (record s { su = with_peers rest s.su })) peer) w v a h refl l g

sends_changes : (me peer : ℕ) (o : Option Node) (w v : List Node) → slice_get w me ≡ o → AreActive w → sends me peer o w ≡ Some v →
    Changes w v
sends_changes me peer None w v a l g = cc
sends_changes me peer (Some s) w v a l g = sends_of_changes me peer (taken_at peer s.su.peers) s w v a refl l g

with_nodes_changes : (o : Option (List Node)) (w v : Machine) → ((nodes : List Node) → o ≡ Some nodes → Changes w.nodes nodes) →
    with_nodes o w ≡ Some v → Changes w.nodes v.nodes
with_nodes_changes None w v h g = cc
with_nodes_changes (Some nodes) w v h g = subst (λ (z : Machine). Changes w.nodes z.nodes) (same_Some _ v g) (h nodes refl)

-- ---- any choice

changes : (code : Code) (c : Choice) (b : Bool) (w v : Machine) → IsNamed w.nodes → AreActive w.nodes →
    cond b (sends_on c.node c.peer w) (acts_at code c (slice_get w.nodes c.node) w) ≡ Some v → Changes w.nodes v.nodes
changes code c true w v n l g =
    with_nodes_changes (sends c.node c.peer (slice_get w.nodes c.node) w.nodes) w v
    (λ nodes h. sends_changes c.node c.peer (slice_get w.nodes c.node) w.nodes nodes refl l h) g
changes code c false w v n l g = acted code c (slice_get w.nodes c.node) w v refl n l g

pub steps_stay_rooted : StepsStayRooted
steps_stay_rooted code c w v r g =
    stays_rooted w.nodes v.nodes r (changes code c (is_send c.act) w v r.named r.active (tested (named c w.nodes) _ v g))
    (steps_stay_named code c w v r.named g)

-- ---- the start

empty_row : (h : Option Birth → ℕ) (n : ℕ) → of_row (of_births h) (replicate n []) ≡ 0
empty_row h n = sum_by-replicate (of_queue (of_births h)) n [] ∙ mul-zero n

fresh_weighs : (h : Option Birth → ℕ) (n node : ℕ) (ready : List Entry) →
    node_births h (fresh_node n node ready) ≡ sum_by (of_births h) ready
fresh_weighs h n node ready = let a = empty_row h n in omega (arith, a)

fresh_nodes_weigh : (h : Option Birth → ℕ) (n node count : ℕ) → sum_by (node_births h) (fresh_nodes n node count) ≡ 0
fresh_nodes_weigh h n node zero = refl
fresh_nodes_weigh h n node (suc count) =
    let a = sum_by-cons (node_births h) (fresh_node n node []) (fresh_nodes n (suc node) count) in
    let b = fresh_weighs h n node [] in
    let c = fresh_nodes_weigh h n (suc node) count in
    omega (arith, a, b, c)

fresh_active : (n node : ℕ) (ready : List Entry) → IsActive (fresh_node n node ready).eu
fresh_active n node ready zero h = absurd (cc)
fresh_active n node ready (suc k) h = absurd (cc)

fresh_nodes_active : (n node count : ℕ) → AreActive (fresh_nodes n node count)
fresh_nodes_active n node zero = All-nil (λ s. IsActive s.eu)
fresh_nodes_active n node (suc count) =
    All-cons (λ s. IsActive s.eu) (fresh_node n node []) (fresh_nodes n (suc node) count) (fresh_active n node [])
    (fresh_nodes_active n (suc node) count)

start_births : (code : Code) (n : ℕ) (args : List ℤ) (h : Option Birth → ℕ) →
    sum_by h (births_in (start code n args).nodes) ≤ sum_by h (None ∷ [])
start_births code n args h =
    let first : List Entry = e.Enter (main_call code args) ∷ [] in
    let a = births_weigh h (start code n args).nodes in
    let b = sum_by-cons (node_births h) (fresh_node n 0 first) (fresh_nodes n 1 (n - 1)) in
    let c = fresh_weighs h n 0 first in
    let d = fresh_nodes_weigh h n 1 (n - 1) in
    omega (arith, a, b, c, d)

pub start_is_rooted : StartIsRooted
start_is_rooted code n args =
    let w : List Node = (start code n args).nodes in
    let fewer = start_births code n args in
    record {
      named = start_is_named code n args;
      active =
          All-cons (λ s. IsActive s.eu) (fresh_node n 0 (e.Enter (main_call code args) ∷ [])) (fresh_nodes n 1 (n - 1))
          (fresh_active n 0 (e.Enter (main_call code args) ∷ [])) (fresh_nodes_active n 1 (n - 1));
      births = all_fewer (IsBirth w) (None ∷ []) (births_in w) fewer (All-cons (IsBirth w) None [] tt (All-nil (IsBirth w)));
      apart = λ b. let k = fewer (λ o. weight (is_birth b o)) in omega (arith, k);
      lead_back = all_fewer (LeadsBack w) (None ∷ []) (births_in w) fewer (All-cons (LeadsBack w) None [] root (All-nil (LeadsBack w)));
      root = let k = fewer (λ o. weight (is_none o)) in omega (arith, k);
    }
