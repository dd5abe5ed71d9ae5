-- Every act of the one node, and every list of choices.
use Rattle.std.proofs.Common.{◌≡◌, ℕ, zero, suc, ◌==◌, ◌&&◌, Bool, true, false, not, List, [], ◌∷◌, Option, Some, None, is_some, refl, subst, slice_get}
use Rattle.std.proofs.lemmas.Bool.{and_parts}
use Rattle.std.specs.Prelude.{if◌then◌else◌, ℤ}
use Rattle.ec_core.specs.declared.choice.Act.{Act}
use Rattle.ec_core.specs.declared.choice.Act.TheVariants.{EuReady, EuSpawn, EuEvent, EuHungry, SuEvent, SuNet, SuReady, SuSend}
use Rattle.ec_core.specs.declared.choice.Choice.{Choice}
use Rattle.ec_core.specs.declared.message.Entry.{Entry}
use Rattle.ec_core.specs.declared.message.Message.{Message}
use Rattle.ec_core.specs.declared.eu.Spawned.{Spawned}
use Rattle.ec_core.specs.declared.node.Node.{Node}
use Rattle.ec_core.specs.Queues.{taken}
use Rattle.ec_core.specs.Entry.{spawned_of}
use Rattle.ec_core.specs.Step.{eu_ready, eu_event, eu_spawn, su_event, su_ready, acts, at_node, acts_at, sends, uses_peer, step}
use Rattle.ec_core.specs.Run.{run, and_then, start}
use Rattle.ec_small.specs.declared.tree.Program.{Program}
use Rattle.ec_small.specs.Sound.{Sound}
use Rattle.ec_split.specs.Cut.{code_of}
use Rattle.ec_agree.proofs.Shapes.Seen.{Looks, event_looks, ready_looks}
use Rattle.ec_agree.proofs.Shapes.Stages.{Entering, expected, Stands}
use Rattle.ec_agree.proofs.Turns.{entry_stands, message_stands}

-- ---- the acts

entry_act : (p : Program) → Sound p → (s t : Node) (q : List Entry) → s.ready ≡ q →
    eu_ready (code_of p) 0 (taken q) s ≡ Some t → Stands p s → Stands p t
entry_act p sound s t [] h a k = absurd (cc)
entry_act p sound s t (x ∷ rest) h a k = subst (Stands p) (cc) (entry_stands p sound s x rest h k)

message_act : (p : Program) (s t : Node) (q : List Message) → s.events ≡ q → su_event 0 (taken q) s ≡ Some t →
    Stands p s → Stands p t
message_act p s t [] h a k = absurd (cc)
message_act p s t (x ∷ rest) h a k = subst (Stands p) (cc) (message_stands p s x rest h k)

-- a node that looks as before is at the same stage
same_stage : (p : Program) (s t : Node) (k : Stands p s) → Looks t (expected k.stage) → Stands p t
same_stage p s t k looks = record { stage = k.stage; good = k.good; looks = looks }

event_act : (p : Program) (s t : Node) (q : List Message) → s.eu.outbox ≡ q → eu_event (taken q) s ≡ Some t →
    Stands p s → Stands p t
event_act p s t [] h a k = absurd (cc)
event_act p s t (x ∷ rest) h a k = subst (Stands p) (cc) (same_stage p s _ k (event_looks s (expected k.stage) x rest h k.looks))

ready_act : (p : Program) (s t : Node) (q : List Entry) → s.su.ready ≡ q → su_ready (taken q) s ≡ Some t →
    Stands p s → Stands p t
ready_act p s t [] h a k = absurd (cc)
ready_act p s t (x ∷ rest) h a k = subst (Stands p) (cc) (same_stage p s _ k (ready_looks s (expected k.stage) x rest h k.looks))

-- no spawned fiber waits
spawn_act : (p : Program) (s t : Node) (q : List Spawned) → s.eu.spawned ≡ q →
    eu_spawn (spawned_of (code_of p) 0 q s.eu) s ≡ Some t → Stands p s → Stands p t
spawn_act p s t [] h a k = absurd (cc)
spawn_act p s t (x ∷ rest) h a k = absurd (let b = k.looks.alone in cc)

-- each act that needs no peer
acts_stand : (p : Program) → Sound p → (act : Act) (peer : ℕ) (s t : Node) → uses_peer act ≡ false →
    acts (code_of p) 0 act peer s ≡ Some t → Stands p s → Stands p t
acts_stand p sound EuReady peer s t u a k = entry_act p sound s t s.ready refl a k
acts_stand p sound EuSpawn peer s t u a k = spawn_act p s t s.eu.spawned refl a k
acts_stand p sound EuEvent peer s t u a k = event_act p s t s.eu.outbox refl a k
acts_stand p sound EuHungry peer s t u a k = absurd (cc)
acts_stand p sound SuEvent peer s t u a k = message_act p s t s.events refl a k
acts_stand p sound SuNet peer s t u a k = absurd (cc)
acts_stand p sound SuReady peer s t u a k = ready_act p s t s.su.ready refl a k
acts_stand p sound SuSend peer s t u a k = absurd (cc)

-- ---- a step of a world of one node

-- a world of one node, which is at some stage
pub record StandsIn (p : Program) (w : List Node) : Type 0 where
  pub node : Node
  pub is : w ≡ node ∷ []
  pub stands : Stands p node

abbrev chosen : Act → ℕ → ℕ → ℕ → Choice
chosen act me peer pick = record { node = me; act = act; peer = peer; pick = pick }

guarded : {A : Type 0} (b : Bool) (x : Option A) (y : A) → (if b then x else None) ≡ Some y →
    (b ≡ true) × (x ≡ Some y)
guarded true x y h = (refl, h)
guarded false x y h = absurd (cc)

-- an act of the node that is there
here : (p : Program) (w : List Node) (s : Node) (o : Option Node) → ((t : Node) → o ≡ Some t → Stands p t) →
    at_node 0 o (s ∷ []) ≡ Some w → StandsIn p w
here p w s None go h = absurd (cc)
here p w s (Some t) go h = record { node = t; is = cc; stands = go t refl }

own_act : (p : Program) → Sound p → (act : Act) (me peer pick : ℕ) (s : Node) (w : List Node) →
    uses_peer act ≡ false →
    Stands p s → acts_at (code_of p) (chosen act me peer pick) (slice_get (s ∷ []) me) (s ∷ []) ≡ Some w → StandsIn p w
own_act p sound act zero peer pick s w u k h =
    here p w s (acts (code_of p) 0 act peer s) (λ t a. acts_stand p sound act peer s t u a k) h
own_act p sound act (suc me) peer pick s w u k h = absurd (cc)

-- a node that isn't the peer, where the peer is there
no_other : (me peer pick : ℕ) (s : Node) →
    ((not (peer == me) && (pick == 0)) && is_some (slice_get (s ∷ []) peer)) ≡ true → slice_get (s ∷ []) me ≡ None
no_other zero zero pick s h = absurd (cc)
no_other (suc me) zero pick s h = refl
no_other me (suc peer) pick s h =
    absurd (let a = (and_parts (not (suc peer == me) && (pick == 0)) false h).1 in cc)

net_act : (p : Program) (me peer pick : ℕ) (s : Node) (w : List Node) →
    step (code_of p) (chosen SuNet me peer pick) (s ∷ []) ≡ Some w → ⊥
net_act p me peer pick s w h =
    let g = guarded _ _ w h in
    let none = no_other me peer pick s g.0 in
    let a = subst (λ o. acts_at (code_of p) (chosen SuNet me peer pick) o (s ∷ []) ≡ Some w) none g.1 in
    cc

send_act : (p : Program) (me peer pick : ℕ) (s : Node) (w : List Node) →
    step (code_of p) (chosen SuSend me peer pick) (s ∷ []) ≡ Some w → ⊥
send_act p me peer pick s w h =
    let g = guarded _ _ w h in
    let none = no_other me peer pick s g.0 in
    let a = subst (λ o. sends me peer o (s ∷ []) ≡ Some w) none g.1 in
    cc

-- each choice
acted : (p : Program) → Sound p → (act : Act) (me peer pick : ℕ) (s : Node) (w : List Node) → Stands p s →
    step (code_of p) (chosen act me peer pick) (s ∷ []) ≡ Some w → StandsIn p w
acted p sound EuReady me peer pick s w k h = own_act p sound EuReady me peer pick s w refl k (guarded _ _ w h).1
acted p sound EuSpawn me peer pick s w k h = own_act p sound EuSpawn me peer pick s w refl k (guarded _ _ w h).1
acted p sound EuEvent me peer pick s w k h = own_act p sound EuEvent me peer pick s w refl k (guarded _ _ w h).1
acted p sound EuHungry me peer pick s w k h = own_act p sound EuHungry me peer pick s w refl k (guarded _ _ w h).1
acted p sound SuEvent me peer pick s w k h = own_act p sound SuEvent me peer pick s w refl k (guarded _ _ w h).1
acted p sound SuNet me peer pick s w k h = absurd (net_act p me peer pick s w h)
acted p sound SuReady me peer pick s w k h = own_act p sound SuReady me peer pick s w refl k (guarded _ _ w h).1
acted p sound SuSend me peer pick s w k h = absurd (send_act p me peer pick s w h)

stepped : (p : Program) → Sound p → (c : Choice) (v w : List Node) → StandsIn p v →
    step (code_of p) c v ≡ Some w →
    StandsIn p w
stepped p sound c v w k h =
    acted p sound c.act c.node c.peer c.pick k.node w k.stands (subst (λ z. step (code_of p) c z ≡ Some w) k.is h)

-- ---- lists of choices

then_run : (p : Program) (list : List Choice) (o : Option (List Node)) (w : List Node) →
    ((v : List Node) → o ≡ Some v → StandsIn p v) →
    ((v : List Node) → StandsIn p v → run (code_of p) list v ≡ Some w → StandsIn p w) →
    and_then o (run (code_of p) list) ≡ Some w → StandsIn p w
then_run p list None w go on h = absurd (cc)
then_run p list (Some v) w go on h = on v (go v refl) h

pub runs : (p : Program) → Sound p → (list : List Choice) (v w : List Node) → StandsIn p v →
    run (code_of p) list v ≡ Some w → StandsIn p w
runs p sound [] v w k h = subst (StandsIn p) (cc) k
runs p sound (c ∷ list) v w k h =
    then_run p list (step (code_of p) c v) w (λ u a. stepped p sound c v u k a) (λ u j a. runs p sound list u w j a) h

-- the start
pub started : (p : Program) (args : List ℤ) → StandsIn p (start (code_of p) 1 args)
started p args = record {
  node = _;
  is = refl;
  stands = record { stage = Entering; good = tt; looks = record { is = refl; alone = refl } };
}
