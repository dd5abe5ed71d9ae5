-- Each step leaves each frame with its birth and its caller, and what leads to frames leads to them later.
use Rattle.std.proofs.Common.{◌≡◌, ◌<◌, ℕ, zero, suc, List, [], ◌∷◌, length, refl, ap, sym, ◌∙◌, Option, Some, None, slice_get, slice_set, subst, arith}
use Rattle.std.specs.List.{All}
use Rattle.std.proofs.lemmas.List.Elements.{All-head, All-tail, All-set}
use Rattle.std.proofs.lemmas.Option.{same_Some, slice_get_within}
use Rattle.ec_base.specs.declared.value.Birth.{Birth}
use Rattle.ec_core.specs.declared.code.Code.{Code}
use Rattle.ec_core.specs.declared.message.Entry.{Entry}
use Rattle.ec_core.specs.declared.message.Message.{Message}
use Rattle.ec_core.specs.declared.choice.Act.{Act}
use Rattle.ec_core.specs.declared.choice.Act.TheVariants.{EuReady, EuSpawn, EuEvent, EuHungry, SuEvent, SuNet, SuReady, SuSend}
use Rattle.ec_core.specs.declared.choice.Choice.{Choice}
use Rattle.ec_core.specs.declared.eu.Frame.{Frame}
use Rattle.ec_core.specs.declared.node.Node.{Node}
use Rattle.ec_core.specs.Queues.{taken, taken_at}
use Rattle.ec_core.specs.State.{Exec}
use Rattle.ec_core.specs.Entry.{spawned_step}
use Rattle.ec_core.specs.Step.{eu_ready, eu_spawn, eu_event, su_event, su_net, su_ready, acts}
use Rattle.ec_core.specs.Rooted.{frames_at, Begins, HasFirst, Takes, IsBirth, LeadsBack, root, through, Spot, IsMade}
use Rattle.ec_core.proofs.Roots.Frames.{Later, Extends, unchanged, extends_twice, entry_extends, spawned_extends}
use Rattle.ec_core.proofs.Roots.Moves.{Changes, acted, sent, sent_from, got_by}

-- ---- one act

same_frames : (fs gs : List Frame) → fs ≡ gs → Extends fs gs
same_frames fs gs a = subst (λ (hs : List Frame). Extends fs hs) a (unchanged fs)

ready_extends : (code : Code) (me : ℕ) (o : Option (Entry × List Entry)) (s t : Node) → eu_ready code me o s ≡ Some t → Extends s.eu.frames t.eu.frames
ready_extends code me None s t h = cc
ready_extends code me (Some (x, rest)) s t h = let a = same_Some _ t h in rw (← a) (entry_extends code me x s.eu)

spawn_extends : (code : Code) (me : ℕ) (o : Option Exec) (s t : Node) → spawned_step code me s.eu ≡ o → eu_spawn o s ≡ Some t → Extends s.eu.frames t.eu.frames
spawn_extends code me None s t e h = cc
spawn_extends code me (Some u) s t e h = let a = same_Some _ t h in rw (← a) (spawned_extends code me s.eu.spawned s.eu u e)

out_extends : (o : Option (Message × List Message)) (s t : Node) → eu_event o s ≡ Some t → Extends s.eu.frames t.eu.frames
out_extends None s t h = cc
out_extends (Some (x, rest)) s t h = same_frames _ _ (ap (λ n. n.eu.frames) (same_Some _ t h))

event_extends : (me : ℕ) (o : Option (Message × List Message)) (s t : Node) → su_event me o s ≡ Some t → Extends s.eu.frames t.eu.frames
event_extends me None s t h = cc
event_extends me (Some (x, rest)) s t h = same_frames _ _ (ap (λ n. n.eu.frames) (same_Some _ t h))

net_extends : (me : ℕ) (o : Option (Message × List (List Message))) (s t : Node) → su_net me o s ≡ Some t → Extends s.eu.frames t.eu.frames
net_extends me None s t h = cc
net_extends me (Some (x, rest)) s t h = same_frames _ _ (ap (λ n. n.eu.frames) (same_Some _ t h))

moved_extends : (o : Option (Entry × List Entry)) (s t : Node) → su_ready o s ≡ Some t → Extends s.eu.frames t.eu.frames
moved_extends None s t h = cc
moved_extends (Some (x, rest)) s t h = same_frames _ _ (ap (λ n. n.eu.frames) (same_Some _ t h))

act_extends : (code : Code) (me : ℕ) (act : Act) (peer : ℕ) (s t : Node) → acts code me act peer s ≡ Some t → Extends s.eu.frames t.eu.frames
act_extends code me EuReady peer s t h = ready_extends code me (taken s.ready) s t h
act_extends code me EuSpawn peer s t h = spawn_extends code me (spawned_step code me s.eu) s t refl h
act_extends code me EuEvent peer s t h = out_extends (taken s.eu.outbox) s t h
act_extends code me EuHungry peer s t h = cc
act_extends code me SuEvent peer s t h = event_extends me (taken s.events) s t h
act_extends code me SuNet peer s t h = net_extends me (taken_at peer s.net) s t h
act_extends code me SuReady peer s t h = moved_extends (taken s.su.ready) s t h
act_extends code me SuSend peer s t h = cc

-- ---- the world

-- each frame of a world is there later
abbrev pub Grows : List Node → List Node → Type 0
Grows w v = (k : ℕ) → Extends (frames_at w k) (frames_at v k)

grows_set : (w : List Node) (i : ℕ) (s t : Node) → slice_get w i ≡ Some s → Extends s.eu.frames t.eu.frames → Grows w (slice_set w i t)
grows_set [] i s t e x k = cc
grows_set (y ∷ w) zero s t e x zero =
    let a : s.eu.frames ≡ y.eu.frames = ap (λ n. n.eu.frames) (same_Some _ _ (sym e)) in subst (λ (fs : List Frame). Extends fs t.eu.frames) a x
grows_set (y ∷ w) zero s t e x (suc k) = unchanged (frames_at w k)
grows_set (y ∷ w) (suc i) s t e x zero = unchanged y.eu.frames
grows_set (y ∷ w) (suc i) s t e x (suc k) = grows_set w i s t e x k

grows_twice : (u w v : List Node) → Grows u w → Grows w v → Grows u v
grows_twice u w v a b k = extends_twice (frames_at u k) (frames_at w k) (frames_at v k) (a k) (b k)

pub grows : (code : Code) (c : Choice) (w v : List Node) → Changes code c w v → Grows w v
grows code c w v (acted s t e a) = grows_set w c.node s t e (act_extends code c.node c.act c.peer s t a)
grows code c w v (sent s t x rest e a b) =
    let u : List Node = slice_set w c.node (sent_from s rest) in
    grows_twice w u (slice_set u c.peer (got_by t c.node x))
    (grows_set w c.node s (sent_from s rest) e (unchanged s.eu.frames))
    (grows_set u c.peer t (got_by t c.node x) b (unchanged t.eu.frames))

-- ---- first frames

begins_at : (gs : List Frame) (g : Frame) → slice_get gs 0 ≡ Some g → g.birth ≡ None → Begins gs
begins_at [] g e h = cc
begins_at (y ∷ gs) g e h = ap (λ f. f.birth) (same_Some _ _ e) ∙ h

begins_later : (fs gs : List Frame) → Begins fs → Extends fs gs → Begins gs
begins_later [] gs b x = absurd b
begins_later (f ∷ fs) gs b x = let p = x 0 f refl in begins_at gs p.0 p.1 (p.2.birth ∙ b)

pub all_at : {A : Type 0} (P : A → Type 0) (xs : List A) (i : ℕ) (x : A) → All P xs → slice_get xs i ≡ Some x → P x
all_at P [] i x h e = cc
all_at P (y ∷ xs) zero x h e = subst P (same_Some _ _ e) (All-head P y xs h)
all_at P (y ∷ xs) (suc i) x h e = all_at P xs i x (All-tail P y xs h) e

first_set : (w : List Node) (i : ℕ) (s t : Node) → slice_get w i ≡ Some s → Extends s.eu.frames t.eu.frames → All HasFirst w → All HasFirst (slice_set w i t)
first_set w i s t e x h = All-set HasFirst w i t (begins_later s.eu.frames t.eu.frames (all_at HasFirst w i s h e) x) h

pub first_kept : (code : Code) (c : Choice) (w v : List Node) → Changes code c w v → All HasFirst w → All HasFirst v
first_kept code c w v (acted s t e a) h = first_set w c.node s t e (act_extends code c.node c.act c.peer s t a) h
first_kept code c w v (sent s t x rest e a b) h =
    let u : List Node = slice_set w c.node (sent_from s rest) in
    first_set u c.peer t (got_by t c.node x) b (unchanged t.eu.frames) (first_set w c.node s (sent_from s rest) e (unchanged s.eu.frames) h)

-- ---- what leads to frames

taken_later : (number : ℕ) (f g : Frame) → Later f g → Takes number (Some f) → Takes number (Some g)
taken_later number f g l h = (h.0, λ k. h.1 (l.live k))

birth_in_later : (w v : List Node) → Grows w v → (b : Birth) (o : Option Frame) → slice_get (frames_at w b.node) b.frame ≡ o → Takes b.number o → IsBirth v (Some b)
birth_in_later w v x b None e h = absurd h
birth_in_later w v x b (Some f) e h =
    let p = x b.node b.frame f e in
    subst (λ (o : Option Frame). Takes b.number o) (sym p.1) (taken_later b.number f p.0 p.2 h)

pub birth_later : (w v : List Node) → Grows w v → (o : Option Birth) → IsBirth w o → IsBirth v o
birth_later w v x None h = tt
birth_later w v x (Some b) h = birth_in_later w v x b (slice_get (frames_at w b.node) b.frame) refl h

pub leads_later : (w v : List Node) → Grows w v → (o : Option Birth) → LeadsBack w o → LeadsBack v o
leads_later w v x _ root = root
leads_later w v x _ (through b f e l) =
    let p = x b.node b.frame f e in
    through b p.0 p.1 (subst (λ (o : Option Birth). LeadsBack v o) (sym p.2.birth) (leads_later w v x f.birth l))

there : {A : Type 0} (xs : List A) (i : ℕ) → i < length xs → (x : A) × (slice_get xs i ≡ Some x)
there [] i h = absurd (omega arith)
there (x ∷ xs) zero h = (x, refl)
there (x ∷ xs) (suc i) h = there xs i (omega arith)

pub made_later : (w v : List Node) → Grows w v → (s : Spot) → IsMade w s → IsMade v s
made_later w v x s h =
    let p = there (frames_at w s.node) s.frame h in
    let q = x s.node s.frame p.0 p.1 in
    slice_get_within (frames_at v s.node) s.frame q.0 q.1
