-- Views with the same paths see the same values, works, hands and blocks.
use Rattle.std.proofs.Common.{◌≡◌, refl, ap, ◌∙◌, List, map, find, get_or, Option, option_map}
use Rattle.std.proofs.Math.Path.{fun_ext}
use Rattle.ec_base.specs.Words.{same}
use Rattle.ec_types.specs.Meaning.Values.{Path, Val, zero_value}
use Rattle.ec_types.specs.Meaning.State.{Placed, Fork}
use Rattle.ec_meaning.specs.declared.value.Value.{Value}
use Rattle.ec_meaning.specs.declared.value.Value.TheVariants as value
use Rattle.ec_meaning.specs.declared.value.Block.{Block}
use Rattle.ec_meaning.specs.declared.work.Placement.{Placement}
use Rattle.ec_meaning.specs.declared.work.Placement.TheVariants as placed
use Rattle.ec_meaning.specs.declared.work.Loop.{Loop}
use Rattle.ec_meaning.specs.declared.work.Loop.TheVariants as looped
use Rattle.ec_meaning.specs.declared.work.Work.{Work}
use Rattle.ec_meaning.specs.declared.work.Work.TheVariants as todo
use Rattle.ec_meaning.specs.declared.hand.Awaits.{Awaits}
use Rattle.ec_meaning.specs.declared.hand.Awaits.TheVariants as waits
use Rattle.ec_meaning.specs.declared.hand.Frame.{Frame}
use Rattle.ec_meaning.specs.declared.hand.Waiting.{Waiting}
use Rattle.ec_meaning.specs.declared.shared_state.Core.{Core}
use Rattle.ec_meaning.specs.declared.value.Access.{Access}
use Rattle.ec_meaning.specs.declared.hand.Hand.{Hand}
use Rattle.ec_types.specs.Meaning.Memory as memory
use Rattle.ec_types.specs.Meaning.State as state
use Rattle.ec_meaning.specs.Machine as m
use Rattle.ec_meaning.specs.Works as w
use Rattle.ec_meaning.specs.Seen.{Untold, val, access, placement, loop, work, works, hand, awaits, waiting, store, core, machine}

-- the same paths, with these placements and forks
abbrev pub with_told : Untold → List Placed → List Fork → Untold
with_told u places forks = record { paths = u.paths; places = places; forks = forks }

-- ---- by what is seen of their parts

abbrev access_as : (Value → Val) → Access → memory.Access
access_as f a =
    record { at = a.at; base = f a.base; index = a.index; size = a.size; first = a.field.first; item = a.item; length = a.field.length }

abbrev hand_as : (Value → Val) → (Access → memory.Access) → Hand → w.Hand
hand_as f g h = record { values = map f h.values; accesses = map g h.accesses; vars = λ x. get_or (map f h.vars.items) x zero_value }

abbrev store_as : List Block → (Value → Val) → Path → Option (List Val)
store_as blocks f p = option_map (λ b. map f b.cells.items) (find (λ b. same b.path p) blocks)

abbrev waiting_as : m.Awaits → List w.Work → w.Hand → m.Waiting
waiting_as a ws h = record { awaits = a; works = ws; hand = h }

abbrev machine_as : state.Core → List w.Work → w.Hand → List m.Waiting → (Path → Option (List Val)) → m.Machine
machine_as c ws h us stored = record { works = ws; hand = h; waiting = us; core = record c { store = stored } }

-- ---- views with the same paths

module _ (u : Untold) (places : List Placed) (forks : List Fork) where
  abbrev v : Untold
  v = with_told u places forks

  val_same : (x : Value) → val v x ≡ val u x
  val_same (value.Int n) = refl
  val_same value.Null = refl
  val_same (value.To k) = refl

  vals_same : val v ≡ val u
  vals_same = fun_ext val_same

  placement_same : (p : Placement) → placement v p ≡ placement u p
  placement_same placed.Here = refl
  placement_same placed.OwnerOf = refl
  placement_same placed.Home = refl
  placement_same placed.Node = refl
  placement_same placed.Anywhere = refl

  loop_same : (l : Loop) → loop v l ≡ loop u l
  loop_same (looped.While e s) = refl
  loop_same (looped.For h s) = refl
  loop_same (looped.Forall h s) = refl

  work_same : (x : Work) → work v x ≡ work u x
  work_same (todo.Constant x) = ap w.Constant (val_same x)
  work_same (todo.Enter p f n) = ap (λ q. w.Enter q f n) (placement_same p)
  work_same (todo.Turn l) = ap w.Turn (loop_same l)
  work_same (todo.Again l) = ap w.Again (loop_same l)
  work_same x = refl

  works_same : (ws : List Work) → works v ws ≡ works u ws
  works_same ws = ap (λ (f : Work → w.Work). map f ws) (fun_ext work_same)

  access_same : access v ≡ access u
  access_same = ap access_as vals_same

  hand_same : (h : Hand) → hand v h ≡ hand u h
  hand_same h = ap (λ f. hand_as f (access v) h) vals_same ∙ ap (λ g. hand_as (val u) g h) access_same

  awaits_same : (a : Awaits) → awaits v a ≡ awaits u a
  awaits_same (waits.Value pointer) = refl
  awaits_same waits.Vars = refl

  waiting_same : (f : Waiting) → waiting v f ≡ waiting u f
  waiting_same f =
      ap (λ a. waiting_as a (works v f.frame.works) (hand v f.frame.hand)) (awaits_same f.awaits)
      ∙ ap (λ ws. waiting_as (awaits u f.awaits) ws (hand v f.frame.hand)) (works_same f.frame.works)
      ∙ ap (λ h. waiting_as (awaits u f.awaits) (works u f.frame.works) h) (hand_same f.frame.hand)

  all_waiting_same : (fs : List Waiting) → map (waiting v) fs ≡ map (waiting u) fs
  all_waiting_same fs = ap (λ (f : Waiting → m.Waiting). map f fs) (fun_ext waiting_same)

  pub store_same : (blocks : List Block) → store v blocks ≡ store u blocks
  store_same blocks = ap (store_as blocks) vals_same

  pub machine_same :
      (f : Frame) (fs : List Waiting) (c : Core) →
      machine v f fs c ≡ record (machine u f fs c) { core = record (core u c) { places = places; forks = forks } }
  machine_same f fs c =
      let k = core v c in
      ap (λ ws. machine_as k ws (hand v f.hand) (map (waiting v) fs) k.store) (works_same f.works)
      ∙ ap (λ h. machine_as k (works u f.works) h (map (waiting v) fs) k.store) (hand_same f.hand)
      ∙ ap (λ us. machine_as k (works u f.works) (hand u f.hand) us k.store) (all_waiting_same fs)
      ∙ ap (λ stored. machine_as k (works u f.works) (hand u f.hand) (map (waiting u) fs) stored) (store_same c.blocks.items)
