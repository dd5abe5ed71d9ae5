-- Calls and branches start activations, or wait for a tick, or are too deep.
use Rattle.std.proofs.Common.{◌≡◌, refl, sym, ap, subst, ◌∙◌, ℕ, suc, ◌-◌, ◌<◌, arith, Bool, true, ◌∷◌, length, drop, slice_get, map, length-drop, lt_of_lt_of_le}
use Rattle.ec_base.specs.declared.limits.TheConstants.{MAX_ACTIVATIONS}
use Rattle.ec_types.specs.Meaning.Values.{Val}
use Rattle.ec_types.specs.Meaning.State.{Site, Out, inner, opened, Going}
use Rattle.ec_meaning.specs.declared.work.Work.{Work}
use Rattle.ec_meaning.specs.declared.hand.Hand.{Hand}
use Rattle.ec_meaning.specs.declared.hand.Awaits.{Awaits}
use Rattle.ec_meaning.specs.declared.hand.Frame.{Frame}
use Rattle.ec_meaning.specs.declared.machine.Machine.{Machine}
use Rattle.ec_meaning.specs.declared.machine.Step.{Step}
use Rattle.ec_meaning.specs.declared.machine.Step.TheVariants as step
use Rattle.ec_meaning.specs.Machine as m
use Rattle.ec_meaning.specs.Machine.{comes_to, shown}
use Rattle.ec_meaning.specs.Activations.{Activated, Activates}
use Rattle.ec_meaning.specs.Seen.{Untold, works, hand, awaits, waiting, core, machine}
use Rattle.ec_meaning.specs.Steps.{program, seen, before, Keeps, Steps}
use Rattle.ec_meaning.proofs.Keeps.{most_grows}
use Rattle.ec_meaning.proofs.Views.{machine_same}
use Rattle.ec_meaning.proofs.Activations.{placed, core-entered, deep-entered, ordered-entered}
use Rattle.ec_meaning.proofs.MachineSteps.{same_turns}

most-shown : (x : Out Val) → (shown x).1.most ≡ x.1.most
most-shown (e, c, r) = refl

-- this frame is to run, and this machine, in which the work had this hand, to wait for it
module _ (pointer : Bool) (w : Work) (h : Hand) (x : Machine) (frame : Frame) (gives : Awaits) (site : Untold → Site) where
  abbrev pub waits_with : Machine
  waits_with = before w (record x { running = record x.running { hand = h } })

  abbrev pub entered : Untold → m.Machine
  entered u = record {
    works = works u frame.works;
    hand = hand u frame.hand;
    waiting = record { awaits = awaits u gives; works = works u x.running.works; hand = hand u x.running.hand } ∷ map (waiting u) x.waiting;
    core = opened (site u) (inner (core u x.core));
  }

  -- the work enters that activation, and a tick is due before it
  pub record Starts : Type 0 where
    pub enters : (u : Untold) → m.Turns (program x) pointer true (seen u waits_with) (entered u)
    pub due : (u : Untold) (n : ℕ) →
        shown (comes_to (program x) n pointer (seen u waits_with) 0) ≡ shown (Going, core u x.core, 0)

  keeps_entered : (new : Machine) → Activated frame gives x new → Keeps waits_with new
  keeps_entered new a = record {
    functions = a.functions;
    remembers = λ u t. record {
      blocks = λ k b is. t.blocks k b (ap (λ bs. slice_get bs.items k) a.core.blocks ∙ is);
      apart = t.apart;
    };
    sound = λ k.
        let old : length x.core.births ≡ suc (length x.waiting) = k.counted in
        let births : length new.core.births ≡ suc (suc (length (drop 1 x.core.births))) = ap length a.core.births in
        let waits : length new.waiting ≡ suc (length x.waiting) = ap length a.waiting in
        let rest : length (drop 1 x.core.births) ≡ length x.core.births - 1 = length-drop 1 x.core.births in
        record {
          ordered = ordered-entered x.core new.core (omega (arith, old)) a.core k.ordered;
          counted = omega (arith, old, births, waits, rest);
          shallow = omega (arith, a.core.most, old, births, rest, a.shallow, k.shallow);
        };
  }

  seen-entered :
      (u : Untold) (new : Machine) → Activated frame gives x new → seen (placed u (site u) x.core) new ≡ entered u
  seen-entered u new a =
      let v = placed u (site u) x.core in
      let fs = record { awaits = gives; frame = x.running } ∷ x.waiting in
      let same = machine_same u v.places v.forks frame fs new.core in
      let all : seen v new ≡ machine v frame fs new.core =
      ap (λ f. machine v f new.waiting new.core) a.running ∙ ap (λ ws. machine v frame ws new.core) a.waiting in
      all ∙ same
      ∙ ap (λ c. record (machine u frame fs new.core) { core = c })
      (sym (ap (λ y. y.core) same) ∙ core-entered u (site u) x.core new.core a.core)

  pub activates : (new : Machine) (s : Step) → Starts → Activates frame gives x new s → Steps pointer waits_with new s
  activates new step.On starts a = record {
    keeps = keeps_entered new a;
    spends = true;
    ticks = a.ticks;
    turns = λ u t. record {
      later = placed u (site u) x.core;
      paths = refl;
      turns =
          same_turns (program x) pointer true true (seen u waits_with) (seen u waits_with) (entered u)
          (seen (placed u (site u) x.core) new) refl refl (seen-entered u new a) (starts.enters u);
    };
  }
  activates new step.OutOfTicks starts a = record {
    ticks = a.ticks;
    left = ap (λ y. y.ticks) a.same ∙ a.ticks;
    core = ap (λ y. y.core) a.same;
    due = λ u t n l. starts.due u n;
  }
  activates new step.TooDeep starts a = record {
    ticks = a.ticks;
    due = λ u t n l. starts.due u n;
    deep = λ u t n r l.
        let p = program x in
        let same : (comes_to p n pointer (entered u) r).1.most ≡ (comes_to p n pointer (seen u waits_with) (suc r)).1.most =
        sym (most-shown (comes_to p n pointer (entered u) r))
        ∙ sym (ap (λ y. y.1.most) (starts.enters u n r l))
        ∙ most-shown (comes_to p n pointer (seen u waits_with) (suc r)) in
        subst (λ k. MAX_ACTIVATIONS < k) same
        (lt_of_lt_of_le (deep-entered u (site u) x.core a.deep) (most_grows p n pointer (entered u) r));
  }
  activates new (step.Trapped t) starts a = absurd a
  activates new (step.Ended v) starts a = absurd a
