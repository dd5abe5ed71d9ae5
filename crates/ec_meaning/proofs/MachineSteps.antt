-- What the functions of the evaluator make of its state are its steps.
use Rattle.std.proofs.Common.{◌≡◌, refl, sym, ap, ◌∙◌, ℕ, suc, ◌-◌, arith, Bool, true, false, List, [], ◌∷◌, ◌++◌, length, get_or, Some, None, slice_get, map, length-drop, Ok, Err}
use Rattle.ec_base.specs.declared.fail.Fail.TheVariants.{Refused}
use Rattle.ec_base.specs.declared.trap.Trap.{Trap}
use Rattle.ec_types.specs.Meaning.Values.{Val, zero_value}
use Rattle.ec_types.specs.Meaning.State as state
use Rattle.ec_types.specs.Meaning.State.{Fork, births_after, Out, With, Traps}
use Rattle.ec_types.specs.Meaning.Evaluation.{Program}
use Rattle.ec_meaning.specs.declared.value.Value.{Value}
use Rattle.ec_meaning.specs.declared.work.Work.{Work}
use Rattle.ec_meaning.specs.declared.work.Work.TheVariants as todo
use Rattle.ec_meaning.specs.declared.work.Placement.{Placement}
use Rattle.ec_meaning.specs.declared.hand.Hand.{Hand}
use Rattle.ec_meaning.specs.declared.hand.Frame.{Frame}
use Rattle.ec_meaning.specs.declared.hand.Waiting.{Waiting}
use Rattle.ec_meaning.specs.declared.shared_state.Core.{Core}
use Rattle.ec_meaning.specs.declared.machine.Machine.{Machine}
use Rattle.ec_meaning.specs.declared.machine.Step.TheVariants as step
use Rattle.ec_meaning.specs.Acts.{top, without, replaced, operands}
use Rattle.ec_meaning.specs.Opened.{spends}
use Rattle.ec_meaning.specs.Machine as m
use Rattle.ec_meaning.specs.Works as w
use Rattle.ec_meaning.specs.Machine.{comes_to, shown, ticked, missing, completed, answered}
use Rattle.ec_meaning.specs.Kept.{Keeps as KeepsCore}
use Rattle.ec_meaning.specs.Seen.{Untold, Opens, Takes, Does, val, placement, work, works, hand, awaits, waiting, core}
use Rattle.ec_meaning.specs.Steps.{program, seen, before, Keeps, Steps}
use Rattle.ec_meaning.proofs.Opens.{opens}
use Rattle.ec_meaning.proofs.Ticks.{spends-opened, spends-kept, goes_on}
use Rattle.ec_meaning.proofs.Enters.{enters_none}
use Rattle.ec_meaning.proofs.Steps.{performs, performs_trap, completes, answers}
use Rattle.ec_meaning.proofs.Views.{with_told, machine_same}
use Rattle.ec_meaning.proofs.Activations.{left, core-left, ordered-left}

-- ---- steps of machines that are equal

pub same_turns :
    (p : Program) (pointer spends due : Bool) (old first new last : m.Machine) → due ≡ spends → first ≡ old → last ≡ new →
    m.Turns p pointer spends old new → m.Turns p pointer due first last
same_turns p pointer spends due old first new last e f l t = rw (e, f, l) t

abbrev pub state_as : List w.Work → w.Hand → List m.Waiting → state.Core → m.Machine
state_as ws h us c = record { works = ws; hand = h; waiting = us; core = c }

-- ---- works that open

module _ (pointer : Bool) (x : Machine) (w : Work) where
  opening :
      (due : Bool) (frame : Frame) (u : Untold) → due ≡ spends (work u w) →
      Opens u w (get_or x.core.births 0 0) x.running frame →
      m.Turns (program x) pointer due (seen u (before w x)) (seen u (record x { running = frame }))
  opening due frame u s o =
      let c = core u x.core in
      let us = map (waiting u) x.waiting in
      let ws = works u x.running.works in
      let after : seen u (record x { running = frame })
      ≡ state_as (o.result.works ++ ws) o.result.hand us c =
      ap (λ all. state_as all (hand u frame.hand) us c) o.works
      ∙ ap (λ h. state_as (o.result.works ++ ws) h us c) o.hand in
      let due_is = s ∙ spends-opened (work u w) (hand u x.running.hand) c.births o.result o.is in
      let old = seen u (before w x) in
      same_turns (program x) pointer o.result.ticks due old old (state_as (o.result.works ++ ws) o.result.hand us c)
      (seen u (record x { running = frame })) due_is refl after
      (opens (program x) pointer (work u w) (hand u x.running.hand) ws us c o.result o.is)

  pub opens_on :
      (due : Bool) (frame : Frame) → ((u : Untold) → due ≡ spends (work u w)) →
      Takes w (get_or x.core.births 0 0) x.running frame None →
      Steps pointer (before w (record x { ticks = ticked due x.ticks })) (record x { running = frame }) step.On
  opens_on due frame s o = record {
    keeps = record {
      functions = refl;
      remembers = λ u t. t;
      sound = λ k. record { ordered = k.ordered; counted = k.counted; shallow = k.shallow };
    };
    spends = due;
    ticks = refl;
    turns = λ u t. record { later = u; paths = refl; turns = opening due frame u (s u) (o u) };
  }

  pub runs_out : ((u : Untold) → true ≡ spends (work u w)) → x.ticks ≡ 0 → Steps pointer (before w x) x step.OutOfTicks
  runs_out s e = record {
    ticks = e;
    left = e;
    core = refl;
    due = λ u t n l.
        goes_on (program x) n pointer (hand u x.running.hand) (works u x.running.works) (map (waiting u) x.waiting)
        (core u x.core) (work u w) (sym (s u));
  }

  -- ---- works within an activation

  module _ (h : Hand) (c : Core) (kept : KeepsCore x.core c) where
    abbrev performed : Machine
    performed = record x { running = record x.running { hand = h }; core = c }

    keeps_performed : Keeps (before w x) performed
    keeps_performed = record {
      functions = refl;
      remembers = kept.tells;
      sound = λ k. record {
        ordered = kept.ordered k.ordered;
        counted = kept.open_ones (omega (arith, k.counted)) ∙ k.counted;
        shallow = omega (arith, kept.most, k.shallow);
      };
    }

    pub performs_on : Does w x.running.hand x.core h c (Ok tt) → Steps pointer (before w x) performed step.On
    performs_on does = record {
      keeps = keeps_performed;
      spends = false;
      ticks = refl;
      turns = λ u t. record {
        later = u;
        paths = refl;
        turns =
            performs (program x) pointer (work u w) (hand u x.running.hand) (hand u h) (works u x.running.works)
            (map (waiting u) x.waiting) (core u x.core) (core u c) (λ call n r. does u call n r t);
      };
    }

    pub traps_on :
        (trap : Trap) → Does w x.running.hand x.core h c (Err (Refused trap)) →
        Steps pointer (before w x) performed (step.Trapped trap)
    traps_on trap does = record {
      keeps = keeps_performed;
      ticks = refl;
      comes = λ u t r n l.
          performs_trap (program x) pointer (work u w) (hand u x.running.hand) (works u x.running.works)
          (map (waiting u) x.waiting) (core u x.core) (core u c) trap (λ call m s. does u call m s t) n r;
    }

-- ---- works that are handed back

pub handed_back :
    (x y : Machine) (w back : Work) (due : Bool) (frame : Frame) → x ≡ record y { ticks = ticked due y.ticks } →
    ((u : Untold) → due ≡ spends (work u w)) → Takes w (get_or y.core.births 0 0) y.running frame (Some back) →
    before back (record y { running = frame }) ≡ before w x
handed_back x y w back due frame paid s t =
    let u : Untold = record { paths = λ k. []; places = []; forks = [] } in
    let kept = t u in
    let idle : due ≡ false = s u ∙ spends-kept (work u w) (hand u y.running.hand) (get_or y.core.births 0 0) kept.is in
    ap (λ b. before b (record y { running = frame })) kept.same
    ∙ ap (λ f. before w (record y { running = f })) kept.frame
    ∙ ap (λ d. before w (record y { ticks = ticked d y.ticks })) (sym idle)
    ∙ ap (before w) (sym paid)

-- ---- a construct has ended

pub joins_on : (pointer : Bool) (x : Machine) (births : ℕ) → Steps pointer (before (todo.Joined births) x) x step.On
joins_on pointer x births = record {
  keeps = record {
    functions = refl;
    remembers = λ u t. t;
    sound = λ k. record { ordered = k.ordered; counted = k.counted; shallow = k.shallow };
  };
  spends = false;
  ticks = refl;
  turns = λ u t. record { later = later u; paths = refl; turns = joins u };
}
  where
    forks : Untold → List Fork
    forks u =
        u.forks ++ record { path = (core u x.core).path; births = births_after births ((core u x.core).births - births) } ∷ []

    later : Untold → Untold
    later u = with_told u u.places (forks u)

    joins : (u : Untold) →
        m.Turns (program x) pointer false (seen u (before (todo.Joined births) x)) (seen (later u) x)
    joins u =
        let c = core u x.core in
        let old = seen u (before (todo.Joined births) x) in
        same_turns (program x) pointer false false old old
        (record (seen u x) { core = record c { forks = forks u } }) (seen (later u) x) refl refl
        (machine_same u u.places (forks u) x.running x.waiting x.core)
        (performs (program x) pointer (work u (todo.Joined births)) (hand u x.running.hand) (hand u x.running.hand)
        (works u x.running.works) (map (waiting u) x.waiting) c (record c { forks = forks u }) (λ call n r. refl))

-- ---- activations that end

module _ (pointer : Bool) (x : Machine) (w : Waiting) (ws : List Waiting) (h : Hand) (waits : x.waiting ≡ w ∷ ws) where
  -- the one above goes on
  abbrev pub resumed : Machine
  resumed = record x { running = record { works = w.frame.works; hand = h }; waiting = ws; core = left x.core }

  keeps_resumed : (todo : List Work) → Keeps (record x { running = record x.running { works = todo } }) resumed
  keeps_resumed todo = record {
    functions = refl;
    remembers = λ u t. record { blocks = t.blocks; apart = t.apart };
    sound = λ k.
        let many : length x.core.births ≡ suc (suc (length ws)) = k.counted ∙ ap (λ all. suc (length all)) waits in
        record {
          ordered = ordered-left x.core (omega (arith, many)) k.ordered;
          counted = omega (arith, many, length-drop 1 x.core.births);
          shallow = k.shallow;
        };
  }

  pub completes_on :
      x.running.works ≡ [] →
      ((u : Untold) → hand u h ≡ completed (awaits u w.awaits) (hand u x.running.hand) (hand u w.frame.hand)) →
      Steps pointer x resumed step.On
  completes_on done is = record {
    keeps = keeps_resumed x.running.works;
    spends = false;
    ticks = refl;
    turns = λ u t. record { later = u; paths = refl; turns = turns u };
  }
    where
      turns : (u : Untold) → m.Turns (program x) pointer false (seen u x) (seen u resumed)
      turns u =
          let above = waiting u w in
          let us = map (waiting u) ws in
          let child = hand u x.running.hand in
          let c = core u x.core in
          let old : seen u x ≡ state_as [] child (above ∷ us) c =
          ap (λ all. state_as (works u all) child (map (waiting u) x.waiting) c) done
          ∙ ap (λ all. state_as [] child (map (waiting u) all) c) waits in
          let new : seen u resumed ≡ state_as above.works (completed above.awaits child above.hand) us (m.above c) =
          ap (λ k. state_as above.works k us (core u (left x.core))) (is u)
          ∙ ap (λ d. state_as above.works (completed above.awaits child above.hand) us d) (core-left u x.core) in
          same_turns (program x) pointer false false (state_as [] child (above ∷ us) c) (seen u x)
          (state_as above.works (completed above.awaits child above.hand) us (m.above c)) (seen u resumed) refl old new
          (completes (program x) pointer (hand u x.running.hand) (core u x.core) above us)

  pub answers_on :
      (value : Value) → ((u : Untold) → val u value ≡ top (hand u x.running.hand)) →
      ((u : Untold) → hand u h ≡ answered (awaits u w.awaits) (val u value) (hand u w.frame.hand)) →
      Steps pointer (before todo.GiveBack x) resumed step.On
  answers_on value is_top is = record {
    keeps = keeps_resumed (todo.GiveBack ∷ x.running.works);
    spends = false;
    ticks = refl;
    turns = λ u t. record { later = u; paths = refl; turns = turns u };
  }
    where
      turns : (u : Untold) → m.Turns (program x) pointer false (seen u (before todo.GiveBack x)) (seen u resumed)
      turns u =
          let above = waiting u w in
          let us = map (waiting u) ws in
          let child = hand u x.running.hand in
          let c = core u x.core in
          let all_works = work u todo.GiveBack ∷ works u x.running.works in
          let old : seen u (before todo.GiveBack x) ≡ state_as all_works child (above ∷ us) c =
          ap (λ all. state_as all_works child (map (waiting u) all) c) waits in
          let new : seen u resumed ≡ state_as above.works (answered above.awaits (top child) above.hand) us (m.above c) =
          ap (λ k. state_as above.works k us (core u (left x.core))) (is u ∙ ap (λ a. answered above.awaits a above.hand) (is_top u))
          ∙ ap (λ d. state_as above.works (answered above.awaits (top child) above.hand) us d) (core-left u x.core) in
          same_turns (program x) pointer false false (state_as all_works child (above ∷ us) c) (seen u (before todo.GiveBack x))
          (state_as above.works (answered above.awaits (top child) above.hand) us (m.above c)) (seen u resumed) refl old new
          (answers (program x) pointer (hand u x.running.hand) (core u x.core) (works u x.running.works) above us)

-- ---- main's activation ends

module _ (pointer : Bool) (x : Machine) (running : Frame) (ws : List Waiting) (none : x.waiting ≡ []) (still : ws ≡ []) where
  keeps_all : (todo : List Work) →
      Keeps (record x { running = record x.running { works = todo } }) (record x { running = running; waiting = ws })
  keeps_all todo = record {
    functions = refl;
    remembers = λ u t. t;
    sound = λ k. record {
      ordered = k.ordered;
      counted = k.counted ∙ ap (λ all. suc (length all)) (none ∙ sym still);
      shallow = k.shallow;
    };
  }

  pub completes_all_on :
      x.running.works ≡ [] → Steps pointer x (record x { running = running; waiting = ws }) (step.Ended None)
  completes_all_on done = record {
    keeps = keeps_all x.running.works;
    ticks = refl;
    comes = λ u t r n l.
        let child = hand u x.running.hand in
        let at : m.Machine → Out Val = λ y. shown (comes_to (program x) n pointer y r) in
        ap (λ all. at (state_as (works u all) child (map (waiting u) x.waiting) (core u x.core))) done
        ∙ ap (λ all. at (state_as [] child (map (waiting u) all) (core u x.core))) none;
  }

  pub answers_all_on :
      (value : Value) → ((u : Untold) → val u value ≡ top (hand u x.running.hand)) →
      Steps pointer (before todo.GiveBack x) (record x { running = running; waiting = ws }) (step.Ended (Some value))
  answers_all_on value is_top = record {
    keeps = keeps_all (todo.GiveBack ∷ x.running.works);
    ticks = refl;
    comes = λ u t r n l.
        let child = hand u x.running.hand in
        let all_works = work u todo.GiveBack ∷ works u x.running.works in
        let at : m.Machine → Out Val = λ y. shown (comes_to (program x) n pointer y r) in
        let last : Val → Out Val = λ v. shown (With v, core u x.core, r) in
        ap (λ all. at (state_as all_works child (map (waiting u) all) (core u x.core))) none ∙ sym (ap last (is_top u));
  }

-- ---- calls of no function

pub calls_none_on :
    (pointer : Bool) (x : Machine) (kind : Placement) (f k : ℕ) (h : Hand) →
    slice_get (program x) f ≡ None →
    ((u : Untold) → hand u h ≡ replaced k zero_value (without (operands (placement u kind)) (hand u x.running.hand))) →
    Steps pointer (before (todo.Enter kind f k) x) (record x { running = record x.running { hand = h } }) step.On
calls_none_on pointer x kind f k h none is = record {
  keeps = record {
    functions = refl;
    remembers = λ u t. t;
    sound = λ s. record { ordered = s.ordered; counted = s.counted; shallow = s.shallow };
  };
  spends = false;
  ticks = refl;
  turns = λ u t. record { later = u; paths = refl; turns = turns u };
}
  where
    turns : (u : Untold) →
        m.Turns (program x) pointer false (seen u (before (todo.Enter kind f k) x))
        (seen u (record x { running = record x.running { hand = h } }))
    turns u =
        let us = map (waiting u) x.waiting in
        let old = seen u (before (todo.Enter kind f k) x) in
        let args = without (operands (placement u kind)) (hand u x.running.hand) in
        same_turns (program x) pointer false false old old
        (state_as (works u x.running.works) (replaced k zero_value args) us (core u x.core))
        (seen u (record x { running = record x.running { hand = h } })) refl refl
        (ap (λ g. state_as (works u x.running.works) g us (core u x.core)) (is u))
        (enters_none (program x) pointer (placement u kind) f k (hand u x.running.hand) (works u x.running.works) us
        (core u x.core) none)

-- ---- as the code has them

module _ (pointer : Bool) (x : Machine) (w : Waiting) (ws : List Waiting) (h : Hand) (waits : x.waiting ≡ w ∷ ws)
    (left_over : List Work) (d : Core) (todo_is : left_over ≡ w.frame.works) (left_is : d ≡ left x.core) where
  pub completes_as :
      x.running.works ≡ [] →
      ((u : Untold) → hand u h ≡ completed (awaits u w.awaits) (hand u x.running.hand) (hand u w.frame.hand)) →
      Steps pointer x (record x { running = record { works = left_over; hand = h }; waiting = ws; core = d }) step.On
  completes_as done is = rw (todo_is, left_is) (completes_on pointer x w ws h waits done is)

  pub answers_as :
      (value : Value) → ((u : Untold) → val u value ≡ top (hand u x.running.hand)) →
      ((u : Untold) → hand u h ≡ answered (awaits u w.awaits) (val u value) (hand u w.frame.hand)) →
      Steps pointer (before todo.GiveBack x) (record x { running = record { works = left_over; hand = h }; waiting = ws; core = d }) step.On
  answers_as value is_top is = rw (todo_is, left_is) (answers_on pointer x w ws h waits value is_top is)
