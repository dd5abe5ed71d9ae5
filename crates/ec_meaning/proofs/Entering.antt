-- Calls and branches in code enter activations.
use Rattle.std.proofs.Common.{◌≡◌, refl, ap, ◌∙◌, ℕ, Bool, true, List, [], ◌∷◌, map, Some, None, slice_get, option_map, Ok, Err, Result, IfOk}
use Rattle.std.proofs.lemmas.Option.{slice_get-map}
use Rattle.ec_resolve.specs.Erased as erased
use Rattle.ec_resolve.specs.declared.action.Function.{Function}
use Rattle.ec_types.specs.Meaning.State as state
use Rattle.ec_types.specs.Meaning.State.{Site, set_all, unset}
use Rattle.ec_types.specs.Meaning.Tree as t
use Rattle.ec_meaning.specs.declared.work.Work.{Work}
use Rattle.ec_meaning.specs.declared.work.Work.TheVariants as todo
use Rattle.ec_meaning.specs.declared.work.Placement.{Placement}
use Rattle.ec_meaning.specs.declared.hand.Hand.{Hand}
use Rattle.ec_meaning.specs.declared.hand.Awaits.TheVariants as waits
use Rattle.ec_meaning.specs.declared.hand.Frame.{Frame}
use Rattle.ec_meaning.specs.declared.machine.Machine.{Machine}
use Rattle.ec_meaning.specs.declared.machine.Step.{Step}
use Rattle.ec_meaning.specs.Works as w
use Rattle.ec_meaning.specs.Acts.{top, without, last_values, operands, site}
use Rattle.ec_meaning.specs.Activations.{Activates}
use Rattle.ec_meaning.specs.Seen.{Untold, placement, work, works, hand, waiting, core}
use Rattle.ec_meaning.specs.Steps.{program, seen, before, Steps}
use Rattle.ec_meaning.proofs.Enters.{enters, branches}
use Rattle.ec_meaning.proofs.Ticks.{goes_on-branch, goes_on-enter}
use Rattle.ec_meaning.specs.Machine as m
use Rattle.ec_meaning.specs.Works.{Hand as SeenHand}
use Rattle.ec_meaning.proofs.MachineSteps.{same_turns, state_as}
use Rattle.ec_meaning.proofs.Starting.{Starts, activates}

module _ (pointer : Bool) (x : Machine) (kind : Placement) (f k : ℕ) (g : Function) (frame : Frame) (h : Hand)
    (is : slice_get x.functions.now f ≡ Some g)
    (todo_is : (u : Untold) → works u frame.works ≡ w.Declare (erased.function g).decls ∷ w.Statements (erased.function g).body ∷ [])
    (holds : (u : Untold) → hand u frame.hand ≡ record { values = []; accesses = []; vars = set_all g.params (last_values k (without (operands (placement u kind)) (hand u x.running.hand))) unset })
    (rest : (u : Untold) → hand u h ≡ without k (without (operands (placement u kind)) (hand u x.running.hand))) where
  popped : Machine
  popped = record x { running = record x.running { hand = h } }

  site_of : Untold → Site
  site_of u = site (placement u kind) (top (hand u x.running.hand))

  found : slice_get (program x) f ≡ Some (erased.function g)
  found = slice_get-map erased.function x.functions.now f ∙ ap (option_map erased.function) is

  call_starts : Starts pointer (todo.Enter kind f k) x.running.hand popped frame (waits.Value g.pointer) site_of
  unfolding popped site_of
  call_starts = record {
    enters = λ u.
        let old = hand u x.running.hand in
        let args = without (operands (placement u kind)) old in
        let child = hand u frame.hand in
        let c = state.opened (site_of u) (state.inner (core u x.core)) in
        let us : SeenHand → List m.Waiting =
        λ k. record { awaits = m.AwaitsValue g.pointer; works = works u x.running.works; hand = k } ∷ map (waiting u) x.waiting in
        let body = w.Declare (erased.function g).decls ∷ w.Statements (erased.function g).body ∷ [] in
        let first = seen u (before (todo.Enter kind f k) x) in
        let vars : SeenHand = record { values = []; accesses = []; vars = set_all g.params (last_values k args) unset } in
        same_turns (program x) pointer true true first first (state_as body vars (us (without k args)) c)
        (state_as (works u frame.works) child (us (hand u h)) c) refl refl
        (ap (λ ws. state_as ws child (us (hand u h)) c) (todo_is u)
        ∙ ap (λ k. state_as body k (us (hand u h)) c) (holds u)
        ∙ ap (λ r. state_as body vars (us r) c) (rest u))
        (enters (program x) pointer (placement u kind) f k (erased.function g) (hand u x.running.hand)
        (works u x.running.works) (map (waiting u) x.waiting) (core u x.core) found);
    due = λ u n.
        goes_on-enter (program x) n pointer (hand u x.running.hand) (works u x.running.works) (map (waiting u) x.waiting)
        (core u x.core) (placement u kind) f k (erased.function g) found;
  }

  pub calls_on :
      (new : Machine) (s : Step) → Activates frame (waits.Value g.pointer) (record x { running = record x.running { hand = h } }) new s →
      Steps pointer (before (todo.Enter kind f k) x) new s
  unfolding popped site_of
  calls_on new s a =
      activates pointer (todo.Enter kind f k) x.running.hand popped frame (waits.Value g.pointer) site_of new s call_starts a

-- a branch's work, however it is held
module _ (pointer : Bool) (x : Machine) (held : Work) (s : t.Stmt) (frame : Frame)
    (is : (u : Untold) → work u held ≡ w.Branch s)
    (todo_is : (u : Untold) → works u frame.works ≡ w.Statement s ∷ [])
    (holds : (u : Untold) → hand u frame.hand ≡ record { values = []; accesses = []; vars = (hand u x.running.hand).vars }) where
  here : Untold → Site
  here u = state.Here

  branch_starts : Starts pointer held x.running.hand x frame waits.Vars here
  unfolding here
  branch_starts = record {
    enters = λ u.
        let old = hand u x.running.hand in
        let ws = works u x.running.works in
        let waits = map (waiting u) x.waiting in
        let c = core u x.core in
        let d = state.opened state.Here (state.inner c) in
        let us : List m.Waiting = record { awaits = m.AwaitsVars; works = ws; hand = old } ∷ waits in
        let vars : SeenHand = record { values = []; accesses = []; vars = old.vars } in
        same_turns (program x) pointer true true (state_as (w.Branch s ∷ ws) old waits c) (seen u (before held x))
        (state_as (w.Statement s ∷ []) vars us d) (state_as (works u frame.works) (hand u frame.hand) us d)
        refl (ap (λ q. state_as (q ∷ ws) old waits c) (is u))
        (ap (λ all. state_as all (hand u frame.hand) us d) (todo_is u)
        ∙ ap (λ k. state_as (w.Statement s ∷ []) k us d) (holds u))
        (branches (program x) pointer s old ws waits c);
    due = λ u n.
        let old = hand u x.running.hand in
        let ws = works u x.running.works in
        let waits = map (waiting u) x.waiting in
        let c = core u x.core in
        ap (λ q. m.shown (m.comes_to (program x) n pointer (state_as (q ∷ ws) old waits c) 0)) (is u)
        ∙ goes_on-branch (program x) n pointer old ws waits c s;
  }

  pub branches_on :
      (new : Machine) (last : Step) → Activates frame waits.Vars x new last → Steps pointer (before held x) new last
  unfolding here
  branches_on new last a = activates pointer held x.running.hand x frame waits.Vars here new last branch_starts a

-- no function is found
pub found_none : (x : Machine) (f : ℕ) → slice_get x.functions.now f ≡ None → slice_get (program x) f ≡ None
found_none x f is = slice_get-map erased.function x.functions.now f ∙ ap (option_map erased.function) is

-- where an answer comes
pub if_ok_then : {E : Type 0} (r : Result Step E) (P Q : Step → Type 0) → ((s : Step) → P s → Q s) → IfOk r P → IfOk r Q
if_ok_then (Ok s) P Q f h = f s h
if_ok_then (Err e) P Q f h = h
