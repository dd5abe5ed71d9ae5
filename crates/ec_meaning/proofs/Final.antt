-- What the evaluator answers at its last step is what the source means.
use Rattle.std.proofs.Common.{◌≡◌, refl, sym, ap, subst, ◌∙◌, ℕ, suc, ◌+◌, ◌-◌, ◌<◌, ◌≤◌, arith, Bool, List, [], ℤ, pos}
use Rattle.ec_base.specs.declared.limits.TheConstants.{MAX_ACTIVATIONS}
use Rattle.ec_syntax.specs.declared.item.Program.{Program as Source}
use Rattle.ec_types.specs.Meaning.Values.{Val, number}
use Rattle.ec_types.specs.Meaning.State as state
use Rattle.ec_types.specs.Meaning.State.{Out, With, Returns, Traps, Going}
use Rattle.ec_types.specs.Meaning.Programs.{Meaning, Ending, Ended, Trapped, Unfinished, meant, mean, told}
use Rattle.ec_meaning.specs.declared.machine.Machine.{Machine}
use Rattle.ec_meaning.specs.declared.machine.Step.{Step}
use Rattle.ec_meaning.specs.declared.machine.Step.TheVariants as step
use Rattle.ec_meaning.specs.declared.meant.Meant.{Meant}
use Rattle.ec_meaning.specs.declared.meant.MeantEnd.TheVariants as end
use Rattle.ec_meaning.specs.Last as last
use Rattle.ec_meaning.specs.Machine.{comes_to}
use Rattle.ec_meaning.specs.Means.{Agrees, IsMeant}
use Rattle.ec_meaning.specs.Order.{InOrder}
use Rattle.ec_meaning.specs.Seen.{Untold, Tells, core}
use Rattle.ec_meaning.specs.Shown.{ShowsStore}
use Rattle.ec_meaning.specs.Started.{without_output}
use Rattle.ec_meaning.specs.Steps.{program, seen, ComesTo, RunsOut, EndsWith, IsTooDeep, ended, Reaches, Ends}
use Rattle.ec_meaning.proofs.Finale.{MeansHere, tells_same}
use Rattle.ec_meaning.proofs.Starts.{told-shown}
use Rattle.ec_meaning.proofs.Untold.{untold, Tells-told}

most_told : (k : ℕ) (x : Out Val) → (told k x).most ≡ x.1.most
most_told k (With v, c, r) = refl
most_told k (Returns v, c, r) = refl
most_told k (Traps t, c, r) = refl
most_told k (Going, c, r) = refl

module _ (s : Source) (args : List ℤ) (pointer : Bool) where
  -- what a state has come to is told with all ticks
  told_here :
      (x : Machine) (spent r : ℕ) (u : Untold) (out : Out Val) → MeansHere s args pointer spent x u →
      ComesTo pointer x u r out → mean s args (spent + r) ≡ told (spent + r) out
  told_here x spent r u out here comes =
      let k = spent + r in
      sym (here k r (omega arith)) ∙ told-shown k (comes_to (program x) k pointer (seen u x) r)
      ∙ ap (told k) (comes k (omega arith)) ∙ sym (told-shown k out)

  -- the source's meaning is told of the last state, in which it ends so
  record Told (total : ℕ) (x : Machine) (e : Untold → state.Ends Val) : Type 0 where
    seen_by : Untold
    tells : Tells seen_by x.core
    ordered : InOrder x.core
    shallow : x.core.most ≤ MAX_ACTIVATIONS
    means : mean s args total ≡ told total (e seen_by, core seen_by x.core, x.ticks)

  told_ended :
      (total : ℕ) (old new : Machine) (e : Untold → state.Ends Val) → Reaches s args pointer total old →
      EndsWith pointer old new (λ u r. (e u, core u new.core, r)) → Told total new e
  told_ended total old new e r w =
      let sound = w.keeps.sound r.sound in
      let u = untold new.core [] [] in
      let t = Tells-told new.core sound.ordered [] [] in
      let before = r.means u (w.keeps.remembers u t) in
      let v = before.later in
      let tells = tells_same u v new.core before.paths t in
      record {
        seen_by = v;
        tells = tells;
        ordered = sound.ordered;
        shallow = sound.shallow;
        means =
            ap (mean s args) (sym r.all)
            ∙ told_here old r.spent old.ticks v (e v, core v new.core, old.ticks) before.means (w.comes v tells old.ticks)
            ∙ ap (λ k. told k (e v, core v new.core, old.ticks)) r.all
            ∙ ap (λ i. told total (e v, core v new.core, i)) (sym w.ticks);
      }

  module _ (total : ℕ) (old : Machine) (r : Reaches s args pointer total old) where
    old_untold : Untold
    old_untold = untold old.core [] []

    old_tells : Tells old_untold old.core
    unfolding old_untold
    old_tells = Tells-told old.core r.sound.ordered [] []

    now_untold : Untold
    now_untold = (r.means old_untold old_tells).later

    now_tells : Tells now_untold old.core
    unfolding now_untold
    now_tells = tells_same old_untold now_untold old.core (r.means old_untold old_tells).paths old_tells

    here : MeansHere s args pointer r.spent old now_untold
    unfolding now_untold
    here = (r.means old_untold old_tells).means

    -- where a tick is due
    waits : (n : ℕ) → ComesTo pointer old now_untold 0 (Going, core now_untold old.core, 0) → r.spent ≡ n →
        mean s args n ≡ told n (Going, core now_untold old.core, 0)
    waits n due e =
        let all : r.spent + 0 ≡ n = omega (arith, e) in
        ap (mean s args) (sym all) ∙ told_here old r.spent 0 now_untold (Going, core now_untold old.core, 0) here due
        ∙ ap (λ k. told k (Going, core now_untold old.core, 0)) all

    told_out : (new : Machine) → RunsOut pointer old new → Told total new (λ u. Going)
    told_out new w =
        let all : r.spent ≡ total = omega (arith, r.all, w.ticks) in
        record {
          seen_by = now_untold;
          tells = subst (Tells now_untold) (sym w.core) now_tells;
          ordered = subst InOrder (sym w.core) r.sound.ordered;
          shallow = subst (λ c. c.most ≤ MAX_ACTIVATIONS) (sym w.core) r.sound.shallow;
          means = waits total (w.due now_untold now_tells) all
              ∙ ap (λ c. told total (Going, core now_untold c, 0)) (sym w.core)
              ∙ ap (λ i. told total (Going, core now_untold new.core, i)) (sym w.left);
        }

    deep_here : (new : Machine) (ticks : ℕ) → IsTooDeep pointer old new → ticks ≡ total - new.ticks →
        IsMeant s args total (without_output end.TooDeep ticks)
    deep_here new ticks w e =
        let last : ticks ≡ suc r.spent = omega (arith, e, r.all, w.ticks) in
        record {
          before = r.spent;
          last = last;
          within = omega (arith, last, r.all, w.ticks);
          shallow =
              subst (λ m. m.most ≤ MAX_ACTIVATIONS) (sym (waits r.spent (w.due now_untold now_tells) refl)) r.sound.shallow;
          deep = subst (λ k. MAX_ACTIVATIONS < (mean s args k).most) (sym last) (one_too_many w);
          output = refl;
          result = refl;
          store = refl;
        }
      where
        one_too_many : IsTooDeep pointer old new → MAX_ACTIVATIONS < (mean s args (suc r.spent)).most
        one_too_many w =
            let k = r.spent + 1 in
            let is : k ≡ suc r.spent = omega arith in
            let x = comes_to (program old) k pointer (seen now_untold old) 1 in
            let deep = w.deep now_untold now_tells k 0 (omega (arith, r.some)) in
            let same = sym (most_told k x) ∙ ap (λ m. m.most) (here k 1 (omega arith)) ∙ ap (λ k. (mean s args k).most) is in
            subst (λ most. MAX_ACTIVATIONS < most) same deep

  -- ---- the last step

  left : Step → Untold → state.Ends Val
  left (step.Ended v) u = With (ended pointer v u)
  left (step.Trapped t) u = Traps t
  left step.On u = Going
  left step.OutOfTicks u = Going
  left step.TooDeep u = Going

  told_last : (total : ℕ) (new : Machine) (l : Step) → (l ≡ step.TooDeep → ⊥) → Ends s args pointer total new l →
      Told total new (left l)
  unfolding left
  told_last total new step.On not e = absurd (e.ends refl)
  told_last total new step.OutOfTicks not e = told_out total e.old e.reached new e.stepped
  told_last total new step.TooDeep not e = absurd (not refl)
  told_last total new (step.Trapped t) not e = told_ended total e.old new _ e.reached e.stepped
  told_last total new (step.Ended v) not e = told_ended total e.old new _ e.reached e.stepped

  pub last_ordered : (total : ℕ) (new : Machine) (l : Step) → (l ≡ step.TooDeep → ⊥) → Ends s args pointer total new l →
      InOrder new.core
  last_ordered total new l not e = (told_last total new l not e).ordered

  pub too_deep : (total : ℕ) (new : Machine) (ticks : ℕ) → Ends s args pointer total new step.TooDeep →
      ticks ≡ total - new.ticks → IsMeant s args total (without_output end.TooDeep ticks)
  too_deep total new ticks e is = deep_here total e.old e.reached new ticks e.stepped is

  -- ---- answers

  -- the answer has the parts of the last state
  pub record Answers (total : ℕ) (x : Machine) (l : Step) (answer : Meant) : Type 0 where
    pub output : answer.output ≡ x.core.output.items
    pub result : (u : Untold) → answer.result ≡ last.result l pointer u
    pub store : ShowsStore x.core.blocks.items answer.store
    pub ticks : answer.ticks ≡ total - x.ticks

  agrees :
      (total : ℕ) (x : Machine) (l : Step) (answer : Meant) (m : Meaning) (ending : Ending) (result : ℤ)
      (t : Told total x (left l)) → m ≡ meant ending result (core t.seen_by x.core) (total - x.ticks) →
      last.result l pointer t.seen_by ≡ result → Answers total x l answer → (m.ending ≡ ending) × Agrees m answer
  agrees total x l answer m ending result t is gives a =
      subst (λ m. (m.ending ≡ ending) × Agrees m answer) (sym is) (
        refl,
        record {
          output = a.output;
          result = a.result t.seen_by ∙ gives;
          store = a.store t.seen_by t.tells.blocks;
          ticks = a.ticks;
          shallow = t.shallow;
        },
      )

  pub answers_meaning :
      (total : ℕ) (x : Machine) (l : Step) (answer : Meant) → (l ≡ step.TooDeep → ⊥) → Ends s args pointer total x l →
      answer.ending ≡ last.ending l → Answers total x l answer → IsMeant s args total answer
  unfolding left
  answers_meaning total x l answer not e is a =
      subst (λ ending. IsMeant s args total (record answer { ending = ending })) (sym is)
      (by l not e (record { output = a.output; result = a.result; store = a.store; ticks = a.ticks }))
    where
      by : (l : Step) → (l ≡ step.TooDeep → ⊥) → Ends s args pointer total x l →
          Answers total x l (record answer { ending = last.ending l }) →
          IsMeant s args total (record answer { ending = last.ending l })
      by step.On not e a = absurd (e.ends refl)
      by step.TooDeep not e a = absurd (not refl)
      by step.OutOfTicks not e a =
          let t = told_last total x step.OutOfTicks not e in
          agrees total x step.OutOfTicks _ _ Unfinished (pos 0) t t.means refl a
      by (step.Trapped k) not e a =
          let t = told_last total x (step.Trapped k) not e in
          agrees total x (step.Trapped k) _ _ (Trapped k) (pos 0) t t.means refl a
      by (step.Ended v) not e a =
          let t = told_last total x (step.Ended v) not e in
          agrees total x (step.Ended v) _ _ Ended (number (ended pointer v t.seen_by)) t t.means refl a
