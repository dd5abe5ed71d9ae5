use Rattle.std.proofs.Common.{sym, subst, ◌∙◌, rules, to_z, of_z, w64}
use Rattle.ec_meaning.specs.Means.{IsMeant, IsRising}
use Rattle.ec_meaning.specs.Steps.{Ends}
use Rattle.ec_meaning.proofs.Final.{answers_meaning, too_deep, last_ordered}
use Rattle.ec_meaning.proofs.Order.{AreRising-nil}
use Rattle.ec_meaning.proofs.machine.Machine.meant.Goals as goal

pub returns-in-TooDeep-clause-meaning : goal.returns-in-TooDeep-clause-meaning
returns-in-TooDeep-clause-meaning c s args pointer e =
    subst (IsMeant s args c.args.ticks) (sym c.without_output.ensures)
    (too_deep s args pointer c.args.ticks c.args.self c.saturating_sub-spent.result
    (subst (Ends s args pointer c.args.ticks c.args.self) c.in-TooDeep.is e) c.saturating_sub-spent.ensures)

pub returns-in-TooDeep-clause-rising : goal.returns-in-TooDeep-clause-rising
returns-in-TooDeep-clause-rising c s args pointer e =
    subst (λ m. IsRising m.store) (sym c.without_output.ensures) AreRising-nil

pub returns : goal.returns
returns c = record {
  meaning = λ s args pointer e.
      answers_meaning s args pointer c.args.ticks c.args.self c.args.step
      (record {
        ending = c.ending.result;
        output = c.from_vec.result;
        result = to_z w64 (of_z w64 c.result.result);
        store = c.in_ok-memory.field-0;
        ticks = c.saturating_sub-spent.result;
      })
      c.in_default.not-TooDeep e c.ending.ensures
      (record {
        output = c.from_vec.ensures;
        result = λ u. (search rules) ∙ c.result.ensures u pointer;
        store = c.in_ok-memory.ensures.store;
        ticks = c.saturating_sub-spent.ensures;
      });
  rising = λ s args pointer e.
      c.in_ok-memory.ensures.rising
      (last_ordered s args pointer c.args.ticks c.args.self c.args.step c.in_default.not-TooDeep e).rising;
}
