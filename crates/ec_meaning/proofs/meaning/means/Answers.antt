use Rattle.std.proofs.Common.{◌∙◌, sym, ap, subst, ◌-◌, map, arith}
use Rattle.ec_resolve.specs.Erased as erased
use Rattle.ec_types.proofs.ArgumentLists.{found}
use Rattle.ec_meaning.specs.Means.{IsRising}
use Rattle.ec_meaning.proofs.Finale.{ends_there}
use Rattle.ec_meaning.proofs.Order.{AreRising-nil}
use Rattle.ec_meaning.proofs.meaning.means.Goals as goal

pub returns-then-ticks-eq0-clause-rising : goal.returns-then-ticks-eq0-clause-rising
returns-then-ticks-eq0-clause-rising c = subst (λ m. IsRising m.store) (sym c.without_output.ensures) AreRising-nil

pub returns-clause-meaning : goal.returns-clause-meaning
returns-clause-meaning c =
    c.in_ok-meant.ensures.meaning c.args.t.now c.args.args.now (erased.function c.unwrap_or-main.result.now).pointer
    (ends_there c.args.t.now c.as_slice-functions.result.now c.in_ok-resolved.resolved.main c.get.result _ c.unwrap_or-main.result
    c.args.args.now (c.args.ticks - 1) c.args.ticks c.in_ok-machine.machine c.run.new.self c.in_ok-step.step
    (ap (map erased.function) c.as_slice-functions.ensures ∙ c.in_ok-resolved.ensures.functions) c.in_ok-resolved.ensures.main
    (found c.as_slice-functions.result.now c.in_ok-resolved.resolved.main c.get.result (c.get.ensures.lookup).3)
    c.unwrap_or-main.ensures c.empty_function-empty.ensures c.in_ok-machine.ensures (omega (arith, c.if-ticks-eq0.false))
    c.in_ok-step.ensures)

pub returns-clause-rising : goal.returns-clause-rising
returns-clause-rising c =
    c.in_ok-meant.ensures.rising c.args.t.now c.args.args.now (erased.function c.unwrap_or-main.result.now).pointer
    (ends_there c.args.t.now c.as_slice-functions.result.now c.in_ok-resolved.resolved.main c.get.result _ c.unwrap_or-main.result
    c.args.args.now (c.args.ticks - 1) c.args.ticks c.in_ok-machine.machine c.run.new.self c.in_ok-step.step
    (ap (map erased.function) c.as_slice-functions.ensures ∙ c.in_ok-resolved.ensures.functions) c.in_ok-resolved.ensures.main
    (found c.as_slice-functions.result.now c.in_ok-resolved.resolved.main c.get.result (c.get.ensures.lookup).3)
    c.unwrap_or-main.ensures c.empty_function-empty.ensures c.in_ok-machine.ensures (omega (arith, c.if-ticks-eq0.false))
    c.in_ok-step.ensures)
