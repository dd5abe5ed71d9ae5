use Rattle.std.proofs.Common.{ap, sym, ◌∙◌, map, List, [], option_copied}
use Rattle.ec_types.specs.Meaning.State.{set_all, unset}
use Rattle.ec_types.specs.Meaning.Values.{Val, zero_value}
use Rattle.ec_meaning.specs.Acts.{push}
use Rattle.ec_meaning.specs.Activations.{Activates}
use Rattle.ec_meaning.specs.Seen.{val}
use Rattle.ec_meaning.specs.Steps.{StepsAlways, before}
use Rattle.ec_meaning.specs.Works.{Hand}
use Rattle.ec_meaning.specs.declared.hand.Awaits.TheVariants as waits
use Rattle.ec_meaning.specs.declared.machine.Machine.{Machine}
use Rattle.ec_meaning.specs.declared.work.Work.TheVariants as todo
use Rattle.ec_types.proofs.ArgumentLists.{found}
use Rattle.ec_meaning.proofs.Entering.{calls_on, if_ok_then, found_none}
use Rattle.ec_meaning.proofs.MachineSteps.{calls_none_on}
use Rattle.ec_meaning.proofs.machine.Machine.call.Goals as goal

pub returns-in-None : goal.returns-in-None
returns-in-None c pointer =
    let x = c.args.self.now in
    calls_none_on pointer x c.args.placement c.args.function c.args.count c.push.new.self
    (found_none x c.args.function
    (sym (found x.functions.now c.args.function c.get.result (c.get.ensures.lookup).3) ∙ ap option_copied c.in-None.is))
    (λ u. c.in_ok-push-in-None.ensures u ∙ ap (push zero_value) (c.in_ok-args.ensures.rest u))

pub returns : goal.returns
returns c =
    let x = c.args.self.now in
    let old = before (todo.Enter c.args.placement c.args.function c.args.count) x in
    let g = c.in-Some.function.now in
    let h = c.take_arguments.new.self in
    let popped : Machine = record x { running = record x.running { hand = h } } in
    let frame = c.in_ok-frame-in-Some.frame in
    let child : List Val → Hand = λ us. record { values = []; accesses = []; vars = set_all g.params us unset } in
    if_ok_then c.activate.result (Activates frame (waits.Value g.pointer) popped c.activate.new.self)
    (StepsAlways old c.activate.new.self)
    (λ s a pointer.
    calls_on pointer x c.args.placement c.args.function c.args.count g frame h
    (sym (found x.functions.now c.args.function c.get.result (c.get.ensures.lookup).3) ∙ ap option_copied c.in-Some.is)
    c.in_ok-frame-in-Some.ensures.works
    (λ u.
    c.in_ok-frame-in-Some.ensures.hand u
    ∙ ap (λ vs. child (map (val u) vs)) c.as_slice.ensures.value
    ∙ ap child (c.in_ok-args.ensures.args u))
    c.in_ok-args.ensures.rest c.activate.new.self s a)
    c.activate.ensures
