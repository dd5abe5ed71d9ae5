use Rattle.std.proofs.Common.{ap, sym, refl, ◌∙◌}
use Rattle.ec_meaning.specs.Machine.{answered}
use Rattle.ec_meaning.specs.Seen.{hand, awaits, val}
use Rattle.ec_meaning.specs.declared.hand.Awaits.{Awaits}
use Rattle.ec_meaning.proofs.MachineSteps.{answers_as}
use Rattle.ec_meaning.proofs.machine.Machine.give_back.Goals as goal

pub returns-in_ok-push-in-Value : goal.returns-in_ok-push-in-Value
returns-in_ok-push-in-Value c pointer =
    let w = c.in-Some.field-0 in
    let v = c.pop-value.result in
    answers_as pointer c.args.self.now w c.pop.new.self c.push.new.self c.in-Some.ensures w.frame.works c.leave.new.self refl
    c.leave.ensures v c.pop-value.ensures.value
    (λ u.
    c.in_ok-push-in-Value.ensures u
    ∙ sym (ap (λ (a : Awaits). answered (awaits u a) (val u v) (hand u w.frame.hand)) c.in-Value.is))

pub returns-in-Vars : goal.returns-in-Vars
returns-in-Vars c pointer =
    let w = c.in-Some.field-0 in
    let v = c.pop-value.result in
    answers_as pointer c.args.self.now w c.pop.new.self w.frame.hand c.in-Some.ensures w.frame.works c.leave.new.self refl
    c.leave.ensures v c.pop-value.ensures.value
    (λ u. sym (ap (λ (a : Awaits). answered (awaits u a) (val u v) (hand u w.frame.hand)) c.in-Vars.is))
