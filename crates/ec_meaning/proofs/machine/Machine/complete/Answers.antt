use Rattle.std.proofs.Common.{ap, sym, ◌∙◌}
use Rattle.ec_meaning.specs.Acts.{push}
use Rattle.ec_meaning.specs.Machine.{missing, completed}
use Rattle.ec_meaning.specs.Seen.{hand, awaits}
use Rattle.ec_meaning.specs.declared.hand.Awaits.{Awaits}
use Rattle.ec_meaning.specs.declared.hand.Frame.{Frame}
use Rattle.ec_meaning.specs.declared.hand.Hand.{Hand}
use Rattle.ec_meaning.proofs.MachineSteps.{completes_as}
use Rattle.ec_meaning.proofs.machine.Machine.complete.Goals as goal

pub returns-in_ok-push-in-Value : goal.returns-in_ok-push-in-Value
returns-in_ok-push-in-Value c done pointer =
    let x = c.args.self.now in
    let w = c.in-Some.field-0 in
    let frame = c.replace-child.new.dest in
    completes_as pointer x w c.pop.new.self c.push.new.self c.in-Some.ensures frame.works c.leave.new.self
    (ap (λ (f : Frame). f.works) c.replace-child.ensures.after) c.leave.ensures done
    (λ u.
    c.in_ok-push-in-Value.ensures u ∙ ap (λ v. push v (hand u frame.hand)) (c.missing.ensures u)
    ∙ ap (λ (f : Frame). push (missing c.in-Value.pointer) (hand u f.hand)) c.replace-child.ensures.after
    ∙ sym (ap (λ (a : Awaits). completed (awaits u a) (hand u x.running.hand) (hand u w.frame.hand)) c.in-Value.is))

pub returns-in-Vars : goal.returns-in-Vars
returns-in-Vars c done pointer =
    let x = c.args.self.now in
    let w = c.in-Some.field-0 in
    let frame = c.replace-child.new.dest in
    let h : Hand = record frame.hand { vars = c.into_vars.result } in
    completes_as pointer x w c.pop.new.self h c.in-Some.ensures frame.works c.leave.new.self
    (ap (λ (f : Frame). f.works) c.replace-child.ensures.after) c.leave.ensures done
    (λ u.
    ap (λ vs. hand u (record frame.hand { vars = vs })) (c.into_vars.ensures ∙ ap (λ (f : Frame). f.hand.vars) c.replace-child.ensures.value)
    ∙ ap (λ (f : Frame). hand u (record f.hand { vars = x.running.hand.vars })) c.replace-child.ensures.after
    ∙ sym (ap (λ (a : Awaits). completed (awaits u a) (hand u x.running.hand) (hand u w.frame.hand)) c.in-Vars.is))
