use Rattle.std.proofs.Common.{refl, sym, subst, ◌∙◌, None, Some, IfOk}
use Rattle.ec_meaning.specs.Seen.{Takes}
use Rattle.ec_meaning.specs.Steps.{RunsOut, Advances, StepsAlways, before}
use Rattle.ec_meaning.proofs.MachineSteps.{runs_out, opens_on, handed_back}
use Rattle.ec_meaning.proofs.machine.Machine.take.Goals as goal

pub returns-then-not-pay : goal.returns-then-not-pay
returns-then-not-pay c pointer =
    let x = c.args.self.now in
    let waits = c.if-not-pay.ensures.waits refl in
    subst (RunsOut pointer (before c.args.work x)) (sym waits.1.same)
    (runs_out pointer x c.args.work (λ u. sym waits.0 ∙ c.spends.ensures u) waits.1.ticks)

pub returns-in-None : goal.returns-in-None
returns-in-None c pointer =
    let y = c.pay.new.self in
    let w = c.args.work in
    let frame = c.take.new.self in
    subst (λ x. Advances pointer (before w x) (record y { running = frame })) (sym (c.if-not-pay.ensures.paid refl))
    (opens_on pointer y w c.spends.result frame c.spends.ensures
    (subst (λ b. Takes w b y.running frame None) c.births-births.ensures
    (subst (Takes w c.births-births.result y.running frame) c.in-None.is c.in_ok-take.ensures)))

pub returns-in-Some : goal.returns-in-Some
returns-in-Some c =
    let y = c.pay.new.self in
    let w = c.args.work in
    let back = c.in-Some.work in
    let frame = c.take.new.self in
    subst (λ z. IfOk c.perform.result (StepsAlways z c.perform.new.self))
    (handed_back c.args.self.now y w back c.spends.result frame (c.if-not-pay.ensures.paid refl) c.spends.ensures
    (subst (λ b. Takes w b y.running frame (Some back)) c.births-births.ensures
    (subst (Takes w c.births-births.result y.running frame) c.in-Some.is c.in_ok-take.ensures)))
    c.perform.ensures
