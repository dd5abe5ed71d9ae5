use Rattle.std.proofs.Common.{sym, subst, ◌∙◌, IfOk}
use Rattle.ec_meaning.specs.Steps.{StepsAlways}
use Rattle.ec_meaning.proofs.machine.Machine.step.Goals as goal

pub returns-in-None : goal.returns-in-None
returns-in-None c =
    let x = c.args.self.now in
    subst
    (λ ws. IfOk c.complete.result (StepsAlways (record x { running = record x.running { works = ws } }) c.complete.new.self))
    (c.in-None.ensures.1 ∙ sym c.in-None.ensures.0) (c.complete.ensures c.in-None.ensures.1)

pub returns-in-Some : goal.returns-in-Some
returns-in-Some c =
    let x = c.args.self.now in
    subst (λ ws. IfOk c.take.result (StepsAlways (record x { running = record x.running { works = ws } }) c.take.new.self))
    (sym c.in-Some.ensures) c.take.ensures
