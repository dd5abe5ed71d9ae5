use Rattle.std.proofs.Common.{sym, subst}
use Rattle.ec_meaning.specs.Steps.{Advances, before}
use Rattle.ec_meaning.proofs.MachineSteps.{joins_on}
use Rattle.ec_meaning.proofs.machine.Machine.perform.Goals as goal

pub returns-in-Joined : goal.returns-in-Joined
returns-in-Joined c pointer =
    subst (λ w. Advances pointer (before w c.args.self.now) c.args.self.now) (sym c.in-Joined.is)
    (joins_on pointer c.args.self.now c.in-Joined.field-0)
