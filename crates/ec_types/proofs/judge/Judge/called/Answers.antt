use Rattle.ec_base.specs.declared.reason.Reason.TheVariants.{Unknown}
use Rattle.ec_types.specs.Judged.{refused}
use Rattle.ec_types.proofs.judge.Judge.called.Goals as goal

pub returns-in-None : goal.returns-in-None
returns-in-None c = rw c.in-None.is (λ x p. c.also.ensures (refused Unknown c.args.name) x c.refused.ensures p)
