use Rattle.std.proofs.Common.{subst, sym, Err}
use Rattle.ec_base.specs.declared.fail.Fail.TheVariants.{Refused}
use Rattle.ec_types.specs.Judged.{Gives, both}
use Rattle.ec_types.proofs.Judgements.{both_refused}
use Rattle.ec_types.proofs.judged.both_refused.Goals as goal

pub returns : goal.returns
returns g c = λ x y p q.
    subst (λ r. Gives (Err (Refused r)) (both x y)) (sym c.sooner.ensures) (both_refused c.args.a c.args.b x y p q)
