use Rattle.ec_types.proofs.Judgements.{also_fails, also_goes}
use Rattle.ec_types.proofs.judged.also.Goals as goal

pub returns-in-Err : goal.returns-in-Err
returns-in-Err g c = λ x y p q. also_fails c.in-Err.fail x y (c.in-Err.ensures x y p q)

pub returns : goal.returns
returns g c = λ x y p q. also_goes (c.in-Ok.a, c.in-Ok.field-0-1) x y (c.in-Ok.ensures x y p q)
