use Rattle.ec_types.specs.Arguments.{argument}
use Rattle.ec_types.specs.Expressions.{judged}
use Rattle.ec_types.specs.Seen.{context}
use Rattle.ec_types.proofs.rules.fits.Goals as goal

pub returns-in-None : goal.returns-in-None
returns-in-None c = rw c.in-None.is (λ lets h p. c.surplus.ensures lets p)

pub returns-in-Some : goal.returns-in-Some
returns-in-Some c =
    rw c.in-Some.is (λ lets h p.
    c.of_parameter.ensures (argument lets c.in-Some.d.now (judged (context c.args.judge.now) c.args.e.now)) (c.argument.ensures lets h p))
