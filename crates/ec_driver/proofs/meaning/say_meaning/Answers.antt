use Rattle.std.proofs.Common.{inr}
use Rattle.ec_base.specs.declared.limits.TheConstants.{MAX_TICKS}
use Rattle.ec_driver.proofs.Answered.{answered_is_meant}
use Rattle.ec_driver.proofs.meaning.say_meaning.Goals as goal

pub returns-in-Ok : goal.returns-in-Ok
returns-in-Ok g c =
    (_, inr (answered_is_meant c.meanings_are_settled.ensures.most c.args.program.now c.args.args.now MAX_TICKS c.in-Ok.meant c.in-Ok.ensures.meaning), c.tell.ensures)
