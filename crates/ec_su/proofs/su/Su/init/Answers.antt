use Rattle.std.proofs.Common.{◌+◌, sym, subst, arith}
use Rattle.ec_su.specs.Room.{AllRoomy}
use Rattle.ec_su.proofs.Room.{room_set_up}
use Rattle.ec_su.proofs.su.Su.init.Goals as goal

pub invariant_of-self-2 : goal.invariant_of-self-2
invariant_of-self-2 c =
    subst (AllRoomy (c.self.inside.handled + 1)) (sym c.in_ok-init.ensures.ok)
    (room_set_up c.self.inside.handled c.args.frame c.args.slot c.args.count c.args.reset c.args.fiber c.self.inside.slots
    (omega (arith, c.ranges.count.fits)) (omega (arith, c.ranges.reset.fits)) c.self.invariant)
