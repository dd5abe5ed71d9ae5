use Rattle.std.proofs.Common.{◌+◌, sym, subst}
use Rattle.ec_su.specs.Room.{AllRoomy}
use Rattle.ec_su.proofs.Room.{room_incremented}
use Rattle.ec_su.proofs.su.Su.incr.Goals as goal

pub invariant_of-self : goal.invariant_of-self
invariant_of-self c =
    subst (AllRoomy (c.self.inside.handled + 1)) (sym c.increment.ensures)
    (room_incremented c.self.inside.handled c.args.frame c.args.slot c.self.inside.slots c.self.invariant)
