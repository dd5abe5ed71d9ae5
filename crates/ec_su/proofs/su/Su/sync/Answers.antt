use Rattle.std.proofs.Common.{◌+◌, sym, subst}
use Rattle.ec_su.specs.Room.{AllRoomy}
use Rattle.ec_su.proofs.Room.{room_synced}
use Rattle.ec_su.proofs.su.Su.sync.Goals as goal

pub invariant_of-self : goal.invariant_of-self
invariant_of-self c =
    subst (AllRoomy (c.self-2.inside.handled + 1)) (sym c.sync.ensures)
    (room_synced c.self-2.inside.handled c.args.frame c.args.slot c.self-2.inside.slots c.self-2.invariant)
