use Rattle.ec_core.proofs.Roots.Kept.{started}
use Rattle.ec_core.proofs.world.World.start.Goals as goal

pub invariant_of-result : goal.invariant_of-result
invariant_of-result c = started c.args.code.now c.args.nodes c.args.args.now _ c.in_ok-nodes.ensures
