use Rattle.std.proofs.Common.{◌≡◌, ◌∙◌, ap, length, arith}
use Rattle.ec_world.proofs.Lists.{start_count}
use Rattle.ec_world.proofs.world.World.start.Goals as goal

pub invariant_of-result : goal.invariant_of-result
invariant_of-result c =
    let count : length c.in_ok-nodes.nodes.nodes ≡ c.args.nodes =
    ap (λ w. length w.nodes) c.in_ok-nodes.ensures ∙ start_count c.args.code.now c.args.nodes c.args.args.now c.requires.some in
    (omega (arith, count, c.requires.some), omega (arith, count, c.requires.few))
