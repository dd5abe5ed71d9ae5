use Rattle.std.proofs.Common.{◌≡◌, ◌^◌, ap, subst, get_or, length, arith}
use Rattle.ec_world.proofs.Handled.{handled_below}
use Rattle.ec_world.proofs.nodes.Nodes.act.Goals as goal

pub act_at-requires : goal.act_at-requires
act_at-requires c =
    let at = c.args.c.node in
    let s = c.index_mut.result.now in
    let all : c.self.inside.all.items ≡ c.args.self.now.nodes = ap (λ w. w.nodes) c.self.view_is in
    let value = c.index_mut.ensures.value in
    let read : s ≡ get_or c.self.inside.all.items at s = cc in
    let count = ap length all in
    handled_below c.args.self.now.nodes at (2 ^ 32) s c.requires (omega (arith, c.if-at-len.false, c.len.ensures, count))
    (subst (λ xs. s ≡ get_or xs at s) all read)
