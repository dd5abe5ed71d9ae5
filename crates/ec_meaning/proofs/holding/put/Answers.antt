use Rattle.std.proofs.Common.{◌∙◌, length, ◌<◌, ◌≡◌, ap, arith}
use Rattle.ec_meaning.specs.Seen as seen
use Rattle.ec_meaning.proofs.Tables.{table_put, table_pushed}
use Rattle.ec_meaning.proofs.holding.put.Goals as goal

pub returns-then-number-len : goal.returns-then-number-len
returns-then-number-len c =
    let within : c.args.number < length c.args.vars.now.items = omega (arith, c.if-number-len.true, c.len.ensures) in
    λ u. table_put u c.args.vars.now.items c.args.number c.args.value within

pub returns : goal.returns
returns c =
    let behind : length c.args.vars.now.items ≡ c.args.number =
    omega (arith, c.if-number-len.false, c.len.ensures, c.requires)
    in
    λ u. ap (seen.table u) c.in_ok-push.ensures.items ∙ table_pushed u c.args.vars.now.items c.args.number c.args.value behind
