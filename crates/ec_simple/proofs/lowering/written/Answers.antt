use Rattle.std.proofs.Common.{◌∙◌, ap, map}
use Rattle.ec_resolve.specs.Erased as erased
use Rattle.ec_simple.proofs.puts.Programs.{body_put, written_puts}
use Rattle.ec_simple.proofs.lowering.written.Goals as goal

pub returns : goal.returns
returns c =
    let all = map erased.function c.args.all.now in
    let f = erased.function c.args.f.now in
    let put =
    body_put all c.args.name.now f c.block.new.code c.block.new.vars c.args.outlined.now c.block.new.funcs
    c.as_slice.result.now (map erased.variable c.as_slice-2.result.now) c.new-body.result c.in_ok-own.own c.in_ok-next.next
    c.as_slice.ensures (ap (map erased.variable) c.as_slice-2.ensures) c.new-body.ensures c.in_ok-own.ensures
    (c.in_ok-next.ensures ∙ c.len.ensures) c.in_ok-block.ensures in
    written_puts all c.args.name.now f c.block.new.code c.block.new.vars c.args.outlined.now c.block.new.funcs
    c.in_ok-copy.field-0 c.in_ok-narrow_all.field-0 c.in_ok-results.field-0 put c.in_ok-copy.ensures
    (c.in_ok-narrow_all.ensures ∙ c.as_slice-3.ensures) c.in_ok-results.ensures
