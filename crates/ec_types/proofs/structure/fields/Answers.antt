use Rattle.std.proofs.Common.{sym, ◌+◌, arith}
use Rattle.ec_types.specs.Programs as programs
use Rattle.ec_types.proofs.Bodies.Lists.{goes_on_with, every_goes}
use Rattle.ec_types.proofs.structure.fields.Goals as goal

pub loop-f-preserved : goal.loop-f-preserved
loop-f-preserved c =
    goes_on_with (every_goes (programs.field c.args.structs.now)) c.args.all.now c.loop-f.f-index (c.loop-f.f-index + 1) c.f-item.result c.also-so_far.result
    (omega arith) c.loop-f-test.true (sym c.f-item.is) (c.also-so_far.ensures _ _ c.loop-f.invariant c.field.ensures)
