use Rattle.std.proofs.Common.{◌+◌, sym, subst, arith}
use Rattle.ec_types.specs.Judged.{Gives}
use Rattle.ec_types.specs.Programs as programs
use Rattle.ec_types.proofs.Bodies.Lists.{goes_on_with, every_goes}
use Rattle.ec_types.proofs.structure.structures.Goals as goal

pub loop-s-preserved : goal.loop-s-preserved
loop-s-preserved c =
    goes_on_with (every_goes (programs.structure c.args.structs.now)) c.all-s-items.result.now c.loop-s.s-index (c.loop-s.s-index + 1) c.s-item.result
    c.also-so_far.result (omega arith) c.loop-s-test.true (sym c.s-item.is)
    (c.also-so_far.ensures _ _ c.loop-s.invariant
    (subst (λ s. Gives c.structure.result (programs.structure c.args.structs.now s)) c.def.ensures c.structure.ensures))
