use Rattle.std.proofs.Common.{arith}
use Rattle.std.proofs.lemmas.List.Elements.{Contains-get_or}
use Rattle.ec_calls.proofs.Lowering.{untouched, and_this}
use Rattle.ec_calls.proofs.reach.sweep_back.Goals as goal

pub loop-left-init : goal.loop-left-init
loop-left-init c = record {
  lowers = untouched c.args.calls.now c.args.places.now;
  falls = omega arith;
  within = omega arith;
}

pub loop-left-preserved : goal.loop-left-preserved
loop-left-preserved c = record {
  lowers =
      and_this c.args.calls.now _ c.args.places.now c.loop-left.places c.relax.new.places
      (Contains-get_or c.args.calls.now _ _
      (let h = c.loop-left.invariant.within in let t = c.loop-left-test.true in omega arith))
      c.loop-left.invariant.lowers c.relax.ensures.lowers;
  falls = let h = c.loop-left.invariant.falls in let t = c.relax.ensures.falls in omega arith;
  within = let h = c.loop-left.invariant.within in omega arith;
}
