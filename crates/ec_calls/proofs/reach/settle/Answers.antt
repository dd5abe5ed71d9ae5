use Rattle.ec_calls.proofs.Lowering.{untouched, and_then}
use Rattle.ec_calls.proofs.reach.settle.Goals as goal

pub loop-places-init : goal.loop-places-init
loop-places-init c = untouched c.args.calls.now c.args.places.now

pub loop-places-preserved : goal.loop-places-preserved
loop-places-preserved c =
    and_then c.args.calls.now c.args.places.now c.loop-places.places c.sweep_back.new.places c.loop-places.invariant
    (and_then c.args.calls.now c.loop-places.places c.sweep.new.places c.sweep_back.new.places
    c.sweep.ensures.lowers c.sweep_back.ensures.lowers)

pub returns-clause-lowers : goal.returns-clause-lowers
returns-clause-lowers c =
    and_then c.args.calls.now c.args.places.now c.loop-places.places c.sweep.new.places c.loop-places.invariant
    c.sweep.ensures.lowers
