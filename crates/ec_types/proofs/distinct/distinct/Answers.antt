use Rattle.ec_types.proofs.Together.{declares_one, takes_one}
use Rattle.ec_types.proofs.distinct.distinct.Goals as goal

pub loop-n-preserved : goal.loop-n-preserved
loop-n-preserved c = record {
  seen =
      takes_one (λ n. n.now) c.args.all.now c.loop-n.n-index c.n-item.result c.loop-n.declared c.push.new.self _ c.loop-n-test.true c.n-item.is
      c.in_ok-push.ensures c.loop-n.invariant.seen;
  so_far =
      declares_one c.loop-n.declared c.push.new.self c.n-item.result.now c.also-so_far.result c.in_ok-push.ensures
      (c.also-so_far.ensures _ _ c.loop-n.invariant.so_far c.fresh.ensures);
}
