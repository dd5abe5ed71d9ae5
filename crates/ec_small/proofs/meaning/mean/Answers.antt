use Rattle.std.proofs.Common.{◌∙◌, ap, rules}
use Rattle.ec_small.specs.Counting.{state, Alike}
use Rattle.ec_small.specs.Meaning.{value, nodes, last_state}
use Rattle.ec_small.proofs.Counted.{last_alike, ticks_last}
use Rattle.ec_small.proofs.meaning.mean.Goals as goal

pub returns : goal.returns
returns c =
    let ran : Alike (state c.run.new.self) (last_state c.args.p.now) =
    last_alike c.args.p.now _ _ _ _ _ _ (c.in_ok-zeros.ensures ∙ search rules) (search rules)
    c.as_slice.ensures c.as_slice-2.ensures c.declare.ensures c.in_ok-run.ensures in
    record {
      output = c.evaluate-value.ensures.spent.output ∙ c.tick.ensures.spent.output ∙ ran.output;
      value = (search rules) ∙ c.evaluate-value.ensures.value ∙ ap (λ vs. value vs c.args.p.now.result) (c.tick.ensures.spent.vars ∙ ran.vars);
      ticks =
          ticks_last c.run.new.self.ticks (last_state c.args.p.now).ticks c.tick.new.self.ticks _ (nodes c.args.p.now.result) c.evaluate-value.ensures.fits ran.ticks
          c.tick.ensures.spent.ticks c.evaluate-value.ensures.spent.ticks;
    }
