use Rattle.std.proofs.Common.{◌∙◌, ap}
use Rattle.ec_types.specs.Meaning.State as state
use Rattle.ec_meaning.specs.Acts as acts
use Rattle.ec_meaning.specs.Seen as seen
use Rattle.ec_calls.proofs.Callees.{on_ok}
use Rattle.ec_meaning.proofs.hand.Hand.set_variable.Goals as goal

pub returns : goal.returns
returns c =
    on_ok c.put.result _ _
    (λ put u. ap (λ vs. acts.with_vars vs (seen.hand u c.args.self.now))
    (put u ∙ ap (state.set c.args.number (seen.val u c.args.value)) (c.in_ok-reach_to.ensures.same u)))
    c.put.ensures
