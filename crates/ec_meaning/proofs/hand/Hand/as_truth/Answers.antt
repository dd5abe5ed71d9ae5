use Rattle.std.proofs.Common.{◌∙◌, ap, ap₂}
use Rattle.ec_calls.proofs.Callees.{on_ok}
use Rattle.ec_types.specs.Meaning.Values as values
use Rattle.ec_meaning.specs.Acts as acts
use Rattle.ec_meaning.proofs.hand.Hand.as_truth.Goals as goal

pub returns : goal.returns
returns c =
    on_ok c.push.result _ _
    (λ pushed u. pushed u
    ∙ ap₂ acts.push (c.truth.ensures u ∙ ap values.truth (c.pop_condition-holds.ensures.value u)) (c.pop_condition-holds.ensures.rest u))
    c.push.ensures
