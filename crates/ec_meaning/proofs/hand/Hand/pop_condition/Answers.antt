use Rattle.std.proofs.Common.{◌∙◌, ap}
use Rattle.ec_types.specs.Meaning.Values as values
use Rattle.ec_meaning.proofs.hand.Hand.pop_condition.Goals as goal

pub returns-clause-value : goal.returns-clause-value
returns-clause-value c = λ u. c.holds.ensures u ∙ ap values.holds (c.pop.ensures.value u)
