use Rattle.std.proofs.Common.{ap, ◌∙◌}
use Rattle.std.proofs.lemmas.Result.{IfOk-weaker}
use Rattle.ec_meaning.specs.Acts.{last_values}
use Rattle.ec_meaning.proofs.hand.Hand.take_arguments.Goals as goal

pub returns-clause-args : goal.returns-clause-args
returns-clause-args c =
    IfOk-weaker c.take_values.result _ _ (λ vs is u. is u ∙ ap (last_values c.args.count) (c.pop_operand.ensures u))
    c.take_values.ensures.args
