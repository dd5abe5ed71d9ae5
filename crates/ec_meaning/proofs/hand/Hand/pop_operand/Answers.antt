use Rattle.std.proofs.Common.{ap, sym, ◌∙◌, if◌then◌else◌}
use Rattle.ec_meaning.specs.Acts.{without}
use Rattle.ec_meaning.specs.Seen.{hand}
use Rattle.ec_meaning.proofs.hand.Hand.pop_operand.Goals as goal

pub returns-then-has_operand : goal.returns-then-has_operand
returns-then-has_operand c u =
    c.pop.ensures.rest u
    ∙ ap (λ n. without n (hand u c.args.self.now))
    (sym (c.has_operand.ensures u ∙ ap (λ b. if b then 1 else 0) c.if-has_operand.true))

pub returns-else-has_operand : goal.returns-else-has_operand
returns-else-has_operand c u =
    ap (λ n. without n (hand u c.args.self.now))
    (sym (c.has_operand.ensures u ∙ ap (λ b. if b then 1 else 0) c.if-has_operand.false))
