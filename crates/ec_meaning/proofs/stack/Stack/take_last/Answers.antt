use Rattle.std.proofs.Common.{rules, sym, ap, ◌∙◌, reverse}
use Rattle.std.proofs.lemmas.Result.{IfOk-weaker}
use Rattle.ec_meaning.proofs.Lists.{taken_last, left_last}
use Rattle.ec_meaning.proofs.stack.Stack.take_last.Goals as goal

pub returns-clause-taken : goal.returns-clause-taken
returns-clause-taken g c =
    IfOk-weaker c.split_off.result _ _
    (λ items is. is ∙ taken_last c.self.inside.items.items c.args.self.now c.saturating_sub-left.result c.args.count
    (search rules) (sym c.self.view_is))
    c.split_off.ensures.tail

pub returns-clause-left : goal.returns-clause-left
returns-clause-left g c =
    IfOk-weaker c.split_off.result _ _
    (λ items is. ap reverse is ∙ left_last c.self.inside.items.items c.args.self.now c.saturating_sub-left.result c.args.count
    (search rules) (sym c.self.view_is))
    c.split_off.ensures.items
