use Rattle.std.proofs.Common.{ap}
use Rattle.ec_meaning.specs.Seen as seen
use Rattle.ec_calls.proofs.Callees.{on_ok}
use Rattle.ec_meaning.proofs.hand.Frame.and_then.Goals as goal

pub returns-then-pop_condition-clause-works : goal.returns-then-pop_condition-clause-works
returns-then-pop_condition-clause-works c =
    on_ok c.push_two.result _ _
    (λ pushed u. rw (← c.if-pop_condition.ensures.value u) (ap (seen.works u) pushed))
    c.push_two.ensures

pub returns-else-pop_condition-clause-works : goal.returns-else-pop_condition-clause-works
returns-else-pop_condition-clause-works c =
    on_ok c.push.result _ _
    (λ pushed u. rw (← c.if-pop_condition.ensures.value u) (ap (seen.works u) pushed))
    c.push.ensures
