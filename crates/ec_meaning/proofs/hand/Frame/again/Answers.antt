use Rattle.std.proofs.Common.{refl}
use Rattle.ec_calls.proofs.Callees.{on_ok}
use Rattle.ec_meaning.proofs.hand.Frame.again.Goals as goal

pub returns-then-pop_condition-clause-works : goal.returns-then-pop_condition-clause-works
returns-then-pop_condition-clause-works c =
    on_ok c.repeat.result _ _
    (λ repeated u. rw (← c.if-pop_condition.ensures.value u) (repeated u))
    c.repeat.ensures.works

pub returns-else-pop_condition-clause-works : goal.returns-else-pop_condition-clause-works
returns-else-pop_condition-clause-works c = λ u. rw (← c.if-pop_condition.ensures.value u) refl
