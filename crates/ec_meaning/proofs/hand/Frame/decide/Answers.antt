use Rattle.std.proofs.Common.{ap, refl}
use Rattle.ec_meaning.specs.Seen as seen
use Rattle.ec_calls.proofs.Callees.{on_ok}
use Rattle.ec_meaning.proofs.hand.Frame.decide.Goals as goal

pub returns-then-pop_condition-clause-works : goal.returns-then-pop_condition-clause-works
returns-then-pop_condition-clause-works c =
    on_ok c.push.result _ _
    (λ pushed u. rw (← c.if-pop_condition.ensures.value u) (ap (seen.works u) pushed))
    c.push.ensures

pub returns-in-Some-clause-works : goal.returns-in-Some-clause-works
returns-in-Some-clause-works c =
    on_ok c.push-in-Some.result _ _
    (λ pushed u. rw (← c.if-pop_condition.ensures.value u, c.in-Some.is) (ap (seen.works u) pushed))
    c.push-in-Some.ensures

pub returns-in-None-clause-works : goal.returns-in-None-clause-works
returns-in-None-clause-works c = λ u. rw (← c.if-pop_condition.ensures.value u, c.in-None.is) refl
