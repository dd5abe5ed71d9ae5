use Rattle.std.proofs.Common.{refl}
use Rattle.ec_calls.specs.Effects.{assign_effects, effects}
use Rattle.ec_calls.proofs.Callees.{of_three}
use Rattle.ec_calls.proofs.called.Called.forall_header.Goals as goal

pub returns : goal.returns
returns c =
    of_three assign_effects effects assign_effects c.assign-2.result _ c.args.first.now c.args.first.now
    c.args.test.now c.args.test.now
    c.args.next.now c.args.next.now _ _ _ _ refl refl refl refl c.in_ok-assign.ensures c.in_ok-expression.ensures
    c.assign-2.ensures
