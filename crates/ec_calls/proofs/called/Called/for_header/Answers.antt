use Rattle.std.proofs.Common.{refl}
use Rattle.ec_calls.specs.Effects.{assign_effects, effects, of_option}
use Rattle.ec_calls.proofs.Callees.{of_three}
use Rattle.ec_calls.proofs.called.Called.for_header.Goals as goal

pub returns : goal.returns
returns c =
    of_three (of_option assign_effects) (of_option effects) (of_option assign_effects) c.assign_if_any-2.result _
    c.args.first.now c.args.first.now
    c.args.test.now c.args.test.now c.args.next.now c.args.next.now _ _ _ _ refl refl refl refl
    c.in_ok-assign_if_any.ensures c.in_ok-if_any.ensures c.assign_if_any-2.ensures
