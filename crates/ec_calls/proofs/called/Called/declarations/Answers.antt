use Rattle.std.proofs.Common.{refl, arith}
use Rattle.ec_calls.specs.Effects.{of_option, effects}
use Rattle.ec_calls.proofs.Callees.{all_declared, one_more}
use Rattle.ec_calls.proofs.called.Called.declarations.Goals as goal

pub loop-d-preserved : goal.loop-d-preserved
loop-d-preserved c =
    one_more (λ d. of_option effects d.init) all_declared (λ x xs. refl) c.args.declarations.now c.loop-d.d-index _
    c.d-item.result c.loop-d.self _ _
    (omega arith) c.loop-d-test.true c.d-item.is c.in_ok-if_any.ensures c.loop-d.invariant
