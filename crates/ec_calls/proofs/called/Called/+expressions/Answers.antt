use Rattle.std.proofs.Common.{refl, map, arith}
use Rattle.ec_calls.specs.Effects.{effects, joined}
use Rattle.ec_calls.proofs.Callees.{is_Binary, is_And, is_Or, is_Index, of_two, one_more, of_call}
use Rattle.ec_calls.proofs.called.Called.+expressions.Goals as goal

pub all-loop-e-preserved : goal.all-loop-e-preserved
all-loop-e-preserved t c =
    one_more effects (λ es. joined (map effects es)) (λ x xs. refl) c.args.expressions.now c.loop-e.e-index _
    c.e-item.result c.loop-e.self _ _ (omega arith) c.loop-e-test.true
    c.e-item.is c.in_ok-expression.ensures c.loop-e.invariant

pub call-returns : goal.call-returns
call-returns t c =
    of_call c.placement.result c.args.call.now c.as_slice.result.now c.args.self.now c.add.new.self c.all.new.self
    c.placement.new.self
    c.as_slice.ensures c.in_ok-add.ensures c.in_ok-all.ensures c.placement.ensures

pub expression-returns-in_ok-expression-in-Binary : goal.expression-returns-in_ok-expression-in-Binary
expression-returns-in_ok-expression-in-Binary t c =
    of_two effects effects c.expression-in-Binary-2.result (effects c.args.e.now) c.in-Binary.a
    c.get-in-Binary.result.now c.in-Binary.b c.get-in-Binary-2.result.now _ _ _
    (is_Binary c.args.e.now c.in-Binary.field-0 c.in-Binary.a c.in-Binary.b c.in-Binary.is) c.get-in-Binary.ensures
    c.get-in-Binary-2.ensures
    c.in_ok-expression-in-Binary.ensures c.expression-in-Binary-2.ensures

pub expression-returns-in_ok-expression-in-And : goal.expression-returns-in_ok-expression-in-And
expression-returns-in_ok-expression-in-And t c =
    of_two effects effects c.expression-in-And-2.result (effects c.args.e.now) c.in-And.a c.get-in-And.result.now
    c.in-And.b c.get-in-And-2.result.now _ _ _
    (is_And c.args.e.now c.in-And.a c.in-And.b c.in-And.is) c.get-in-And.ensures c.get-in-And-2.ensures
    c.in_ok-expression-in-And.ensures c.expression-in-And-2.ensures

pub expression-returns-in_ok-expression-in-Or : goal.expression-returns-in_ok-expression-in-Or
expression-returns-in_ok-expression-in-Or t c =
    of_two effects effects c.expression-in-Or-2.result (effects c.args.e.now) c.in-Or.a c.get-in-Or.result.now
    c.in-Or.b c.get-in-Or-2.result.now _ _ _
    (is_Or c.args.e.now c.in-Or.a c.in-Or.b c.in-Or.is) c.get-in-Or.ensures c.get-in-Or-2.ensures
    c.in_ok-expression-in-Or.ensures c.expression-in-Or-2.ensures

pub expression-returns-in_ok-expression-in-Index : goal.expression-returns-in_ok-expression-in-Index
expression-returns-in_ok-expression-in-Index t c =
    of_two effects effects c.expression-in-Index-2.result (effects c.args.e.now) c.in-Index.a
    c.get-in-Index.result.now c.in-Index.b c.get-in-Index-2.result.now _ _ _
    (is_Index c.args.e.now c.in-Index.a c.in-Index.b c.in-Index.is) c.get-in-Index.ensures c.get-in-Index-2.ensures
    c.in_ok-expression-in-Index.ensures c.expression-in-Index-2.ensures
