use Rattle.std.proofs.Common.{sym, subst, List, map, take, ◌+◌, arith}
use Rattle.ec_syntax.specs.declared.expression.Call.{out-Call}
use Rattle.ec_syntax.specs.declared.expression.Expr.{Expr}
use Rattle.ec_base.specs.declared.reason.Reason.TheVariants.{HeaderForm}
use Rattle.ec_calls.specs.Effects.{effects, placement_effects, joined}
use Rattle.ec_types.specs.Headers.{no_effects}
use Rattle.ec_types.specs.Judged.{Gives, Fine, refused, ◌also◌}
use Rattle.ec_types.proofs.Bodies.Headers.{no_effects-append, joined_goes, of_Binary, of_And, of_Or, of_Index, of_New, of_call, pair_still}
use Rattle.ec_types.proofs.Bodies.Lists.{goes_on_with}
use Rattle.ec_types.proofs.header.+still.Goals as goal

pub are_still-loop-e-preserved : goal.are_still-loop-e-preserved
are_still-loop-e-preserved t c =
    goes_on_with joined_goes c.args.all.now c.loop-e.e-index (c.loop-e.e-index + 1) c.e-item.result c.also-so_far.result
    (omega arith) c.loop-e-test.true (sym c.e-item.is)
    (c.also-so_far.ensures (no_effects (joined (map effects (take c.loop-e.e-index c.args.all.now)))) (no_effects (effects c.e-item.result)) c.loop-e.invariant c.is_still.ensures)

pub is_still-returns-in-Binary : goal.is_still-returns-in-Binary
is_still-returns-in-Binary t c =
    pair_still c.args.e.now c.in-Binary.a c.in-Binary.b c.get-in-Binary.result.now c.get-in-Binary-2.result.now c.also.result
    (of_Binary c.args.e.now c.in-Binary.field-0 c.in-Binary.a c.in-Binary.b c.in-Binary.is) c.get-in-Binary.ensures c.get-in-Binary-2.ensures
    (c.also.ensures (no_effects (effects c.get-in-Binary.result.now)) (no_effects (effects c.get-in-Binary-2.result.now)) c.is_still-in-Binary.ensures c.is_still-in-Binary-2.ensures)

pub is_still-returns-in-And : goal.is_still-returns-in-And
is_still-returns-in-And t c =
    pair_still c.args.e.now c.in-And.a c.in-And.b c.get-in-And.result.now c.get-in-And-2.result.now c.also-in-And.result
    (of_And c.args.e.now c.in-And.a c.in-And.b c.in-And.is) c.get-in-And.ensures c.get-in-And-2.ensures
    (c.also-in-And.ensures (no_effects (effects c.get-in-And.result.now)) (no_effects (effects c.get-in-And-2.result.now)) c.is_still-in-And.ensures c.is_still-in-And-2.ensures)

pub is_still-returns-in-Or : goal.is_still-returns-in-Or
is_still-returns-in-Or t c =
    pair_still c.args.e.now c.in-Or.a c.in-Or.b c.get-in-Or.result.now c.get-in-Or-2.result.now c.also-in-Or.result
    (of_Or c.args.e.now c.in-Or.a c.in-Or.b c.in-Or.is) c.get-in-Or.ensures c.get-in-Or-2.ensures
    (c.also-in-Or.ensures (no_effects (effects c.get-in-Or.result.now)) (no_effects (effects c.get-in-Or-2.result.now)) c.is_still-in-Or.ensures c.is_still-in-Or-2.ensures)

pub is_still-returns-in-Index : goal.is_still-returns-in-Index
is_still-returns-in-Index t c =
    pair_still c.args.e.now c.in-Index.a c.in-Index.i c.get-in-Index.result.now c.get-in-Index-2.result.now c.also-in-Index.result
    (of_Index c.args.e.now c.in-Index.a c.in-Index.i c.in-Index.is) c.get-in-Index.ensures c.get-in-Index-2.ensures
    (c.also-in-Index.ensures (no_effects (effects c.get-in-Index.result.now)) (no_effects (effects c.get-in-Index-2.result.now)) c.is_still-in-Index.ensures c.is_still-in-Index-2.ensures)

pub is_still-returns-in-Some : goal.is_still-returns-in-Some
is_still-returns-in-Some t c =
    let here : Fine = refused HeaderForm c.args.e.now.at in
    subst (λ v. Gives c.also-in-Some.result (no_effects v))
    (sym (of_New c.args.e.now c.in-New.field-0 c.in-New.count c.in-Some.count c.in-New.field-2 c.in-New.is c.in-Some.is))
    (subst (λ v. Gives c.also-in-Some.result (here also no_effects (effects v))) c.get-in-Some.ensures
    (c.also-in-Some.ensures here (no_effects (effects c.get-in-Some.result.now)) c.refused-here.ensures c.is_still-in-Some.ensures))

pub is_still_call-returns : goal.is_still_call-returns
is_still_call-returns t c =
    let x = out-Call c.args.call.now in
    let here : Fine = refused HeaderForm x.at in
    let arguments : List Expr → Fine = λ es. no_effects (joined (map effects es)) in
    let place = placement_effects x.place in
    subst (λ v. Gives c.also.result (no_effects v)) (sym (of_call c.args.call.now))
    (subst (λ v. Gives c.also.result (here also v)) (sym (no_effects-append (joined (map effects x.args)) place))
    (c.also.ensures here (arguments x.args also no_effects place) c.refused.ensures
    (c.also-parts.ensures (arguments x.args) (no_effects place)
    (subst (λ es. Gives c.are_still.result (arguments es)) c.as_slice.ensures c.are_still.ensures) c.is_still_placement.ensures)))
