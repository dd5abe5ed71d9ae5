use Rattle.std.proofs.Common.{◌≡◌, refl, ap, ◌∙◌, ◌<◌, [], map, length, arith}
use Rattle.std.proofs.lemmas.List.{get_or-map, length-map}
use Rattle.ec_types.specs.Meaning.State.{Vars}
use Rattle.ec_types.specs.Meaning.Values.{zero_value}
use Rattle.ec_meaning.specs.Seen.{val, hand, table}
use Rattle.ec_meaning.specs.Works.{Hand}
use Rattle.ec_meaning.proofs.Parameters.{fills-start, fills-next, fills-done}
use Rattle.ec_meaning.proofs.hand.Hand.with_arguments.Goals as goal

pub loop-i-init : goal.loop-i-init
loop-i-init c u =
    let with : Vars → Hand = λ vs. record { values = []; accesses = []; vars = vs } in
    fills-start c.args.params.now (map (val u) c.args.args.now) (hand u c.with_vars-hand.result)
    (c.with_vars-hand.ensures u ∙ ap (λ vs. with (table u vs)) c.new.ensures.items)

pub loop-i-preserved : goal.loop-i-preserved
loop-i-preserved c u =
    let many : length (map (val u) c.args.args.now) ≡ length c.args.args.now = length-map c.args.args.now (val u) in
    let in_args : c.loop-i.i < length c.args.args.now = omega (arith, c.loop-i-test.true, c.min-i-end.ensures) in
    fills-next c.args.params.now (map (val u) c.args.args.now) c.loop-i.i (hand u c.loop-i.hand) (hand u c.set_variable.new.self)
    _ _ (omega (arith, c.loop-i-test.true, c.min-i-end.ensures)) (omega (arith, in_args, many)) refl
    (get_or-map (val u) c.args.args.now c.loop-i.i _ zero_value in_args) (c.in_ok-set_variable.ensures u) (c.loop-i.invariant u)

pub returns : goal.returns
returns c u =
    let many : length (map (val u) c.args.args.now) ≡ length c.args.args.now = length-map c.args.args.now (val u) in
    fills-done c.args.params.now (map (val u) c.args.args.now) c.loop-i.i (hand u c.loop-i.hand)
    (omega (arith, c.loop-i-test.false, c.min-i-end.ensures, many)) (c.loop-i.invariant u)
