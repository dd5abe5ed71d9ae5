use Rattle.std.proofs.Common.{refl, sym, ap, subst, ◌∙◌, drop, get_or}
use Rattle.ec_types.specs.Meaning.Evaluation as evaluation
use Rattle.ec_meaning.specs.Reached.{Gave}
use Rattle.ec_meaning.specs.declared.value.Value.TheVariants.{Int}
use Rattle.std.proofs.Common.{pos, option_map}
use Rattle.ec_meaning.specs.Seen.{Performs, val, core}
use Rattle.ec_meaning.proofs.Handled.{top_is, second_is, gave, divided_is, drop_twice}
use Rattle.ec_meaning.proofs.performing.combine.Goals as goal

pub returns : goal.returns
returns c = λ core' u call n r t.
    rw (
      top_is u c.args.hand.now.values ∙ ap (val u) (sym c.take_value-right.ensures.value),
      second_is u c.args.hand.now.values
          ∙ ap (λ vs. val u (get_or vs 0 (Int (pos 0)))) (sym c.take_value-right.ensures.left)
          ∙ ap (val u) (sym c.take_value-left.ensures.value),
      sym (c.combined.ensures u t.apart),
    )
    (gave u 2 0 c.args.hand.now
    (record { values = c.give.new.values; accesses = c.args.hand.now.accesses; vars = c.args.hand.now.vars })
    c.divided.result c.give.result
    (evaluation.divided c.args.at (option_map (val u) c.combined.result) (core u core') r) (core u core') r
    (subst (λ a. Performs (val u) a (evaluation.divided c.args.at (option_map (val u) c.combined.result) (core u core') r) (core u core') r)
    (sym c.divided.ensures) (divided_is u c.args.at c.combined.result (core u core') r))
    (subst (λ vs. Gave c.divided.result vs c.give.new.values c.give.result)
    (c.take_value-left.ensures.left ∙ ap (drop 1) c.take_value-right.ensures.left ∙ drop_twice c.args.hand.now.values)
    c.give.ensures)
    refl refl)
