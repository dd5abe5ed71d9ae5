use Rattle.std.proofs.Common.{refl, sym, ap, subst, ◌∙◌, map}
use Rattle.ec_resolve.specs.Erased.{first_value}
use Rattle.ec_types.specs.Meaning.Memory as memory
use Rattle.ec_meaning.specs.Reached.{Gave}
use Rattle.ec_meaning.specs.Seen.{val, core}
use Rattle.ec_meaning.proofs.Handled.{top_is, gave}
use Rattle.ec_meaning.proofs.performing.allocate.Goals as goal

pub returns-clause-does : goal.returns-clause-does
returns-clause-does c = λ u call n r t.
    rw (top_is u c.args.hand.now.values ∙ ap (val u) (sym c.take_value-count.ensures.value))
    (gave u 1 0 c.args.hand.now
    (record { values = c.give.new.values; accesses = c.args.hand.now.accesses; vars = c.args.hand.now.vars })
    c.allocate-answer.result c.give.result
    (memory.allocate c.args.at (map first_value c.args.pointers.now) (val u c.take_value-count.result) (core u c.args.core.now) r)
    (core u c.allocate-answer.new.self) r
    (c.allocate-answer.ensures.does u r t)
    (subst (λ vs. Gave c.allocate-answer.result vs c.give.new.values c.give.result) c.take_value-count.ensures.left c.give.ensures)
    refl refl)
