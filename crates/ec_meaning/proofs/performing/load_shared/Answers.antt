use Rattle.std.proofs.Common.{refl, sym, ap, subst, ◌∙◌}
use Rattle.ec_types.specs.Meaning.Memory as memory
use Rattle.ec_meaning.specs.Reached.{Gave}
use Rattle.ec_meaning.specs.Seen.{Performs, val, access, core}
use Rattle.ec_meaning.proofs.Handled.{top_is, gave}
use Rattle.ec_meaning.proofs.performing.load_shared.Goals as goal

pub returns : goal.returns
returns c = λ u call n r t.
    rw (top_is u c.args.hand.now.values ∙ ap (val u) (sym c.take_value-pointer.ensures.value))
    (gave u 1 0 c.args.hand.now
    (record { values = c.give.new.values; accesses = c.args.hand.now.accesses; vars = c.args.hand.now.vars })
    c.load.result c.give.result
    (memory.load (memory.shared c.args.at (val u c.take_value-pointer.result)) (core u c.args.core.now) r) (core u c.args.core.now) r
    (subst (λ a. Performs (val u) c.load.result (memory.load (access u a) (core u c.args.core.now) r) (core u c.args.core.now) r)
    c.shared.ensures (c.load.ensures u r t))
    (subst (λ vs. Gave c.load.result vs c.give.new.values c.give.result) c.take_value-pointer.ensures.left c.give.ensures)
    refl refl)
