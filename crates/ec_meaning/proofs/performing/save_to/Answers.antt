use Rattle.std.proofs.Common.{refl, sym, ap, ◌∙◌}
use Rattle.ec_types.specs.Meaning.Memory as memory
use Rattle.ec_meaning.specs.Seen.{val, access, core}
use Rattle.ec_meaning.proofs.Handled.{top_is, access_is, left_behind}
use Rattle.ec_meaning.proofs.performing.save_to.Goals as goal

pub returns-clause-does : goal.returns-clause-does
returns-clause-does c = λ u call n r t.
    rw (
      top_is u c.args.hand.now.values ∙ ap (val u) (sym c.take_value-value.ensures.value),
      access_is u c.args.hand.now.accesses ∙ ap (access u) (sym c.take_access-access.ensures.value),
    )
    (left_behind u 1 1 c.args.hand.now
    (record { values = c.take_value-value.new.values; accesses = c.take_access-access.new.accesses; vars = c.args.hand.now.vars })
    c.save.result
    (memory.save (access u c.take_access-access.result) (val u c.take_value-value.result) (core u c.args.core.now) r)
    (core u c.save.new.self) r (c.save.ensures.does u r t)
    c.take_value-value.ensures.left c.take_access-access.ensures.left refl)
