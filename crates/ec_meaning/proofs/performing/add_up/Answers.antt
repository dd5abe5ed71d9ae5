use Rattle.ec_types.specs.Meaning.Memory as memory
use Rattle.ec_meaning.specs.Seen.{core}
use Rattle.ec_meaning.proofs.Handled.{two_taken}
use Rattle.ec_meaning.proofs.performing.add_up.Goals as goal

pub returns-clause-does : goal.returns-clause-does
returns-clause-does c = λ u call n r t.
    two_taken u (λ pointer value. memory.add c.args.at pointer value (core u c.args.core.now) r) c.args.hand.now
    c.take_value-value.result c.take_value-pointer.result c.take_value-value.new.values c.take_value-pointer.new.values
    c.add.result (core u c.add.new.self) r c.take_value-value.ensures.value c.take_value-value.ensures.left
    c.take_value-pointer.ensures.value c.take_value-pointer.ensures.left (c.add.ensures.does u r t)
