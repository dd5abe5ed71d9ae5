use Rattle.std.proofs.Common.{subst}
use Rattle.ec_types.specs.Meaning.Memory as memory
use Rattle.ec_meaning.specs.Seen.{Performs, val, access, core}
use Rattle.ec_meaning.proofs.Handled.{two_taken}
use Rattle.ec_meaning.proofs.performing.send_to.Goals as goal

pub returns-clause-does : goal.returns-clause-does
returns-clause-does c = λ u call n r t.
    two_taken u (λ pointer value. memory.save (memory.shared c.args.at pointer) value (core u c.args.core.now) r)
    c.args.hand.now c.take_value-value.result c.take_value-pointer.result c.take_value-value.new.values
    c.take_value-pointer.new.values c.save.result (core u c.save.new.self) r c.take_value-value.ensures.value
    c.take_value-value.ensures.left c.take_value-pointer.ensures.value c.take_value-pointer.ensures.left
    (subst (λ a. Performs (λ done. done) c.save.result
    (memory.save (access u a) (val u c.take_value-value.result) (core u c.args.core.now) r) (core u c.save.new.self) r)
    c.shared.ensures (c.save.ensures.does u r t))
