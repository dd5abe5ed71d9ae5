use Rattle.std.proofs.Common.{◌≡◌, rules, refl, ap, ◌∙◌, ◌++◌, map}
use Rattle.ec_base.specs.Format.{formatted}
use Rattle.ec_meaning.specs.Reached.{number_of}
use Rattle.ec_meaning.proofs.Handled.{print_done}
use Rattle.ec_meaning.proofs.performing.print_out.Goals as goal

pub returns-clause-does : goal.returns-clause-does
returns-clause-does c = λ u call n r t.
    let bytes_are : c.in_ok-bytes.bytes ≡ formatted c.args.string.now c.in_ok-numbers.numbers = search rules in
    let printed : c.extend_from_slice.new.self.items ≡ c.args.core.now.output.items ++ c.in_ok-bytes.bytes = search rules in
    print_done u c.args.hand.now
    (record { values = c.take_last.new.self; accesses = c.args.hand.now.accesses; vars = c.args.hand.now.vars })
    c.args.core.now (record c.args.core.now { output = c.extend_from_slice.new.self }) c.args.string.now c.args.count r
    c.in_ok-values.values.items c.in_ok-numbers.numbers c.in_ok-bytes.bytes c.in_ok-values.ensures.taken
    (c.in_ok-numbers.ensures ∙ ap (map number_of) c.as_slice.ensures.value) bytes_are c.in_ok-values.ensures.left refl refl
    printed refl refl refl
