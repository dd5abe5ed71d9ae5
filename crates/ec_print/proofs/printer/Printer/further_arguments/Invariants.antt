use Rattle.std.proofs.Common.{◌≡◌, map, drop}
use Rattle.ec_print.specs.Sentence as spec
use Rattle.ec_print.specs.Writing.{with}
use Rattle.ec_print.proofs.printer.Printer.further_arguments.Given as goal

abbrev pub invariant-loop-e : goal.invariant-loop-e
invariant-loop-e l =
    with (spec.further (map spec.expression l.fn.all)) l.fn.self ≡ with (spec.further (map spec.expression (drop l.e-index l.fn.all))) l.self
