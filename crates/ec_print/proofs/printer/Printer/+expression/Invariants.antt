use Rattle.std.proofs.Common.{◌≡◌, map, drop}
use Rattle.ec_print.specs.Sentence as spec
use Rattle.ec_print.specs.Writing.{with, listed_behind}
use Rattle.ec_print.proofs.printer.Printer.+expression.Given as goal

abbrev pub invariant-arguments-loop-at : goal.invariant-arguments-loop-at
invariant-arguments-loop-at l =
    with (spec.listed (map spec.expression l.fn.all)) l.fn.self ≡ with (listed_behind l.at (map spec.expression (drop l.at l.fn.all))) l.self
