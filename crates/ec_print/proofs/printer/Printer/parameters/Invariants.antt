use Rattle.std.proofs.Common.{◌≡◌, map, drop}
use Rattle.ec_print.specs.Sentence as spec
use Rattle.ec_print.specs.Writing.{with, listed_behind}
use Rattle.ec_print.proofs.printer.Printer.parameters.Given as goal

abbrev pub invariant-loop-at : goal.invariant-loop-at
invariant-loop-at l =
    with (spec.listed (map spec.variable l.fn.all)) l.fn.self ≡ with (listed_behind l.at (map spec.variable (drop l.at l.fn.all))) l.self
