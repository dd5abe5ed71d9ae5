use Rattle.std.proofs.Common.{◌≡◌, map, drop}
use Rattle.ec_print.specs.Sentence as spec
use Rattle.ec_print.specs.Writing.{with}
use Rattle.ec_print.proofs.printer.Printer.+statement.Given as goal

abbrev pub invariant-statements-loop-s : goal.invariant-statements-loop-s
invariant-statements-loop-s l =
    with (spec.joined (map spec.statement l.fn.all)) l.fn.self ≡ with (spec.joined (map spec.statement (drop l.s-index l.fn.all))) l.self
