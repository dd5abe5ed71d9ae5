use Rattle.std.proofs.Common.{◌≡◌, map, drop}
use Rattle.ec_print.specs.Sentence as spec
use Rattle.ec_print.specs.Writing.{with}
use Rattle.ec_print.proofs.printer.Printer.declarations.Given as goal

abbrev pub invariant-loop-d : goal.invariant-loop-d
invariant-loop-d l =
    with (spec.joined (map spec.declaration l.fn.all)) l.fn.self ≡ with (spec.joined (map spec.declaration (drop l.d-index l.fn.all))) l.self
