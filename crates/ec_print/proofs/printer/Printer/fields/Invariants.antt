use Rattle.std.proofs.Common.{◌≡◌, map, drop}
use Rattle.ec_print.specs.Sentence as spec
use Rattle.ec_print.specs.Writing.{with}
use Rattle.ec_print.proofs.printer.Printer.fields.Given as goal

abbrev pub invariant-loop-f : goal.invariant-loop-f
invariant-loop-f l =
    with (spec.joined (map spec.field l.fn.all)) l.fn.self ≡ with (spec.joined (map spec.field (drop l.f-index l.fn.all))) l.self
