use Rattle.std.proofs.Common.{◌≡◌, map, drop}
use Rattle.ec_print.specs.Sentence as spec
use Rattle.ec_print.specs.Writing.{with}
use Rattle.ec_print.proofs.printer.Printer.program.Given as goal

abbrev pub invariant-loop-i : goal.invariant-loop-i
invariant-loop-i l = with (spec.program l.fn.p) l.fn.self ≡ with (spec.joined (map spec.item (drop l.i-index l.fn.p.items))) l.self
