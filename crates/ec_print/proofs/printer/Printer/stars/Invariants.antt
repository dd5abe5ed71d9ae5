use Rattle.std.proofs.Common.{◌≡◌, ◌-◌}
use Rattle.ec_print.specs.Sentence as spec
use Rattle.ec_print.specs.Writing.{with}
use Rattle.ec_print.proofs.printer.Printer.stars.Given as goal

abbrev pub invariant-loop : goal.invariant-loop
invariant-loop l = with (spec.stars l.fn.count) l.fn.self ≡ with (spec.stars (l.fn.count - l.counter)) l.self
