use Rattle.std.proofs.Common.{◌≡◌, drop}
use Rattle.ec_calls.specs.Seen.{earlier, earliest}
use Rattle.ec_calls.proofs.Earliest.{all_printed}
use Rattle.ec_calls.proofs.printed.«+printed».Given as goal

abbrev pub invariant-first_of_all-loop-s : goal.invariant-first_of_all-loop-s
invariant-first_of_all-loop-s l = earlier l.first (earliest (all_printed (drop l.s-index l.statements)))
    ≡ earliest (all_printed l.statements)
