use Rattle.std.proofs.Common.{◌≡◌, ◌*◌}
use Rattle.ec_variants.proofs.tally.tally_of.Given as goal

abbrev pub invariant-loop-at : goal.invariant-loop-at
invariant-loop-at l = l.tally.texts ≡ 14 * l.at
