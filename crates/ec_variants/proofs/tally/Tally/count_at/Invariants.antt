use Rattle.std.proofs.Common.{◌≡◌, ◌+◌}
use Rattle.ec_variants.proofs.tally.Tally.count_at.Given as goal

abbrev pub invariant-loop-other : goal.invariant-loop-other
invariant-loop-other l = l.self.texts ≡ l.fn.self.texts + (2 + l.other-index)
