use Rattle.ec_simple.proofs.counts.Kept.{counts_are_kept}
use Rattle.ec_simple.proofs.laws.counts_are_kept.Goals as goal

pub returns : goal.returns
returns c = counts_are_kept
