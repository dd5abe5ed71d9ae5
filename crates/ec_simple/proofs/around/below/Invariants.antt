use Rattle.std.proofs.Common.{◌≡◌, filter}
use Rattle.std.specs.List.{range_with_len}
use Rattle.ec_simple.specs.Uses.{member}
use Rattle.ec_simple.proofs.around.below.Given as goal

abbrev pub invariant-loop-n : goal.invariant-loop-n
invariant-loop-n l = l.kept ≡ filter (λ x. member x l.among) (range_with_len 0 l.n)
