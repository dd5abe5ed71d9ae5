use Rattle.std.proofs.Common.{map}
use Rattle.ec_meaning.specs.Seen.{Untold, val, hand}
use Rattle.ec_meaning.proofs.Parameters.{Fills}
use Rattle.ec_meaning.proofs.hand.Hand.with_arguments.Given as goal

abbrev pub invariant-loop-i : goal.invariant-loop-i
invariant-loop-i l = (u : Untold) → Fills l.params (map (val u) l.args) l.i (hand u l.hand)
