use Rattle.std.proofs.Common.{◌≡◌, length, ◌-◌}
use Rattle.ec_meaning.specs.Seen as seen
use Rattle.ec_meaning.specs.Seen.{Untold}
use Rattle.ec_meaning.proofs.holding.reach_to.Given as goal

abbrev pub invariant-loop-vars : goal.invariant-loop-vars
invariant-loop-vars l = (u : Untold) → seen.table u l.vars.items ≡ seen.table u l.initial.vars.items

abbrev pub decreases-loop-vars : goal.decreases-loop-vars
decreases-loop-vars l = l.number - length l.vars.items
