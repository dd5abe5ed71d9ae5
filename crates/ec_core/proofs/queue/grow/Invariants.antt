use Rattle.std.proofs.Common.{◌≡◌, ◌++◌, ◌-◌, replicate}
use Rattle.ec_core.specs.Queues.{grown}
use Rattle.ec_core.proofs.queue.grow.Given as goal

abbrev pub invariant-loop : goal.invariant-loop
invariant-loop g l = l.list ++ replicate (l.count - l.counter) l.filler ≡ grown l.count l.filler l.fn.list
