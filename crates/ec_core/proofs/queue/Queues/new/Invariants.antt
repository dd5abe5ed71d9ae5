use Rattle.std.proofs.Common.{◌≡◌, ◌++◌, ◌-◌, replicate, []}
use Rattle.ec_core.proofs.queue.Queues.new.Given as goal

abbrev pub invariant-loop : goal.invariant-loop
invariant-loop g l = l.all.items ++ replicate (l.count - l.counter) [] ≡ replicate l.count []
