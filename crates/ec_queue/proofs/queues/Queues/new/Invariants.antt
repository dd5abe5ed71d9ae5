use Rattle.std.proofs.Common.{◌≡◌, ◌++◌, ◌-◌, replicate, []}
use Rattle.ec_queue.proofs.queues.Queues.new.Given as goal

abbrev pub invariant-loop : goal.invariant-loop
invariant-loop g l = l.all.items ++ replicate (l.count - l.counter) [] ≡ replicate l.count []
