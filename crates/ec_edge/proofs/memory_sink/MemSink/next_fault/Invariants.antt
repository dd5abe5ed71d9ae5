use Rattle.std.proofs.Common.{◌≡◌, drop}
use Rattle.ec_edge.specs.MemorySink.{fault_after}
use Rattle.ec_edge.proofs.memory_sink.MemSink.next_fault.Given as goal

abbrev pub invariant-loop-call : goal.invariant-loop-call
invariant-loop-call l = fault_after l.next l.self.fails ≡ fault_after l.next (drop l.call-index l.self.fails)
