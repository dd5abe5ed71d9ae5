use Rattle.std.proofs.Common.{◌≤◌, ◌-◌, ◌^◌, length, vec_len}
use Rattle.std.specs.Io.KnownBytes.{Consumes}
use Rattle.ec_edge.proofs.transfer.receive.Given as goal

abbrev pub invariant-loop-count : goal.invariant-loop-count
invariant-loop-count g l = record {
  within : length l.held.items ≤ l.most;
  taken : Consumes (g.R.Read.remaining l.initial.from) (g.R.Read.remaining l.from) l.held.items;
}

abbrev pub decreases-loop-count : goal.decreases-loop-count
decreases-loop-count g l = 2 ^ 64 - vec_len l.held
