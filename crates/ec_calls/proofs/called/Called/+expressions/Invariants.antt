use Rattle.std.proofs.Common.{◌≡◌, ◌++◌, map, drop}
use Rattle.ec_calls.specs.Effects.{effects, joined}
use Rattle.ec_calls.specs.Seen.{callees}
use Rattle.ec_calls.proofs.called.Called.«+expressions».Given as goal

abbrev pub invariant-all-loop-e : goal.invariant-all-loop-e
invariant-all-loop-e l = l.self ++ callees (joined (map effects (drop l.e-index l.expressions))) ≡ l.initial.self
    ++ callees (joined (map effects l.expressions))
