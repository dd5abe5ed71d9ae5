use Rattle.std.proofs.Common.{◌≡◌, ◌++◌, map, drop}
use Rattle.ec_calls.specs.Effects.{all_of, statement_doing}
use Rattle.ec_calls.specs.Seen.{callees}
use Rattle.ec_calls.proofs.called.Called.«+statements».Given as goal

abbrev pub invariant-statements-loop-s : goal.invariant-statements-loop-s
invariant-statements-loop-s l =
    l.self ++ callees (all_of (map statement_doing (drop l.s-index l.statements))).effects
    ≡ l.initial.self ++ callees (all_of (map statement_doing l.statements)).effects
