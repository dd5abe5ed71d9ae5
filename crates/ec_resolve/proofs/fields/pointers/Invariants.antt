use Rattle.std.proofs.Common.{◌≡◌, ◌++◌, map, drop}
use Rattle.ec_calls.specs.Effects.{joined}
use Rattle.ec_resolve.specs.Pointers as pointers
use Rattle.ec_resolve.proofs.fields.pointers.Given as goal

abbrev pub invariant-loop-f : goal.invariant-loop-f
invariant-loop-f l = l.told ++ joined (map pointers.field (drop l.f-index l.fields)) ≡ joined (map pointers.field l.fields)
