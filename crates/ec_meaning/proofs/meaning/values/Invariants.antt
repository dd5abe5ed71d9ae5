use Rattle.std.proofs.Common.{◌≡◌, map, take}
use Rattle.ec_meaning.specs.declared.value.Value.TheVariants as value
use Rattle.ec_meaning.proofs.meaning.values.Given as goal

abbrev pub invariant-loop-arg : goal.invariant-loop-arg
invariant-loop-arg l = l.values.items ≡ map value.Int (take l.arg-index l.args)
