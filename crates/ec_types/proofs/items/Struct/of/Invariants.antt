use Rattle.std.proofs.Common.{◌≡◌, ◌++◌, map, drop}
use Rattle.ec_types.proofs.items.Struct.of.Given as goal

abbrev pub invariant-loop-f : goal.invariant-loop-f
invariant-loop-f l = l.names ++ map (λ f. f.name.text) (drop l.f-index l.def.fields) ≡ map (λ f. f.name.text) l.def.fields
