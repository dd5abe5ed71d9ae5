use Rattle.std.proofs.Common.{◌≡◌, ◌++◌, map, drop}
use Rattle.ec_types.proofs.name_list.NameList.of_fields.Given as goal

abbrev pub invariant-loop-f : goal.invariant-loop-f
invariant-loop-f l = l.names ++ map (λ f. f.name) (drop l.f-index l.all) ≡ map (λ f. f.name) l.all
