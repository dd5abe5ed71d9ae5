use Rattle.std.proofs.Common.{◌≡◌, ◌++◌, map, drop}
use Rattle.ec_types.proofs.name_list.NameList.of_functions.Given as goal

abbrev pub invariant-loop-f : goal.invariant-loop-f
invariant-loop-f l = l.names ++ map (λ f. f.name) (map (λ f. f.now) (drop l.f-index l.all)) ≡ map (λ f. f.name) (map (λ f. f.now) l.all)
