use Rattle.std.proofs.Common.{◌≡◌, ◌++◌, map, drop}
use Rattle.ec_types.proofs.name_list.NameList.of_structs.Given as goal

abbrev pub invariant-loop-s : goal.invariant-loop-s
invariant-loop-s l = l.names ++ map (λ s. s.name) (drop l.s-index l.all) ≡ map (λ s. s.name) l.all
