use Rattle.std.proofs.Common.{◌≡◌, ◌++◌, map, drop}
use Rattle.ec_types.proofs.name_list.NameList.declarations.Given as goal

abbrev pub invariant-loop-d : goal.invariant-loop-d
invariant-loop-d l = l.self ++ map (λ d. d.name) (drop l.d-index l.fn.all) ≡ l.fn.self ++ map (λ d. d.name) l.fn.all
