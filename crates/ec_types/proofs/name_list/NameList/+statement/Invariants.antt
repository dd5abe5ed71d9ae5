use Rattle.std.proofs.Common.{◌≡◌, ◌++◌, map, drop}
use Rattle.ec_calls.specs.Effects.{all_of, statement_doing}
use Rattle.ec_types.proofs.name_list.NameList.+statement.Given as goal

abbrev pub invariant-statements-loop-s : goal.invariant-statements-loop-s
invariant-statements-loop-s l =
    l.self ++ (all_of (map statement_doing (drop l.s-index l.fn.all))).variables ≡ l.fn.self ++ (all_of (map statement_doing l.fn.all)).variables
