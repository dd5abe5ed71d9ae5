use Rattle.std.proofs.Common.{◌≡◌, ◌&&◌, drop}
use Rattle.std.specs.List.{list_all}
use Rattle.ec_types.specs.Programs.{is_plain}
use Rattle.ec_types.specs.Types.{is_int, value_type}
use Rattle.ec_types.proofs.program.takes_ints.Given as goal

abbrev pub invariant-loop-d : goal.invariant-loop-d
invariant-loop-d l =
    list_all (λ d. is_plain d.mode && is_int (value_type d.ty)) l.params ≡ list_all (λ d. is_plain d.mode && is_int (value_type d.ty)) (drop l.d-index l.params)
