use Rattle.std.proofs.Common.{◌≡◌, map, drop}
use Rattle.std.specs.List.{list_any}
use Rattle.ec_types.specs.Programs.{is_main}
use Rattle.ec_types.proofs.program.has_main.Given as goal

abbrev pub invariant-loop-f : goal.invariant-loop-f
invariant-loop-f l = list_any is_main (map (λ f. f.now) l.functions) ≡ list_any is_main (map (λ f. f.now) (drop l.f-index l.functions))
