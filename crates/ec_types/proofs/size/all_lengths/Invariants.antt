use Rattle.std.proofs.Common.{◌≡◌, drop}
use Rattle.std.specs.List.{list_all}
use Rattle.ec_types.specs.Sizes as sizes
use Rattle.ec_types.proofs.size.all_lengths.Given as goal

abbrev pub invariant-loop-f : goal.invariant-loop-f
invariant-loop-f l = list_all (λ f. sizes.is_length f.array) l.fields ≡ list_all (λ f. sizes.is_length f.array) (drop l.f-index l.fields)
