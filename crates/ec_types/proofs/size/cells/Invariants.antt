use Rattle.std.proofs.Common.{◌≡◌, ◌+◌, ◌-◌, ◌^◌, ◌≤◌, min, sum_by, drop}
use Rattle.ec_types.specs.Sizes as sizes
use Rattle.ec_types.proofs.size.cells.Given as goal

abbrev pub invariant-loop-f : goal.invariant-loop-f
invariant-loop-f l = record {
  fits : l.sum ≤ 2 ^ 64 - 1;
  counts : min (l.sum + sum_by (λ f. sizes.cells_of f.array) (drop l.f-index l.s.fields)) (2 ^ 64 - 1) ≡ min (sizes.cells l.s) (2 ^ 64 - 1);
}
