use Rattle.std.proofs.Common.{◌≡◌, ◌+◌, drop, sum_by}
use Rattle.ec_types.specs.Sizes as sizes
use Rattle.ec_resolve.proofs.fields.cells.Given as goal

abbrev pub invariant-loop-f : goal.invariant-loop-f
invariant-loop-f l = l.sum + sum_by (λ f. sizes.cells_of f.array) (drop l.f-index l.fields) ≡ sum_by (λ f. sizes.cells_of f.array) l.fields
