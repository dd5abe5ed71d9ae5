use Rattle.std.proofs.Common.{◌≡◌, ◌+◌, ◌++◌, drop, sum_by}
use Rattle.ec_simple.specs.Lower.{fields_from}
use Rattle.ec_types.specs.Sizes.{cells_of}
use Rattle.ec_simple.proofs.shapes.of_struct.Given as goal

abbrev pub invariant-loop-f : goal.invariant-loop-f
invariant-loop-f l =
    record {
      fields : l.fields ++ fields_from l.cells (drop l.f-index l.f-items) ≡ fields_from 0 l.f-items;
      cells : l.cells + sum_by (λ f. cells_of f.array) (drop l.f-index l.f-items) ≡ sum_by (λ f. cells_of f.array) l.f-items;
    }
