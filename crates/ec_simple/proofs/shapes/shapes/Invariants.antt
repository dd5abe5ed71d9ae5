use Rattle.std.proofs.Common.{◌≡◌, ◌++◌, map, drop, filter_map}
use Rattle.ec_calls.specs.Items.{as_struct}
use Rattle.ec_simple.specs.Lower.{of_struct, shapes}
use Rattle.ec_simple.proofs.shapes.shapes.Given as goal

abbrev pub invariant-loop-item : goal.invariant-loop-item
invariant-loop-item l =
    l.shapes ++ map of_struct (filter_map as_struct (drop l.item-index l.items)) ≡ shapes (filter_map as_struct l.items)
