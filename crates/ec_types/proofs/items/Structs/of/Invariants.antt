use Rattle.std.proofs.Common.{◌≡◌, ◌++◌, filter_map, drop}
use Rattle.ec_calls.specs.Items as declared
use Rattle.ec_types.proofs.items.Structs.of.Given as goal

abbrev pub invariant-loop-item : goal.invariant-loop-item
invariant-loop-item l = l.structs ++ filter_map declared.as_struct (drop l.item-index l.items) ≡ filter_map declared.as_struct l.items
