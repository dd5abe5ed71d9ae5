use Rattle.std.proofs.Common.{◌≡◌, ◌++◌, filter_map, drop}
use Rattle.ec_calls.specs.Items as declared
use Rattle.ec_types.proofs.items.Functions.of.Given as goal

abbrev pub invariant-loop-item : goal.invariant-loop-item
invariant-loop-item l = l.functions ++ filter_map declared.as_function (drop l.item-index l.items) ≡ filter_map declared.as_function l.items
