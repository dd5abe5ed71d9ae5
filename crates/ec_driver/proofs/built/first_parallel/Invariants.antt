use Rattle.std.proofs.Common.{◌≡◌, map, drop}
use Rattle.ec_driver.specs.Built as built
use Rattle.ec_driver.proofs.built.first_parallel.Given as goal

abbrev pub invariant-loop-item : goal.invariant-loop-item
invariant-loop-item l =
    built.first_of (map built.in_item l.item-items) ≡ built.first_of (map built.in_item (drop l.item-index l.item-items))
