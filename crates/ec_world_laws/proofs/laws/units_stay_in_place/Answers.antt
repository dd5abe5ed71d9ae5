use Rattle.ec_world_laws.proofs.Units.Entries.{entries_stay_placed, new_placed, spawned_stay_placed}
use Rattle.ec_world_laws.proofs.Units.Fibers.{fibers_stay_placed}
use Rattle.ec_world_laws.proofs.laws.units_stay_in_place.Goals as goal

pub returns : goal.returns
returns c = record { first = new_placed; fibers = fibers_stay_placed; entries = entries_stay_placed; spawned = spawned_stay_placed }
