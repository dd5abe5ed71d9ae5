use Rattle.ec_world_laws.proofs.Worlds.Worlds.{start_is_placed, steps_stay_placed}
use Rattle.ec_world_laws.proofs.laws.nodes_stay_in_place.Goals as goal

pub returns : goal.returns
returns c = record { first = start_is_placed; steps = steps_stay_placed }
