use Rattle.ec_world_laws.proofs.Rooted.Worlds.{start_is_named, steps_stay_named}
use Rattle.ec_world_laws.proofs.laws.what_is_named_is_there.Goals as goal

pub returns : goal.returns
returns c = record { first = start_is_named; steps = steps_stay_named }
