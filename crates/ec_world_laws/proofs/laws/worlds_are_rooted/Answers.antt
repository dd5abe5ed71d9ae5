use Rattle.ec_world_laws.proofs.Rooted.Steps.{start_is_rooted, steps_stay_rooted}
use Rattle.ec_world_laws.proofs.laws.worlds_are_rooted.Goals as goal

pub returns : goal.returns
returns c = record { first = start_is_rooted; steps = steps_stay_rooted }
