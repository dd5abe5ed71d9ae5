use Rattle.ec_world.proofs.Enabled.{exactly}
use Rattle.ec_world.proofs.world.enabled_exactly.Goals as goal

pub returns : goal.returns
returns c = exactly
