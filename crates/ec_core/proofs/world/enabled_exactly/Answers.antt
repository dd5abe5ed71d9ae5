use Rattle.ec_core.proofs.Enabled.{exactly}
use Rattle.ec_core.proofs.world.enabled_exactly.Goals as goal

pub returns : goal.returns
returns c = exactly
