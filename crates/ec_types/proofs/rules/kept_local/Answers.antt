use Rattle.std.proofs.Common.{refl, Ok}
use Rattle.ec_types.specs.Arguments.{stays_local}
use Rattle.ec_types.proofs.rules.kept_local.Goals as goal

pub returns : goal.returns
returns c = c.also.ensures (Ok c.args.t) (stays_local c.args.local c.args.at c.args.t) refl c.stays_local-stays.ensures
