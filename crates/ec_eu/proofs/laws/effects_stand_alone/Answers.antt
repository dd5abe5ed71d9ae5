use Rattle.ec_eu.proofs.Alone.Entries.{entries_stand_alone}
use Rattle.ec_eu.proofs.Alone.Fibers.{fibers_stand_alone}
use Rattle.ec_eu.proofs.laws.effects_stand_alone.Goals as goal

pub returns : goal.returns
returns c = record { entries = entries_stand_alone; fibers = fibers_stand_alone }
