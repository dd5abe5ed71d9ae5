-- What contracts see of an execution unit.
use Rattle.std.specs.Prelude.{ℕ, List}
use Rattle.ec_core.specs.declared.message.Message.{Message}
use Rattle.ec_core.specs.declared.eu.Frame.{Frame}
use Rattle.ec_core.specs.declared.eu.Spawned.{Spawned}

-- frames by number, fibers that were spawned, messages on their way to the synchronisation unit, and the output
pub record Exec : Type 0 where
  pub frames : List Frame
  pub spawned : List Spawned
  pub outbox : List Message
  pub output : List ℕ
