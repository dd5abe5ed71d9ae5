-- What waits in the outbox is nothing to an entry or a fiber.
use Rattle.std.specs.Prelude.{◌≡◌, ℕ, List, [], ◌++◌}
use Rattle.ec_code.specs.declared.code.Code.{Code}
use Rattle.ec_code.specs.declared.message.Entry.{Entry}
use Rattle.ec_code.specs.declared.message.Message.{Message}
use Rattle.ec_eu.specs.Entries.{entry}
use Rattle.ec_eu.specs.Fibers.{runs_fiber}
use Rattle.ec_eu.specs.State.{Exec}

-- the unit with an empty outbox
abbrev pub silent : Exec → Exec
silent s = record s { outbox = [] }

-- the unit with these messages in the outbox, and its own behind them
abbrev pub behind : List Message → Exec → Exec
behind ms s = record s { outbox = ms ++ s.outbox }

-- What an entry does is what it does with an empty outbox, and its messages come behind those that waited.
abbrev pub EntriesStandAlone : Type 0
EntriesStandAlone = (code : Code) (x : Entry) (s : Exec) → entry code x s ≡ behind s.outbox (entry code x (silent s))

-- The same of a fiber of a frame.
abbrev pub FibersStandAlone : Type 0
FibersStandAlone = (code : Code) (n fiber : ℕ) (s : Exec) →
    runs_fiber code n fiber s ≡ behind s.outbox (runs_fiber code n fiber (silent s))
