-- What the functions that read a file, and those that do something with its text, promise each other.
use Rattle.std.specs.Prelude.{◌≡◌, ◌⊎◌, List, ℕ}
use Rattle.ec_base.specs.declared.fail.Fail.{Fail}
use Rattle.ec_base.specs.declared.fail.Fail.TheVariants.{Memory, Refused}
use Rattle.ec_edge.specs.Shelf.{Told}
use Rattle.ec_edge.specs.Sink.{SeenSink}
use Rattle.ec_small.specs.declared.tree.Program.{Program}
use Rattle.ec_driver.specs.declared.command.RunWords.{RunWords}
use Rattle.ec_driver.specs.declared.status.Refusal.{Refusal}
use Rattle.ec_driver.specs.declared.status.Report.{Report}
use Rattle.ec_driver.specs.declared.status.Status.{Status}
use Rattle.ec_driver.specs.declared.status.Status.TheVariants.{Done, WordsRefused, SourceRefused, Trapped, StepsSpent, ReadFault, WriteFault, NoMemory, TooDeep}
use Rattle.ec_driver.specs.Ending.{Ending, IsShown, stop}
use Rattle.ec_driver.specs.Kept.{Runs}
use Rattle.ec_driver.specs.Source.{Accepts}
use Rattle.ec_driver.specs.Task.{IsText}

-- a text isn't read: one of these refusals is its own, or memory was wanted
abbrev pub Fails : (Refusal → Type 0) → Fail Refusal → Type 0
Fails rejects (Refused r) = rejects r
Fails rejects Memory = Unit {0}

-- the status of a text that isn't read
abbrev pub status_of : Fail Refusal → Status
status_of (Refused r) = SourceRefused r
status_of Memory = NoMemory

-- this holds of some text, which is the file's as far as that is told
abbrev pub OfText : Told → (List ℕ → Type 0) → Type 0
OfText told holds = (text : List ℕ) × IsText told text × holds text

-- a file isn't read: its text is refused, or it can't be read, or memory was wanted
abbrev pub Unread : (List ℕ → Refusal → Type 0) → Told → Status → Type 0
Unread rejects told (SourceRefused r) = OfText told (λ text. rejects text r)
Unread rejects told ReadFault = Unit {0}
Unread rejects told NoMemory = Unit {0}
Unread rejects told Done = ⊥
Unread rejects told WordsRefused = ⊥
Unread rejects told (Trapped t) = ⊥
Unread rejects told StepsSpent = ⊥
Unread rejects told WriteFault = ⊥
Unread rejects told TooDeep = ⊥

-- a report of one of these endings, or of want of memory
abbrev pub EndsBy : (Ending → Type 0) → Report → SeenSink → SeenSink → SeenSink → SeenSink → Type 0
EndsBy ends x out out_after err err_after =
    (e : Ending) × ((e ≡ stop NoMemory) ⊎ ends e) × IsShown e x out out_after err err_after

-- a report of a run of this program, whose text may be any that has it
abbrev pub RunsProgram : RunWords → Program → Report → SeenSink → SeenSink → SeenSink → SeenSink → Type 0
RunsProgram c p x out out_after err err_after =
    (text : List ℕ) → Accepts text p → EndsBy (Runs c text) x out out_after err err_after
