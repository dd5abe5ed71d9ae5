-- What each command does: the table, and how its rows are read.
use Rattle.std.specs.Prelude.{◌≡◌, ◌⊎◌, ℕ, List, [], ◌∷◌, codes, Result, Ok, Err}
use Rattle.ec_edge.specs.Shelf.{SeenShelf, Told, holds, missing, untold}
use Rattle.ec_edge.specs.Sink.{SeenSink}
use Rattle.ec_driver.specs.declared.command.Command.{Command}
use Rattle.ec_driver.specs.declared.command.Command.TheVariants.{Check, Print, Means, Run}
use Rattle.ec_driver.specs.declared.command.WordsRefusal.{WordsRefusal}
use Rattle.ec_driver.specs.declared.status.Refusal.{Refusal}
use Rattle.ec_driver.specs.declared.status.Report.{Report}
use Rattle.ec_driver.specs.declared.status.Status.{Status}
use Rattle.ec_driver.specs.declared.status.Status.TheVariants.{Done, WordsRefused, SourceRefused, Trapped, StepsSpent, ReadFault, WriteFault, NoMemory, TooDeep}
use Rattle.ec_driver.specs.Command.{told_command}
use Rattle.ec_driver.specs.Ending.{Ending, IsShown, shown, stop}
use Rattle.ec_driver.specs.Kept.{Runs}
use Rattle.ec_driver.specs.Meant.{MeansSo}
use Rattle.ec_driver.specs.Source.{IsChecked, IsProgram, IsSmall, IsTypedText, Misfits, Prints, Rejects, Unchecked, Untyped}
use Rattle.ec_driver.specs.Status.{IsOfOrFails, IsOrFails, done}

-- ---- the table

-- the files that a command reads, with which statuses it refuses their texts, which texts are in order, how it may end
-- on these, and which files it may change
pub record Task : Type 1 where
  pub files : List (List ℕ)
  pub refuses : List (List ℕ) → Status → Type 0
  pub accepts : List (List ℕ) → Type 0
  pub ends : List (List ℕ) → Ending → Type 0
  pub changes : List ℕ → Type 0

-- this holds of the one text that there is
abbrev pub one : (List ℕ → Type 0) → List (List ℕ) → Type 0
one is [] = ⊥
one is (text ∷ []) = is text
one is (text ∷ other ∷ texts) = ⊥

-- the status says that the source is refused so
abbrev pub IsRefusal : (Refusal → Type 0) → Status → Type 0
IsRefusal rejects Done = ⊥
IsRefusal rejects WordsRefused = ⊥
IsRefusal rejects (SourceRefused r) = rejects r
IsRefusal rejects (Trapped t) = ⊥
IsRefusal rejects StepsSpent = ⊥
IsRefusal rejects ReadFault = ⊥
IsRefusal rejects WriteFault = ⊥
IsRefusal rejects NoMemory = ⊥
IsRefusal rejects TooDeep = ⊥

-- the task of a command that reads one source and changes no file
abbrev pub of_source : List ℕ → (List ℕ → Refusal → Type 0) → (List ℕ → Type 0) → (List ℕ → Ending → Type 0) → Task
of_source file rejects accepts ends = record {
  files = file ∷ [];
  refuses = λ texts s. one (λ text. IsRefusal (rejects text) s) texts;
  accepts = one accepts;
  ends = λ texts e. one (λ text. ends text e) texts;
  changes = λ name. ⊥;
}

-- a check writes that a program is accepted, a print the canonical text of any program
abbrev pub Checks : List ℕ → Ending → Type 0
Checks text e = IsChecked text × (e ≡ shown (codes "accepted\n"))

abbrev pub Shows : List ℕ → Ending → Type 0
Shows text e = (canon : List ℕ) × Prints text canon × (e ≡ shown canon)

abbrev pub task : Command → Task
task (Check file) = of_source file Unchecked IsChecked Checks
task (Print file) = of_source file Misfits IsProgram Shows
task (Means file args) = of_source file Untyped IsTypedText (MeansSo args)
task (Run r) = of_source r.file Rejects IsSmall (Runs r)

-- ---- texts of files

-- the text is the file's, as far as that is told: a missing file has none
abbrev pub IsText : Told → List ℕ → Type 0
IsText untold text = Unit {0}
IsText missing text = ⊥
IsText (holds bytes) text = text ≡ bytes

-- the texts are those of the first of these files, as far as they are told
abbrev pub AreTexts : (List ℕ → Told) → List (List ℕ) → List (List ℕ) → Type 0
AreTexts told files [] = Unit {0}
AreTexts told [] (text ∷ texts) = ⊥
AreTexts told (file ∷ files) (text ∷ texts) = IsText (told file) text × AreTexts told files texts

-- the first of these files are told, and hold these texts
abbrev pub HoldTexts : (List ℕ → Told) → List (List ℕ) → List (List ℕ) → Type 0
HoldTexts told files [] = Unit {0}
HoldTexts told [] (text ∷ texts) = ⊥
HoldTexts told (file ∷ files) (text ∷ texts) = (told file ≡ holds text) × HoldTexts told files texts

-- ---- how a command ends

-- a task may end so: memory is wanted, or a file can't be read, or its texts are refused, or they are in order
pub data MayEnd (t : Task) (told : List ℕ → Told) (e : Ending) : Type 0 where
  wanting : e ≡ stop NoMemory → MayEnd t told e
  unread : e ≡ stop ReadFault → MayEnd t told e
  refused : (texts : List (List ℕ)) (s : Status) →
      AreTexts told t.files texts → t.refuses texts s → e ≡ stop s → MayEnd t told e
  ended : (texts : List (List ℕ)) → AreTexts told t.files texts → t.ends texts e → MayEnd t told e

-- what the words ask for may end so: words that are no command are refused
abbrev pub WordsMayEnd : Result Command WordsRefusal → (List ℕ → Told) → Ending → Type 0
WordsMayEnd (Ok c) told e = MayEnd (task c) told e
WordsMayEnd (Err r) told e = (e ≡ stop NoMemory) ⊎ (e ≡ stop WordsRefused)

-- the report and the sinks show an ending that the command may have
abbrev pub Does : Command → SeenShelf → SeenSink → SeenSink → SeenSink → SeenSink → Report → Type 0
Does c shelf out out_after err err_after x =
    (e : Ending) × MayEnd (task c) shelf.told e × IsShown e x out out_after err err_after

-- the same of the command that the words are, if they are one
abbrev pub Ends : List (List ℕ) → SeenShelf → SeenSink → SeenSink → SeenSink → SeenSink → Report → Type 0
Ends words shelf out out_after err err_after x =
    (e : Ending) × WordsMayEnd (told_command words) shelf.told e × IsShown e x out out_after err err_after

-- texts that the shelf tells and the command refuses are refused so, unless the call fails first
abbrev pub RefusesTold : Command → SeenShelf → Status → Type 0
RefusesTold c shelf s =
    (texts : List (List ℕ)) (t : Status) →
    HoldTexts shelf.told (task c).files texts → (task c).refuses texts t → IsOrFails t s

-- the command is done on texts that the shelf tells and that are in order, unless the call fails first
abbrev pub AcceptsTold : Command → SeenShelf → Status → Type 0
AcceptsTold c shelf s =
    (texts : List (List ℕ)) →
    HoldTexts shelf.told (task c).files texts → (task c).accepts texts → IsOfOrFails done s

-- every file that the command may not change is told as it was, and no write fault is counted where it may change none
pub record Leaves (c : Command) (old new : SeenShelf) : Type 0 where
  pub told : (name : List ℕ) → ((task c).changes name → ⊥) → new.told name ≡ old.told name
  pub faults : ((name : List ℕ) → (task c).changes name → ⊥) → new.write_faults ≡ old.write_faults
