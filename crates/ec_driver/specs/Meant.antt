-- How `means` ends on a typed program.
use Rattle.std.specs.Prelude.{◌≡◌, ℕ, if◌then◌else◌, nat_le, List, [], ℤ, pos}
use Rattle.ec_base.specs.declared.limits.TheConstants.{MAX_ACTIVATIONS, MAX_TICKS}
use Rattle.ec_syntax.specs.declared.item.Program.{Program as Tree}
use Rattle.ec_types.specs.Meaning.Programs.{Meaning, Ended, Trapped, Unfinished, mean}
use Rattle.ec_types.specs.Meaning.Programs as meaning
use Rattle.ec_driver.specs.declared.status.Status.{Status}
use Rattle.ec_driver.specs.declared.status.Status.TheVariants as status
use Rattle.ec_driver.specs.Ending.{Ending, bare, ending}
use Rattle.ec_driver.specs.Lines.{line_of}
use Rattle.ec_driver.specs.Source.{HasTree}

-- the status of a meaning within the ticks that there are
abbrev pub status_of : meaning.Ending → Status
status_of Ended = status.Done
status_of (Trapped t) = status.Trapped t
status_of Unfinished = status.StepsSpent

-- its output so far, and the line of its status
abbrev pub told : Meaning → Ending
told m = ending (bare (status_of m.ending)) m.output (line_of (status_of m.ending) m.result)

-- where more activations would be open than may be there is no output
abbrev pub too_deep : Ending
too_deep = ending (bare status.TooDeep) [] (line_of status.TooDeep (pos 0))

abbrev pub meant : Meaning → Ending
meant m = if nat_le m.most MAX_ACTIVATIONS then told m else too_deep

-- the text's program means this with these arguments
abbrev pub MeansSo : List ℤ → List ℕ → Ending → Type 0
MeansSo args text e =
    (tree : Tree) × HasTree text tree × (e ≡ meant (mean tree args MAX_TICKS))
