-- What holds of all programs.
use Rattle.std.specs.Prelude.{Option}
use Rattle.ec_base.specs.declared.text.Text.{Text}
use Rattle.ec_base.specs.declared.token.Span.{Span}
use Rattle.ec_syntax.specs.declared.item.Program.{Program}
use Rattle.ec_calls.specs.Items.{functions}
use Rattle.ec_calls.specs.Prints.{ArePrints}

-- each function reaches a first `printf`, or none
abbrev pub FirstPrintsExist : Type 0
FirstPrintsExist = (p : Program) → (prints : Text → Option Span) × ArePrints (functions p) prints
