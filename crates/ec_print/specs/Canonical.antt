-- The canonical text of a program.
use Rattle.std.specs.Prelude.{ℕ, List}
use Rattle.ec_syntax.specs.declared.item.Program.{Program}
use Rattle.ec_print.specs.Sentence.{sentence}
use Rattle.ec_print.specs.Layout.{laid}

-- the tokens of the program, laid out in lines
abbrev pub canonical : Program → List ℕ
canonical p = laid (sentence p)
