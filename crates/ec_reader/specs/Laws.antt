-- What the refusals of tokens keep.
use Rattle.std.specs.Prelude.{◌≡◌, List}
use Rattle.ec_base.specs.declared.token.Token.{Token}
use Rattle.ec_syntax.specs.declared.item.Program.{Program}
use Rattle.ec_syntax.specs.Grammar.Reading.{Reads}
use Rattle.ec_reader.specs.declared.refusal.ReadRefusal.{ReadRefusal}
use Rattle.ec_reader.specs.Refusals.{Refuses}

-- tokens have at most one refusal
abbrev pub OneRefusal : Type 0
OneRefusal = (tokens : List Token) (one other : ReadRefusal) → Refuses tokens one → Refuses tokens other → one ≡ other

-- and none where they are a program
abbrev pub RefusedIsNoProgram : Type 0
RefusedIsNoProgram = (tokens : List Token) (refusal : ReadRefusal) (p : Program) → Refuses tokens refusal → Reads tokens p → ⊥
