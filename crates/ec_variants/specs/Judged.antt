-- What is seen of a text that is judged.
use Rattle.std.specs.Prelude.{◌≡◌, ◌⊎◌, ◌≤◌, ℕ, true, List, None}
use Rattle.ec_base.specs.declared.token.Span.{Span}
use Rattle.ec_base.specs.declared.token.Token.{Token}
use Rattle.ec_lex.specs.Tokens.{Cuts}
use Rattle.ec_print.specs.Canonical.{canonical}
use Rattle.ec_syntax.specs.declared.item.Program.{Program}
use Rattle.ec_syntax.specs.Grammar.Reading.{Reads}

-- the text has these tokens, which are this program
abbrev pub Parses : List ℕ → List Token → Program → Type 0
Parses text tokens p = Cuts 0 true text tokens None × Reads tokens p

-- the text is a program within the limits
pub record IsProgram (text : List ℕ) : Type 0 where
  pub tokens : List Token
  pub tree : Program
  pub parses : Parses text tokens tree

-- the text is a program's, of which it is the canonical text
pub record PrintsAsItIs (text : List ℕ) : Type 0 where
  pub program : IsProgram text
  pub same : canonical program.tree ≡ text

-- the number has a name: it is one of a text that has no tokens, or of tokens that are no program
abbrev pub IsNamed : ℕ → Type 0
IsNamed number = ((1 ≤ number) × (number ≤ 6)) ⊎ ((10 ≤ number) × (number ≤ 12))

-- a place in so many bytes
abbrev pub IsInside : Span → ℕ → Type 0
IsInside at count = (at.from ≤ at.to) × (at.to ≤ count)
