-- Phrases: tokens put together.
use Rattle.std.specs.Prelude.{List, [], ◌∷◌, ◌++◌}
use Rattle.ec_base.specs.declared.token.TokenKind.{TokenKind}

infixr 5 ◌then◌
pub data Phrase : Type 0 where
  nothing : Phrase
  token : TokenKind → Phrase
  ◌then◌ : Phrase → Phrase → Phrase

-- the tokens of a phrase, in order
abbrev pub tokens : Phrase → List TokenKind
tokens nothing = []
tokens (token k) = k ∷ []
tokens (a then b) = tokens a ++ tokens b
