-- The laid-out text of tokens is cut into the same tokens again.
use Rattle.std.specs.Prelude.{◌≡◌, true, not, List, [], ◌∷◌, ◌++◌, map, None}
use Rattle.std.specs.List.{list_all}
use Rattle.ec_base.specs.declared.token.Token.{Token}
use Rattle.ec_base.specs.declared.token.TokenKind.{TokenKind}
use Rattle.ec_base.specs.declared.token.TokenKind.TheVariants as t
use Rattle.ec_base.specs.Lexical.{AllLexical, is_end}
use Rattle.ec_lex.specs.Tokens.{Cuts}
use Rattle.ec_print.specs.Layout.{laid}

-- none of these tokens is the end of a text
abbrev pub NoEnd : List TokenKind → Type 0
NoEnd ks = list_all (λ k. not (is_end k)) ks ≡ true

-- The text of tokens that a source text can give is cut into these tokens and the end, wherever they stand in it, and
-- nothing in it is refused.
abbrev pub PrintedIsCut : Type 0
PrintedIsCut =
    (ks : List TokenKind) → AllLexical ks → NoEnd ks
    → (tokens : List Token) × Cuts 0 true (laid ks) tokens None × (map (λ x. x.kind) tokens ≡ ks ++ t.End ∷ [])
