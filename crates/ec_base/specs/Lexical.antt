-- Tokens that a source text can give: one by one, and the tokens of a whole text.
use Rattle.std.specs.Prelude.{◌≡◌, ◌≤◌, ◌<◌, ℕ, ◌+◌, ◌^◌, pos, negsuc, Bool, true, false, not, ◌==◌, ◌&&◌, ◌||◌, nat_lt, List, [], ◌∷◌, length, map}
use Rattle.std.specs.Char.{is_ascii_alphabetic, is_ascii_alphanumeric}
use Rattle.std.specs.Int.{is_in_range}
use Rattle.std.specs.List.{list_all}
use Rattle.ec_base.specs.declared.limits.TheConstants.{MAX_SOURCE}
use Rattle.ec_base.specs.declared.token.Token.{Token}
use Rattle.ec_base.specs.declared.token.TokenKind.{TokenKind}
use Rattle.ec_base.specs.declared.token.TokenKind.TheVariants as t

-- a letter or `_`
abbrev pub begins_word : ℕ → Bool
begins_word b = is_ascii_alphabetic b || b == 95

-- a letter, a digit or `_`
abbrev pub is_word_byte : ℕ → Bool
is_word_byte b = is_ascii_alphanumeric b || b == 95

-- a letter or `_`, and then letters, digits and `_`
abbrev pub is_identifier : List ℕ → Bool
is_identifier [] = false
is_identifier (b ∷ bs) = begins_word b && list_all is_word_byte bs

-- a byte that a string may stand for: tab, LF, or any other that is no control byte
abbrev pub is_string_byte : ℕ → Bool
is_string_byte b = b == 9 || b == 10 || (is_in_range 32 255 b && not (b == 127))

-- a token that a source text can give
abbrev pub is_lexical : TokenKind → Bool
is_lexical (t.Word w) = is_identifier w
is_lexical (t.Number (pos n)) = nat_lt n (2 ^ 63)
is_lexical (t.Number (negsuc n)) = false
is_lexical (t.Str s) = list_all is_string_byte s
is_lexical (t.Mark m) = true
is_lexical t.End = true

-- a source text can give each of these tokens
abbrev pub AllLexical : List TokenKind → Type 0
AllLexical ts = list_all is_lexical ts ≡ true

-- whether a token is the end of the text
abbrev pub is_end : TokenKind → Bool
is_end t.End = true
is_end _ = false

-- Tokens that begin at this place or later, each at or behind the end of the one before it. The last, and no other, is
-- the end of the text, and has no bytes.
pub data Rises : ℕ → List Token → Type 0 where
  last : {from : ℕ} {x : Token} → is_end x.kind ≡ true → from ≤ x.at.from → x.at.to ≡ x.at.from → Rises from (x ∷ [])
  next : {from : ℕ} {x : Token} {rest : List Token} →
      is_end x.kind ≡ false → from ≤ x.at.from → x.at.from < x.at.to → Rises x.at.to rest → Rises from (x ∷ rest)

-- What holds of the tokens of each source text of at most `MAX_SOURCE` bytes: there is at most one a byte and the end,
-- they stand in order, and a text can give each of them.
pub record AreTokens (tokens : List Token) : Type 0 where
  pub few : length tokens ≤ MAX_SOURCE + 1
  pub rising : Rises 0 tokens
  pub lexical : AllLexical (map (λ x. x.kind) tokens)
