-- Strings: where one closes, and what its inside stands for. Places count from the opening quote, which is at 0.
use Rattle.std.specs.Prelude.{◌≡◌, ℕ, ◌+◌, ◌-◌, ◌<◌, ◌≤◌, Bool, true, false, not, ◌==◌, ◌&&◌, ◌||◌, if◌then◌else◌, List, [], ◌∷◌, Option, Some, None}
use Rattle.std.specs.List.{list_all}
use Rattle.ec_base.specs.declared.reason.Reason.TheVariants.{BadByte, BadEscape}
use Rattle.ec_base.specs.Lexical.{is_string_byte}
use Rattle.ec_lex.specs.declared.strings.Piece.{Piece}
use Rattle.ec_lex.specs.declared.strings.Piece.TheVariants.{Backslash, Byte, Bad}
use Rattle.ec_lex.specs.declared.strings.Decoded.{Decoded}
use Rattle.ec_lex.specs.declared.strings.Decoded.TheVariants.{Whole, Broken}
use Rattle.ec_lex.specs.Bytes.{is_control}

-- The place of the quote that closes a string, whose bytes from `at` on are these; none where the line ends before. A
-- byte is escaped where a backslash that is not escaped itself stands before it, and an escaped quote closes nothing.
abbrev pub closing : (escaped : Bool) → (at : ℕ) → List ℕ → Option ℕ
closing escaped at [] = None
closing escaped at (b ∷ rest) =
    if b == 10 then None
    else (if not escaped && b == 34 then Some at
    else closing (not escaped && b == 92) (at + 1) rest)

-- what an escaped byte stands for: `n`, `t`, `\` and `"` alone may be escaped
abbrev pub escape : ℕ → Piece
escape b =
    if b == 110 then Byte 10
    else (if b == 116 then Byte 9
    else (if b == 92 || b == 34 then Byte b
    else Bad BadEscape))

-- what a byte of a string stands for
abbrev pub piece : (escaped : Bool) → ℕ → Piece
piece true b = escape b
piece false b = if b == 92 then Backslash else (if is_control b then Bad BadByte else Byte b)

-- a decoded byte in front of what the rest stands for
abbrev pub put_byte : ℕ → Decoded → Decoded
put_byte b (Whole bytes) = Whole (b ∷ bytes)
put_byte b (Broken reason from to) = Broken reason from to

-- where a piece that ends at the place `at` begins: with its backslash
abbrev pub begin_of : (escaped : Bool) → (at : ℕ) → ℕ
begin_of true at = at - 1
begin_of false at = at

-- a piece in front of the rest, which is told whether its first byte is escaped
abbrev pub followed : (escaped : Bool) → (at : ℕ) → Piece → (Bool → Decoded) → Decoded
followed escaped at Backslash rest = rest true
followed escaped at (Byte b) rest = put_byte b (rest false)
followed escaped at (Bad reason) rest = Broken reason (begin_of escaped at) (at + 1)

-- what the inside of a string stands for from the place `at` on: its decoded bytes, or its first fault
abbrev pub decoded : (escaped : Bool) → (at : ℕ) → List ℕ → Decoded
decoded escaped at [] = Whole []
decoded escaped at (b ∷ rest) = followed escaped at (piece escaped b) (λ now. decoded now (at + 1) rest)

-- a fault has a byte or more, within the opening quote and the inside
abbrev pub IsWithin : ℕ → Decoded → Type 0
IsWithin count (Whole bytes) = Unit {0}
IsWithin count (Broken reason from to) = (from < to) × (to ≤ count + 1)

-- a byte that is stood for is one that a string may stand for
abbrev pub IsLexicalPiece : Piece → Type 0
IsLexicalPiece Backslash = Unit {0}
IsLexicalPiece (Byte b) = is_string_byte b ≡ true
IsLexicalPiece (Bad reason) = Unit {0}

-- and so are all the bytes of a string
abbrev pub IsLexicalString : Decoded → Type 0
IsLexicalString (Whole bytes) = list_all is_string_byte bytes ≡ true
IsLexicalString (Broken reason from to) = Unit {0}
