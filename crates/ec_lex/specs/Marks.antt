-- The marks of the language.
use Rattle.std.specs.Prelude.{ℕ, if◌then◌else◌, List, [], ◌∷◌, Option, Some, None, codes, bytes_eq}
use Rattle.ec_base.specs.declared.token.Mark.{Mark}
use Rattle.ec_base.specs.declared.token.Mark.TheVariants.{OpenPar, ClosePar, Arrow, Increment, Decrement, ShiftLeft, ShiftRight, LessEqual, GreaterEqual, Equal, NotEqual, AndAnd, OrOr, OpenBrace, CloseBrace, OpenParen, CloseParen, OpenBracket, CloseBracket, Semicolon, Comma, Dot, At, Assign, Plus, Minus, Star, Slash, Percent, And, Or, Caret, Tilde, Bang, Less, Greater}

-- the mark that these bytes spell
abbrev pub spelled : List (List ℕ × Mark) → List ℕ → Option Mark
spelled [] bytes = None
spelled (m ∷ ms) bytes = if bytes_eq m.0 bytes then Some m.1 else spelled ms bytes

-- the longer marks, which are looked for first
abbrev pub marks_of_two_bytes : List (List ℕ × Mark)
marks_of_two_bytes =
    (codes "{^", OpenPar) ∷ (codes "^}", ClosePar) ∷ (codes "->", Arrow)
    ∷ (codes "++", Increment) ∷ (codes "--", Decrement)
    ∷ (codes "<<", ShiftLeft) ∷ (codes ">>", ShiftRight) ∷ (codes "<=", LessEqual) ∷ (codes ">=", GreaterEqual)
    ∷ (codes "==", Equal) ∷ (codes "!=", NotEqual) ∷ (codes "&&", AndAnd) ∷ (codes "||", OrOr) ∷ []

-- the marks of one byte
abbrev pub marks_of_one_byte : List (List ℕ × Mark)
marks_of_one_byte =
    (codes "{", OpenBrace) ∷ (codes "}", CloseBrace) ∷ (codes "(", OpenParen) ∷ (codes ")", CloseParen)
    ∷ (codes "[", OpenBracket) ∷ (codes "]", CloseBracket)
    ∷ (codes ";", Semicolon) ∷ (codes ",", Comma) ∷ (codes ".", Dot) ∷ (codes "@", At) ∷ (codes "=", Assign)
    ∷ (codes "+", Plus) ∷ (codes "-", Minus) ∷ (codes "*", Star) ∷ (codes "/", Slash) ∷ (codes "%", Percent)
    ∷ (codes "&", And) ∷ (codes "|", Or) ∷ (codes "^", Caret) ∷ (codes "~", Tilde) ∷ (codes "!", Bang)
    ∷ (codes "<", Less) ∷ (codes ">", Greater) ∷ []

-- the mark of two bytes that these are
unfoldable pub long_mark : ℕ → ℕ → Option Mark
long_mark b c = spelled marks_of_two_bytes (b ∷ c ∷ [])

-- the mark of one byte that this is
unfoldable pub short_mark : ℕ → Option Mark
short_mark b = spelled marks_of_one_byte (b ∷ [])
