-- How tokens stand in lines: a line ends after each `{`, `}`, `{^` and `^}` and after each `;` outside parentheses, and
-- one space stands after each other token.
use Rattle.std.specs.Prelude.{ℕ, ◌+◌, ◌-◌, ◌==◌, Bool, true, false, if◌then◌else◌, List, [], ◌∷◌, ◌++◌, codes}
use Rattle.std.specs.Fmt.{signed_decimal}
use Rattle.ec_base.specs.declared.token.Mark.{Mark}
use Rattle.ec_base.specs.declared.token.Mark.TheVariants as m
use Rattle.ec_base.specs.declared.token.TokenKind.{TokenKind}
use Rattle.ec_base.specs.declared.token.TokenKind.TheVariants as t

-- ---- the bytes of a token

abbrev pub spelling : Mark → List ℕ
spelling m.OpenPar = codes "{^"
spelling m.ClosePar = codes "^}"
spelling m.Arrow = codes "->"
spelling m.Increment = codes "++"
spelling m.Decrement = codes "--"
spelling m.ShiftLeft = codes "<<"
spelling m.ShiftRight = codes ">>"
spelling m.LessEqual = codes "<="
spelling m.GreaterEqual = codes ">="
spelling m.Equal = codes "=="
spelling m.NotEqual = codes "!="
spelling m.AndAnd = codes "&&"
spelling m.OrOr = codes "||"
spelling m.OpenBrace = codes "{"
spelling m.CloseBrace = codes "}"
spelling m.OpenParen = codes "("
spelling m.CloseParen = codes ")"
spelling m.OpenBracket = codes "["
spelling m.CloseBracket = codes "]"
spelling m.Semicolon = codes ";"
spelling m.Comma = codes ","
spelling m.Dot = codes "."
spelling m.At = codes "@"
spelling m.Assign = codes "="
spelling m.Plus = codes "+"
spelling m.Minus = codes "-"
spelling m.Star = codes "*"
spelling m.Slash = codes "/"
spelling m.Percent = codes "%"
spelling m.And = codes "&"
spelling m.Or = codes "|"
spelling m.Caret = codes "^"
spelling m.Tilde = codes "~"
spelling m.Bang = codes "!"
spelling m.Less = codes "<"
spelling m.Greater = codes ">"

-- a byte of a string: `\n`, `\t`, `\\` and `\"` stand for LF, tab, `\` and `"`
abbrev pub escape : ℕ → List ℕ
escape b =
    if b == 10 then codes "\\n"
    else (if b == 9 then codes "\\t"
    else (if b == 92 then codes "\\\\"
    else (if b == 34 then codes "\\\""
    else b ∷ [])))

abbrev pub escaped : List ℕ → List ℕ
escaped [] = []
escaped (b ∷ bs) = escape b ++ escaped bs

-- words as they are, numbers in decimal, strings in quotes
abbrev pub spelled : TokenKind → List ℕ
spelled (t.Word w) = w
spelled (t.Number n) = signed_decimal n
spelled (t.Str s) = codes "\"" ++ escaped s ++ codes "\""
spelled (t.Mark k) = spelling k
spelled t.End = []

-- ---- lines

-- whether a line ends after a mark, behind so many open parentheses
abbrev pub ends_line : ℕ → Mark → Bool
ends_line depth m.OpenBrace = true
ends_line depth m.CloseBrace = true
ends_line depth m.OpenPar = true
ends_line depth m.ClosePar = true
ends_line depth m.Semicolon = depth == 0
ends_line depth _ = false

-- the byte after a token: a line feed or a space
abbrev pub gap : ℕ → TokenKind → ℕ
gap depth (t.Mark k) = if ends_line depth k then 10 else 32
gap depth _ = 32

-- how many parentheses are open behind a token
abbrev pub depth_after : ℕ → TokenKind → ℕ
depth_after depth (t.Mark m.OpenParen) = depth + 1
depth_after depth (t.Mark m.CloseParen) = depth - 1
depth_after depth _ = depth

-- tokens behind so many open parentheses
abbrev pub laid_from : ℕ → List TokenKind → List ℕ
laid_from depth [] = []
laid_from depth (k ∷ ks) = spelled k ++ gap depth k ∷ laid_from (depth_after depth k) ks

abbrev pub laid : List TokenKind → List ℕ
laid = laid_from 0
