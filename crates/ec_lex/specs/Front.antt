-- What stands at the front of a text: nothing, something that is skipped, a token, or a fault. Places count from the
-- front.
use Rattle.std.specs.Prelude.{◌≡◌, ℕ, ◌+◌, ◌-◌, ◌<◌, ◌≤◌, Bool, true, false, ◌==◌, ◌&&◌, ◌||◌, if◌then◌else◌, List, [], ◌∷◌, length, take, drop, slice_index, Option, Some, None, pos}
use Rattle.std.specs.Char.{is_ascii_digit}
use Rattle.ec_base.specs.declared.reason.Reason.TheVariants.{BadByte, BadNumber, OpenComment, OpenString, HashLine}
use Rattle.ec_base.specs.Lexical.{is_lexical}
use Rattle.ec_base.specs.declared.token.Mark.{Mark}
use Rattle.ec_base.specs.declared.token.TokenKind.TheVariants.{Word, Number, Str}
use Rattle.ec_base.specs.declared.token.TokenKind.TheVariants as kind
use Rattle.ec_lex.specs.declared.front.Front.{Front}
use Rattle.ec_lex.specs.declared.front.Front.TheVariants.{Over, Skips, Takes, Fails}
use Rattle.ec_lex.specs.declared.strings.Decoded.{Decoded}
use Rattle.ec_lex.specs.declared.strings.Decoded.TheVariants.{Whole, Broken}
use Rattle.ec_lex.specs.Bytes.{is_blank, is_word_byte, run, line_length, is_include}
use Rattle.ec_lex.specs.Numbers.{number_value}
use Rattle.ec_lex.specs.Marks.{long_mark, short_mark}
use Rattle.ec_lex.specs.Strings.{closing, decoded}

-- ---- words and numbers

-- a word: all the word bytes that stand together
unfoldable pub word : List ℕ → Front
word text = Takes (Word (run text)) (length (run text))

-- a number of so many bytes, or a fault of all of them
abbrev pub numbered : Option ℕ → ℕ → Front
numbered (Some n) count = Takes (Number (pos n)) count
numbered None count = Fails BadNumber 0 count

-- a number: all the word bytes that stand together have to be one
unfoldable pub number : List ℕ → Front
number text = numbered (number_value (run text)) (length (run text))

-- ---- strings

-- a string of so many bytes, or the fault in it
abbrev pub told : ℕ → Decoded → Front
told count (Whole bytes) = Takes (Str bytes) count
told count (Broken reason from to) = Fails reason from to

-- a string whose closing quote stands at this place, or one that its line leaves open
abbrev pub closed : List ℕ → Option ℕ → Front
closed text None = Fails OpenString 0 (line_length text)
closed text (Some end) = told (end + 1) (decoded false 1 (take (end - 1) (drop 1 text)))

-- a string, which has to close on its line before its inside is looked at
unfoldable pub string : List ℕ → Front
string text = closed text (closing false 1 (drop 1 text))

-- ---- comments and lines

-- the place after the first `*/`, in a text whose bytes from `at` on are these
abbrev pub comment_end : (at : ℕ) → List ℕ → Option ℕ
comment_end at [] = None
comment_end at (b ∷ rest) = if b == 42 && slice_index rest 0 == 47 then Some (at + 2) else comment_end (at + 1) rest

-- a comment that ends at this place, or one that is open to the end
abbrev pub commented : List ℕ → Option ℕ → Front
commented text (Some end) = Skips end false
commented text None = Fails OpenComment 0 (length text)

-- a comment in `/* */`
unfoldable pub comment : List ℕ → Front
comment text = commented text (comment_end 2 (drop 2 text))

-- a line whose first byte that is no blank is `#`
unfoldable pub hash_line : List ℕ → Front
hash_line text =
    if is_include (drop 1 text) then Skips (line_length text) false else Fails HashLine 0 (line_length text)

-- ---- marks

-- the mark of one byte, or a byte that begins no token
abbrev pub short : Option Mark → Front
short (Some m) = Takes (kind.Mark m) 1
short None = Fails BadByte 0 1

-- the mark of two bytes, or else the other
abbrev pub long : Option Mark → Front → Front
long (Some m) other = Takes (kind.Mark m) 2
long None other = other

-- the longest mark that these two bytes begin with
unfoldable pub mark : ℕ → ℕ → Front
mark b next = long (long_mark b next) (short (short_mark b))

-- ---- the front

-- A blank, a number, a word, a string, a comment, a line with `#` in front, or a mark. Fresh says that the bytes before
-- on this line are all blanks: a `#` that is not fresh begins no token.
unfoldable pub front : (fresh : Bool) → List ℕ → Front
front fresh [] = Over
front fresh (b ∷ rest) =
    let text : List ℕ = b ∷ rest in
    let next = slice_index rest 0 in
    if is_blank b then Skips 1 (fresh || b == 10)
    else (if is_ascii_digit b then number text
    else (if is_word_byte b then word text
    else (if b == 34 then string text
    else (if b == 47 && next == 47 then Skips (line_length text) false
    else (if b == 47 && next == 42 then comment text
    else (if b == 35 && fresh then hash_line text
    else mark b next))))))

-- so many bytes, at least one, and no more than there are
abbrev pub IsPart : ℕ → List ℕ → Type 0
IsPart count text = (1 ≤ count) × (count ≤ length text)

-- a front is a part of its text, and is over only at the end
abbrev pub IsFrontOf : List ℕ → Front → Type 0
IsFrontOf text Over = length text ≡ 0
IsFrontOf text (Skips count fresh) = IsPart count text
IsFrontOf text (Takes kind count) = IsPart count text
IsFrontOf text (Fails reason from to) = (from < to) × (to ≤ length text)

-- a token at the front is one that a source text can give
abbrev pub IsLexicalFront : Front → Type 0
IsLexicalFront Over = Unit {0}
IsLexicalFront (Skips count fresh) = Unit {0}
IsLexicalFront (Takes kind count) = is_lexical kind ≡ true
IsLexicalFront (Fails reason from to) = Unit {0}
