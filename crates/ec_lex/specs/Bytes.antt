-- Kinds of bytes, and runs of them. A byte past a text's end reads as 0, which is no blank, no word byte and in no
-- mark.
use Rattle.std.specs.Prelude.{ℕ, Bool, not, ◌==◌, ◌||◌, ◌&&◌, List, drop, take_while, slice_index, codes, nat_eq, nat_lt}
use Rattle.std.specs.Char.{is_ascii_alphanumeric}
use Rattle.std.specs.List.{prefix_len, starts_with}

-- space, tab and CR, which end no line
abbrev pub is_line_blank : ℕ → Bool
is_line_blank b = b == 32 || b == 9 || b == 13

-- a blank: one of those, or LF
abbrev pub is_blank : ℕ → Bool
is_blank b = is_line_blank b || b == 10

-- a letter, a digit or `_`
abbrev pub is_word_byte : ℕ → Bool
is_word_byte b = is_ascii_alphanumeric b || b == 95

-- a byte that may stand in no string: a control byte other than LF, which ends the line
abbrev pub is_control : ℕ → Bool
is_control b = (nat_lt b 32 && not (b == 10)) || b == 127

-- the word bytes at the front, as many as there are
abbrev pub run : List ℕ → List ℕ
run = take_while is_word_byte

-- how many bytes stand before the end of the line, which is LF or the text's end
abbrev pub line_length : List ℕ → ℕ
line_length = prefix_len (λ b. not (b == 10))

-- the text without the blanks in front of it that end no line
abbrev pub past_line_blanks : List ℕ → List ℕ
past_line_blanks text = drop (prefix_len is_line_blank text) text

-- blanks, `include`, blanks and `<`, all on one line: what has to follow a `#` that begins a line
abbrev pub is_include : List ℕ → Bool
is_include text =
    let word = past_line_blanks text in
    starts_with nat_eq word (codes "include") && slice_index (past_line_blanks (drop 7 word)) 0 == 60
