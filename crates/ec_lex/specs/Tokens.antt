-- The tokens of a text and its first refusal. The text is cut into parts, one after another: each is skipped or is a
-- token.
use Rattle.std.specs.Prelude.{◌≡◌, ◌≢◌, ℕ, ◌+◌, ◌^◌, ◌<◌, Bool, true, false, not, ◌==◌, ◌||◌, ◌&&◌, List, [], ◌∷◌, ◌++◌, map, length, Contains, Option, Some, None, Result, Ok, Err, pos, codes, decimal}
use Rattle.std.specs.Char.{is_ascii_alphabetic, is_ascii_digit}
use Rattle.std.specs.List.{list_all}
use Rattle.ec_base.specs.declared.fail.Fail.{Fail}
use Rattle.ec_base.specs.declared.fail.Fail.TheVariants.{Memory, Refused}
use Rattle.ec_base.specs.declared.reason.Reason.{Reason}
use Rattle.ec_base.specs.declared.reason.Reason.TheVariants.{BadByte, BadNumber, OpenComment, OpenString, BadEscape, HashLine}
use Rattle.ec_base.specs.declared.token.Mark.{Mark}
use Rattle.ec_base.specs.declared.token.Span.{Span}
use Rattle.ec_base.specs.declared.token.Token.{Token}
use Rattle.ec_base.specs.declared.token.TokenKind.{TokenKind}
use Rattle.ec_base.specs.declared.token.TokenKind.TheVariants.{Word, Number, Str, End}
use Rattle.ec_base.specs.declared.token.TokenKind.TheVariants as kind
use Rattle.ec_base.specs.Reason.{number_of}
use Rattle.ec_lex.specs.declared.refusal.LexRefusal.{LexRefusal}
use Rattle.ec_lex.specs.Bytes.{is_line_blank, is_blank, is_word_byte, is_control}
use Rattle.ec_lex.specs.Marks.{marks_of_two_bytes, marks_of_one_byte}

-- ---- parts of a text

-- the text begins with these bytes
abbrev pub Begins : List ℕ → List ℕ → Type 0
Begins front text = (rest : List ℕ) × (text ≡ front ++ rest)

-- these bytes stand somewhere in the text
abbrev pub Holds : List ℕ → List ℕ → Type 0
Holds bytes text = (before : List ℕ) × Begins (before ++ bytes) text

-- there is a first byte, and it passes the test
abbrev pub first : (ℕ → Bool) → List ℕ → Bool
first test [] = false
first test (b ∷ bytes) = test b

-- all the bytes that pass the test and stand together at the front of the part and the rest
pub record IsAll (test : ℕ → Bool) (part rest : List ℕ) : Type 0 where
  pub pass : list_all test part ≡ true
  pub no_more : first test rest ≡ false

-- any byte but LF, which ends a line
abbrev pub is_within_line : ℕ → Bool
is_within_line b = not (b == 10)

-- Whether the bytes of a line so far are all blanks, after a part of the text, where `fresh` says whether they were
-- before.
abbrev pub fresh_after : (fresh : Bool) → List ℕ → Bool
fresh_after fresh [] = fresh
fresh_after fresh (b ∷ part) = fresh_after (b == 10 || (fresh && is_line_blank b)) part

-- ---- what is skipped

-- `#`, blanks, `include`, blanks and `<`, and whatever follows
pub record IsInclude (line : List ℕ) : Type 0 where
  pub before : List ℕ
  pub after : List ℕ
  pub more : List ℕ
  pub blank_before : list_all is_line_blank before ≡ true
  pub blank_after : list_all is_line_blank after ≡ true
  pub is : line ≡ codes "#" ++ (before ++ (codes "include" ++ (after ++ (codes "<" ++ more))))

-- A blank, a comment up to the end of its line, a comment up to the first `*/`, or an include line that is one from its
-- first byte that is no blank.
pub data IsSkipped : (fresh : Bool) → (part : List ℕ) → (rest : List ℕ) → Type 0 where
  blank : {fresh : Bool} {b : ℕ} {rest : List ℕ} → is_blank b ≡ true → IsSkipped fresh (b ∷ []) rest
  line_comment : {fresh : Bool} {part rest : List ℕ}
      → Begins (codes "//") part → IsAll is_within_line part rest → IsSkipped fresh part rest
  block_comment : {fresh : Bool} {part rest : List ℕ} (body : List ℕ)
      → part ≡ codes "/*" ++ (body ++ codes "*/") → (Holds (codes "*/") (body ++ codes "*") → ⊥)
      → IsSkipped fresh part rest
  include_line : {fresh : Bool} {part rest : List ℕ}
      → fresh ≡ true → IsInclude part → IsAll is_within_line part rest → IsSkipped fresh part rest

-- ---- tokens

-- a letter or `_`
abbrev pub begins_word : ℕ → Bool
begins_word b = is_ascii_alphabetic b || b == 95

-- a backslash and this byte stand for that byte: `n` for LF, `t` for the tab, `\` and `"` for themselves
pub data IsEscape : ℕ → ℕ → Type 0 where
  escaped_n : IsEscape 110 10
  escaped_t : IsEscape 116 9
  escaped_backslash : IsEscape 92 92
  escaped_quote : IsEscape 34 34

-- any byte but a quote, a backslash and LF
abbrev pub is_plain : ℕ → Bool
is_plain b = not (b == 34 || b == 92 || b == 10)

-- these bytes between the quotes of a string stand for those
pub data IsInside : List ℕ → List ℕ → Type 0 where
  empty : IsInside [] []
  plain : {b : ℕ} {inside bytes : List ℕ}
      → is_plain b ≡ true → is_control b ≡ false → IsInside inside bytes → IsInside (b ∷ inside) (b ∷ bytes)
  escape : {e b : ℕ} {inside bytes : List ℕ}
      → IsEscape e b → IsInside inside bytes → IsInside (92 ∷ e ∷ inside) (b ∷ bytes)

-- all that a mark or a comment may begin with
abbrev pub openings : List (List ℕ)
openings = codes "//" ∷ codes "/*" ∷ map (λ m. m.0) (marks_of_two_bytes ++ marks_of_one_byte)

-- A word, a number, a string, or the longest mark.
pub data IsSpelled : (part : List ℕ) → (rest : List ℕ) → TokenKind → Type 0 where
  word : {part rest : List ℕ}
      → IsAll is_word_byte part rest → first begins_word part ≡ true → IsSpelled part rest (Word part)
  number : {part rest : List ℕ} {value : ℕ}
      → IsAll is_word_byte part rest → part ≡ decimal value → value < 2 ^ 63 → IsSpelled part rest (Number (pos value))
  string : {part inside rest bytes : List ℕ}
      → part ≡ codes "\"" ++ (inside ++ codes "\"") → IsInside inside bytes → IsSpelled part rest (Str bytes)
  mark : {part rest : List ℕ} {m : Mark}
      → Contains (marks_of_two_bytes ++ marks_of_one_byte) (part, m)
      → ((longer : List ℕ) → Contains openings longer → length part < length longer → Begins longer (part ++ rest) → ⊥)
      → IsSpelled part rest (kind.Mark m)

-- ---- faults

-- what may stand between the quotes of a string that closes, be it right or wrong: an escaped quote closes nothing
pub data IsClosable : List ℕ → Type 0 where
  nothing : IsClosable []
  one : {b : ℕ} {inside : List ℕ} → is_plain b ≡ true → IsClosable inside → IsClosable (b ∷ inside)
  two : {e : ℕ} {inside : List ℕ} → is_within_line e ≡ true → IsClosable inside → IsClosable (92 ∷ e ∷ inside)

-- bytes that may not stand in a string: a control byte, and a backslash before a byte with which it stands for none
pub data IsBad : List ℕ → Reason → Type 0 where
  control : {b : ℕ} → is_control b ≡ true → IsBad (b ∷ []) BadByte
  no_escape : {e : ℕ} → ((b : ℕ) → IsEscape e b → ⊥) → is_within_line e ≡ true → IsBad (92 ∷ e ∷ []) BadEscape

-- nothing begins here: no blank, word, number or string, no line that has to be an include line, no mark and no comment
pub record BeginsNothing (fresh : Bool) (b : ℕ) (rest : List ℕ) : Type 0 where
  pub no_blank : is_blank b ≡ false
  pub no_word_byte : is_word_byte b ≡ false
  pub no_quote : b ≢ 34
  pub no_hash_line : fresh ≡ true → b ≢ 35
  pub no_opening : (opening : List ℕ) → Contains openings opening → Begins opening (b ∷ rest) → ⊥

-- The first fault of a text, of which nothing is cut off yet: of its three parts the second is refused.
pub data IsFault : (fresh : Bool) → (before : List ℕ) → (bad : List ℕ) → (rest : List ℕ) → Reason → Type 0 where
  bad_byte : {fresh : Bool} {b : ℕ} {rest : List ℕ}
      → BeginsNothing fresh b rest → IsFault fresh [] (b ∷ []) rest BadByte
  bad_number : {fresh : Bool} {bad rest : List ℕ}
      → IsAll is_word_byte bad rest → first is_ascii_digit bad ≡ true
      → ((value : ℕ) → value < 2 ^ 63 → bad ≢ decimal value) → IsFault fresh [] bad rest BadNumber
  open_comment : {fresh : Bool} {bad body : List ℕ}
      → bad ≡ codes "/*" ++ body → (Holds (codes "*/") body → ⊥) → IsFault fresh [] bad [] OpenComment
  open_string : {fresh : Bool} {bad line rest : List ℕ}
      → bad ≡ codes "\"" ++ line → IsAll is_within_line bad rest
      → ((inside : List ℕ) → IsClosable inside → Begins (inside ++ codes "\"") line → ⊥)
      → IsFault fresh [] bad rest OpenString
  bad_inside : {fresh : Bool} {before inside bytes bad after rest : List ℕ} {reason : Reason} (more : List ℕ)
      → before ≡ codes "\"" ++ inside → IsInside inside bytes
      → IsBad bad reason → rest ≡ after ++ (codes "\"" ++ more) → IsClosable after
      → IsFault fresh before bad rest reason
  hash_line : {fresh : Bool} {bad rest : List ℕ}
      → fresh ≡ true → Begins (codes "#") bad → IsAll is_within_line bad rest → (IsInclude bad → ⊥)
      → IsFault fresh [] bad rest HashLine

-- ---- the cuts

-- so many bytes from a place on
abbrev pub bytes_at : (at : ℕ) → (count : ℕ) → Span
bytes_at at count = record { from = at; to = at + count }

-- the refusal for a reason, at a place
abbrev pub refusal_at : Reason → Span → LexRefusal
refusal_at reason at = record { what = number_of reason; at = at }

-- The tokens and the refusal of what stands in a text from the place `at` on; fresh says whether the bytes before on
-- its line are all blanks.
pub data Cuts : (at : ℕ) → (fresh : Bool) → List ℕ → List Token → Option LexRefusal → Type 0 where
  over : {at : ℕ} {fresh : Bool} {tokens : List Token}
      → tokens ≡ record { kind = End; at = bytes_at at 0 } ∷ [] → Cuts at fresh [] tokens None
  skips : {at : ℕ} {fresh : Bool} {text part rest : List ℕ} {tokens : List Token} {refusal : Option LexRefusal}
      → text ≡ part ++ rest → IsSkipped fresh part rest
      → Cuts (at + length part) (fresh_after fresh part) rest tokens refusal → Cuts at fresh text tokens refusal
  takes : {at : ℕ} {fresh : Bool} {text part rest : List ℕ} {kind : TokenKind} {first : Token} {tokens : List Token}
      {refusal : Option LexRefusal}
      → text ≡ part ++ rest → IsSpelled part rest kind → first ≡ record { kind = kind; at = bytes_at at (length part) }
      → Cuts (at + length part) false rest tokens refusal → Cuts at fresh text (first ∷ tokens) refusal
  fails : {at : ℕ} {fresh : Bool} {text before bad rest : List ℕ} {reason : Reason} {refusal : LexRefusal}
      → text ≡ before ++ (bad ++ rest) → IsFault fresh before bad rest reason
      → refusal ≡ refusal_at reason (bytes_at (at + length before) (length bad)) → Cuts at fresh text [] (Some refusal)

-- these alone are the tokens and the refusal of the text
abbrev pub IsOnlyCut : List ℕ → List Token → Option LexRefusal → Type 0
IsOnlyCut text tokens refusal =
    (others : List Token) (other : Option LexRefusal) →
    Cuts 0 true text others other → (others ≡ tokens) × (other ≡ refusal)

-- the tokens of a text that has no refusal, or else its refusal; memory may be wanted anywhere
abbrev pub CutsInto : List ℕ → Result (List Token) (Fail LexRefusal) → Type 0
CutsInto text (Ok tokens) = Cuts 0 true text tokens None
CutsInto text (Err (Refused refusal)) = (tokens : List Token) × Cuts 0 true text tokens (Some refusal)
CutsInto text (Err Memory) = Unit {0}

-- these alone are the tokens of the text, or this alone is its refusal
abbrev pub IsOnly : List ℕ → Result (List Token) (Fail LexRefusal) → Type 0
IsOnly text (Ok tokens) = IsOnlyCut text tokens None
IsOnly text (Err (Refused refusal)) =
    (others : List Token) (other : Option LexRefusal) → Cuts 0 true text others other → other ≡ Some refusal
IsOnly text (Err Memory) = Unit {0}

-- each text has a cut, and no other
abbrev pub TextsHaveACut : Type 0
TextsHaveACut =
    (text : List ℕ) → (tokens : List Token) × (refusal : Option LexRefusal) × Cuts 0 true text tokens refusal

abbrev pub TextsHaveOneCut : Type 0
TextsHaveOneCut =
    (text : List ℕ) (tokens : List Token) (refusal : Option LexRefusal) →
    Cuts 0 true text tokens refusal → IsOnlyCut text tokens refusal
