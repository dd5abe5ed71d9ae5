-- A word, and a number, with a blank behind it.
use Rattle.std.proofs.Common.{◌≡◌, ℕ, ◌^◌, ◌<◌, true, false, List, [], ◌∷◌, pos, decimal, refl, rules, arith}
use Rattle.std.specs.Prelude.{nat_lt}
use Rattle.std.specs.Char.{is_ascii_digit}
use Rattle.std.specs.List.{list_all}
use Rattle.std.specs.Str.Parse.{digits_value}
use Rattle.std.proofs.lemmas.Bool.{and_parts, and_from, ltb-true, false≢true}
use Rattle.std.proofs.lemmas.Bool.Decides.{nat_tests}
use Rattle.std.proofs.lemmas.Str.Parse.{IsNumeralModel, numerals_by_value}
use Rattle.std.proofs.lemmas.Fmt.{digits_decimal}
use Rattle.ec_base.specs.declared.token.TokenKind.TheVariants as t
use Rattle.ec_base.specs.Lexical.{is_identifier}
use Rattle.ec_lex.specs.Bytes.{is_blank, is_word_byte}
use Rattle.ec_lex.specs.Tokens.{begins_word, first, IsSpelled}
use Rattle.ec_lex.specs.Tokens as spec

begins_is_word_byte : (b : ℕ) → begins_word b ≡ true → is_word_byte b ≡ true
begins_is_word_byte b h = grind (arith, nat_tests)

digit_is_word_byte : (b : ℕ) → is_ascii_digit b ≡ true → is_word_byte b ≡ true
digit_is_word_byte b d = rw d refl

-- no word goes on with a blank
blank_apart : (b : ℕ) → is_blank b ≡ true → is_word_byte b ≡ false
blank_apart b h = grind (arith, nat_tests)

-- ---- words

identifier : (w : List ℕ) → is_identifier w ≡ true → (list_all is_word_byte w ≡ true) × (first begins_word w ≡ true)
identifier [] is = absurd (false≢true is)
identifier (b ∷ w) is =
    let both = and_parts (begins_word b) (list_all is_word_byte w) is in
    (and_from (is_word_byte b) (list_all is_word_byte w) (begins_is_word_byte b both.0) both.1, both.0)

pub word_is : (w : List ℕ) (b : ℕ) (rest : List ℕ) → is_identifier w ≡ true → is_blank b ≡ true → IsSpelled w (b ∷ rest) (t.Word w)
word_is w b rest is blank =
    let both = identifier w is in
    spec.word (record { pass = both.0; no_more = blank_apart b blank }) both.1

-- ---- numbers

own : IsNumeralModel (λ ds. list_all is_ascii_digit ds ≡ true) (digits_value 10)
own = numerals_by_value _ (search rules)

digits_are_word_bytes : (ds : List ℕ) → list_all is_ascii_digit ds ≡ true → list_all is_word_byte ds ≡ true
digits_are_word_bytes [] all = refl
digits_are_word_bytes (d ∷ ds) all =
    let both = and_parts (is_ascii_digit d) (list_all is_ascii_digit ds) all in
    and_from (is_word_byte d) (list_all is_word_byte ds) (digit_is_word_byte d both.0) (digits_are_word_bytes ds both.1)

pub number_is : (n b : ℕ) (rest : List ℕ) → nat_lt n (2 ^ 63) ≡ true → is_blank b ≡ true → IsSpelled (decimal n) (b ∷ rest) (t.Number (pos n))
number_is n b rest is blank =
    let below : n < 2 ^ 63 = ltb-true n (2 ^ 63) is in
    spec.number (record { pass = digits_are_word_bytes (decimal n) (digits_decimal own n (omega (arith, below))); no_more = blank_apart b blank }) refl below
