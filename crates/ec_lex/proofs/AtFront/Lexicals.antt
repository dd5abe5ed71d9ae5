-- Fronts that are tokens which a source text can give.
use Rattle.std.proofs.Common.{◌≡◌, ℕ, ◌^◌, ℤ, pos, Bool, true, false, List, [], ◌∷◌, ◌++◌, map, refl, sym, subst, Some, None, cond, arith}
use Rattle.std.specs.Prelude.{◌&&◌, nat_lt, slice_index}
use Rattle.std.specs.List.{list_all}
use Rattle.std.specs.Option.{option_map}
use Rattle.std.specs.Str.Parse.{digits_value}
use Rattle.std.proofs.lemmas.Bool.{and_parts, and_from, false≢true}
use Rattle.std.proofs.lemmas.Bool.Decides.{nat_tests}
use Rattle.std.proofs.lemmas.List.Sums.{take_while-cons}
use Rattle.ec_base.specs.declared.token.Token.{Token}
use Rattle.ec_base.specs.declared.token.TokenKind.TheVariants.{Number}
use Rattle.ec_base.specs.Lexical.{AllLexical, begins_word, is_identifier, is_lexical, is_string_byte}
use Rattle.ec_lex.specs.Bytes.{is_word_byte, run}
use Rattle.ec_lex.specs.Numbers.{number_value, is_decimal}

-- ---- words

run_all : (bytes : List ℕ) → list_all is_word_byte (run bytes) ≡ true
run_all [] = refl
run_all (b ∷ bytes) = rw (take_while-cons is_word_byte b bytes) (here (is_word_byte b) refl (run_all bytes))
  where
    here : (p : Bool) → p ≡ is_word_byte b → list_all is_word_byte (run bytes) ≡ true → list_all is_word_byte (cond p (b ∷ run bytes) []) ≡ true
    here true e rest = and_from (is_word_byte b) (list_all is_word_byte (run bytes)) (sym e) rest
    here false e rest = refl

pub begins_is_word_byte : (b : ℕ) → begins_word b ≡ true → is_word_byte b ≡ true
begins_is_word_byte b h = grind (arith, nat_tests)

pub word_lexical : (text : List ℕ) → begins_word (slice_index text 0) ≡ true → is_identifier (run text) ≡ true
word_lexical [] h = absurd (false≢true h)
word_lexical (b ∷ rest) h = rw (take_while-cons is_word_byte b rest) (rw (begins_is_word_byte b h) (and_from (begins_word b) (list_all is_word_byte (run rest)) h (run_all rest)))

-- ---- numbers

below : (all less : Bool) (v : ℕ) (n : ℤ) → less ≡ nat_lt v (2 ^ 63) → Some n ≡ option_map pos (cond (all && less) (Some v) None) → is_lexical (Number n) ≡ true
below true true v n e h = let same : n ≡ pos v = cc in subst (λ z. is_lexical (Number z) ≡ true) (sym same) (sym e)
below true false v n e h = let clash : Some n ≡ None = h in cc
below false less v n e h = let clash : Some n ≡ None = h in cc

pub number_lexical : (digits : List ℕ) (n : ℤ) → Some n ≡ option_map pos (number_value digits) → is_lexical (Number n) ≡ true
unfolding number_value
number_lexical digits n h = below (is_decimal digits) (nat_lt (digits_value 10 digits) (2 ^ 63)) (digits_value 10 digits) n refl h

-- ---- tokens

pub lexical_push : (tokens : List Token) (t : Token) → AllLexical (map (λ x. x.kind) tokens) → is_lexical t.kind ≡ true → AllLexical (map (λ x. x.kind) (tokens ++ t ∷ []))
lexical_push [] t h k = and_from (is_lexical t.kind) true k refl
lexical_push (x ∷ tokens) t h k =
    let both = and_parts (is_lexical x.kind) (list_all is_lexical (map (λ y. y.kind) tokens)) h in
    and_from (is_lexical x.kind) (list_all is_lexical (map (λ y. y.kind) (tokens ++ t ∷ []))) both.0 (lexical_push tokens t both.1 k)

pub bytes_push : (bytes : List ℕ) (b : ℕ) → list_all is_string_byte bytes ≡ true → is_string_byte b ≡ true → list_all is_string_byte (bytes ++ b ∷ []) ≡ true
bytes_push [] b h k = and_from (is_string_byte b) true k refl
bytes_push (x ∷ bytes) b h k =
    let both = and_parts (is_string_byte x) (list_all is_string_byte bytes) h in
    and_from (is_string_byte x) (list_all is_string_byte (bytes ++ b ∷ [])) both.0 (bytes_push bytes b both.1 k)
