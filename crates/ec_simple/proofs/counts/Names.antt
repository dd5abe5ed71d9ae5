-- Names of code: a short name is one, and so is a short name with a dot and a number behind it.
use Rattle.std.proofs.Common.{◌≡◌, refl, ap, ◌∙◌, ℕ, suc, ◌+◌, ◌-◌, ◌^◌, ◌<◌, ◌≤◌, arith, rules, lt-ltb, le-leb, leb-true, true, Bool, List, [], ◌∷◌, ◌++◌, length, codes, pos, decimal}
use Rattle.std.proofs.lemmas.Bool.{and_parts, and_from, false≢true}
use Rattle.std.proofs.lemmas.Bool.Decides.{nat_tests}
use Rattle.std.proofs.lemmas.Fmt.{digits_decimal, length-decimal-le}
use Rattle.std.proofs.lemmas.List.{length-append}
use Rattle.std.proofs.lemmas.Str.Parse.{IsNumeralModel, numerals_by_value}
use Rattle.std.specs.Char.{is_ascii_digit}
use Rattle.std.specs.Fmt.{signed_decimal}
use Rattle.std.specs.List.{list_all}
use Rattle.std.specs.Prelude.{nat_le}
use Rattle.std.specs.Str.Parse.{digits_value}
use Rattle.ec_base.specs.declared.limits.TheConstants.{MAX_CODE_NAME, MAX_NAME, MAX_SOURCE}
use Rattle.ec_base.specs.declared.text.Text.{Text}
use Rattle.ec_base.specs.Lexical.{begins_word, is_identifier, is_word_byte}
use Rattle.ec_simple.specs.Counts.{is_code_byte, is_code_name, is_short_name}
use Rattle.ec_simple.specs.Expressions.{Scope}
use Rattle.ec_simple.specs.Statements.{outlined_name}
use Rattle.ec_simple.proofs.formed.Tests.{three, all_both}

-- ---- bytes

all_so : (p q : ℕ → Bool) → ((b : ℕ) → p b ≡ true → q b ≡ true) → (bs : List ℕ) → list_all p bs ≡ true →
    list_all q bs ≡ true
all_so p q so [] h = refl
all_so p q so (b ∷ bs) h =
    let parts = and_parts (p b) (list_all p bs) h in
    and_from (q b) (list_all q bs) (so b parts.0) (all_so p q so bs parts.1)

begins_code : (b : ℕ) → begins_word b ≡ true → is_code_byte b ≡ true
begins_code b h = grind (arith, nat_tests)

word_code : (b : ℕ) → is_word_byte b ≡ true → is_code_byte b ≡ true
word_code b h = rw h refl

digit_code : (b : ℕ) → is_ascii_digit b ≡ true → is_code_byte b ≡ true
digit_code b h = rw h refl

-- ---- short names

-- what is known of a short name
pub record Short (name : Text) : Type 0 where
  pub some : 0 < length name
  pub few : length name ≤ 64
  pub bytes : list_all is_code_byte name ≡ true

identifier_some : (name : Text) → is_identifier name ≡ true → 0 < length name
identifier_some [] h = absurd (false≢true h)
identifier_some (b ∷ bs) h = omega arith

identifier_bytes : (name : Text) → is_identifier name ≡ true → list_all is_code_byte name ≡ true
identifier_bytes [] h = absurd (false≢true h)
identifier_bytes (b ∷ bs) h =
    let parts = and_parts (begins_word b) (list_all is_word_byte bs) h in
    and_from (is_code_byte b) (list_all is_code_byte bs) (begins_code b parts.0)
    (all_so is_word_byte is_code_byte word_code bs parts.1)

pub short : (name : Text) → is_short_name name ≡ true → Short name
short name h =
    let parts = and_parts (is_identifier name) (nat_le (length name) MAX_NAME) h in
    record {
      some = identifier_some name parts.0;
      few = leb-true (length name) MAX_NAME parts.1;
      bytes = identifier_bytes name parts.0;
    }

pub short_code : (name : Text) → Short name → is_code_name name ≡ true
short_code name s =
    three _ _ _ (lt-ltb 0 (length name) s.some)
    (le-leb (length name) MAX_CODE_NAME (let few = s.few in omega (arith, few))) s.bytes

-- ---- with a dot and a number

own : IsNumeralModel (λ ds. list_all is_ascii_digit ds ≡ true) (digits_value 10)
own = numerals_by_value _ (search rules)

decimal_code : (n : ℕ) → n < 2 ^ 64 → list_all is_code_byte (decimal n) ≡ true
decimal_code n l = all_so is_ascii_digit is_code_byte digit_code (decimal n) (digits_decimal own n l)

numbered_code : (name : Text) (n : ℕ) → Short name → n < 10 ^ 15 →
    is_code_name (name ++ codes "." ++ signed_decimal (pos n)) ≡ true
numbered_code name n s l =
    let d = length-decimal-le 15 n (omega arith) l (omega (arith, l)) in
    let all : length (name ++ codes "." ++ decimal n) ≡ length name + 1 + length (decimal n) =
    length-append (name ++ codes ".") (decimal n)
    ∙ ap (λ k. k + length (decimal n)) (length-append name (codes ".")) in
    let some = s.some in
    let few = s.few in
    three _ _ _ (lt-ltb 0 (length (name ++ codes "." ++ decimal n)) (omega (arith, all, some)))
    (le-leb (length (name ++ codes "." ++ decimal n)) MAX_CODE_NAME (omega (arith, all, few, d)))
    (all_both is_code_byte (name ++ codes ".") (decimal n) (all_both is_code_byte name (codes ".") s.bytes refl)
    (decimal_code n (omega (arith, l))))

-- the number of a branch or body is at most that of all the tokens
pub outlined_code : (c : Scope) (g : ℕ) → Short c.name → g < c.first + (MAX_SOURCE + 1) →
    is_code_name (outlined_name c g) ≡ true
outlined_code c g s l =
    let room : g < c.first + 1048577 = l in
    numbered_code c.name (suc (g - c.first)) s (omega (arith, room))
