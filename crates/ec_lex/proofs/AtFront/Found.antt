-- What is spelled at the front of a text is what `front` finds there.
use Rattle.std.proofs.Common.{◌≡◌, ◌≢◌, ℕ, zero, suc, ◌^◌, ◌<◌, ◌≤◌, Bool, true, false, not, List, [], ◌∷◌, ◌++◌, length, take, drop, Option, Some, None, Contains, pos, refl, ap, ap₂, sym, subst, ◌∙◌, arith, decimal, inl, inr}
use Rattle.std.specs.Prelude.{◌||◌, ◌&&◌, ◌==◌, ◌⊎◌, slice_index, bytes_eq}
use Rattle.std.specs.Char.{is_ascii_digit}
use Rattle.std.specs.List.{list_all}
use Rattle.std.proofs.lemmas.Bool.{cond-true, cond-false, and_parts, and_left, eqb-true, eqb-false, ne_eqb, not-true, false_from_ne_true, false≢true, or_parts}
use Rattle.std.proofs.lemmas.Bool.Decides.{nat_tests}
use Rattle.std.proofs.lemmas.Fmt.{decimal_nonempty, decimal_injective, digits_decimal}
use Rattle.std.proofs.lemmas.List.{get_or-map}
use Rattle.std.proofs.lemmas.List.Elements.{Contains-append_cases, Contains-append_left, Contains-append_right}
use Rattle.std.proofs.lemmas.Slice.Eq.{bytes_eq-Decides}
use Rattle.ec_base.specs.declared.reason.Reason.TheVariants.{BadByte, BadNumber}
use Rattle.ec_base.specs.declared.token.Mark.{Mark}
use Rattle.ec_base.specs.declared.token.TokenKind.TheVariants.{Word, Number, Str}
use Rattle.ec_base.specs.declared.token.TokenKind.TheVariants as kind
use Rattle.ec_lex.specs.declared.front.Front.TheVariants.{Takes, Fails}
use Rattle.ec_lex.specs.Bytes.{is_blank, is_word_byte, run}
use Rattle.ec_lex.specs.Numbers.{number_value}
use Rattle.ec_lex.specs.Marks.{spelled, marks_of_two_bytes, marks_of_one_byte, long_mark, short_mark}
use Rattle.ec_lex.specs.Front.{word, number, numbered, mark, long, short, front}
use Rattle.ec_lex.specs.Tokens.{first, begins_word, Begins, openings, IsAll, BeginsNothing}
use Rattle.ec_lex.proofs.Inside.Parts.{first_is}
use Rattle.ec_lex.proofs.AtFront.Spelling.{own, Wrote, number_told}
use Rattle.ec_lex.proofs.AtFront.Marking.{each, spelled_in}
use Rattle.ec_lex.proofs.AtFront.Answering.{run_is, take_part}

-- ---- words and numbers

run_part : (part rest : List ℕ) → IsAll is_word_byte part rest → run (part ++ rest) ≡ part
run_part part rest all = ap (λ n. take n (part ++ rest)) (run_is is_word_byte part rest all.pass all.no_more) ∙ take_part part rest

begins_apart : (b : ℕ) → begins_word b ≡ true → (is_blank b ≡ false) × (is_ascii_digit b ≡ false) × (is_word_byte b ≡ true)
begins_apart b w = (grind (arith, nat_tests), grind (arith, nat_tests), grind (arith, nat_tests))

digit_apart : (b : ℕ) → is_ascii_digit b ≡ true → (is_blank b ≡ false) × (is_word_byte b ≡ true)
digit_apart b d = (grind (arith, nat_tests), rw d refl)

at_digit : (fresh : Bool) (b : ℕ) (rest : List ℕ) → is_blank b ≡ false → is_ascii_digit b ≡ true → front fresh (b ∷ rest) ≡ number (b ∷ rest)
unfolding front
at_digit fresh b rest blank digit = cond-false (is_blank b) _ _ blank ∙ cond-true (is_ascii_digit b) _ _ digit

at_word : (fresh : Bool) (b : ℕ) (rest : List ℕ) → is_blank b ≡ false → is_ascii_digit b ≡ false → is_word_byte b ≡ true → front fresh (b ∷ rest) ≡ word (b ∷ rest)
unfolding front
at_word fresh b rest blank digit word_byte = cond-false (is_blank b) _ _ blank ∙ cond-false (is_ascii_digit b) _ _ digit ∙ cond-true (is_word_byte b) _ _ word_byte

at_mark : (fresh : Bool) (b : ℕ) (rest : List ℕ) → is_blank b ≡ false → is_ascii_digit b ≡ false → is_word_byte b ≡ false → (b == 34) ≡ false
    → (b == 47 && slice_index rest 0 == 47) ≡ false → (b == 47 && slice_index rest 0 == 42) ≡ false → (b == 35 && fresh) ≡ false → front fresh (b ∷ rest) ≡ mark b (slice_index rest 0)
unfolding front
at_mark fresh b rest blank digit word_byte quote line block hash =
    cond-false (is_blank b) _ _ blank ∙ cond-false (is_ascii_digit b) _ _ digit ∙ cond-false (is_word_byte b) _ _ word_byte ∙ cond-false (b == 34) _ _ quote
    ∙ cond-false (b == 47 && slice_index rest 0 == 47) _ _ line ∙ cond-false (b == 47 && slice_index rest 0 == 42) _ _ block ∙ cond-false (b == 35 && fresh) _ _ hash

pub found_word : (fresh : Bool) (part rest : List ℕ) → IsAll is_word_byte part rest → first begins_word part ≡ true → front fresh (part ++ rest) ≡ Takes (Word part) (length part)
unfolding word
found_word fresh [] rest all w = absurd (false≢true w)
found_word fresh (b ∷ part) rest all w =
    let (blank, digit, word_byte) = begins_apart b w in
    at_word fresh b (part ++ rest) blank digit word_byte ∙ ap (λ l. Takes (Word l) (length l)) (run_part (b ∷ part) rest all)

digits_found : (fresh : Bool) (part rest : List ℕ) → IsAll is_word_byte part rest → first is_ascii_digit part ≡ true → front fresh (part ++ rest) ≡ numbered (number_value part) (length part)
unfolding number
digits_found fresh [] rest all d = absurd (false≢true d)
digits_found fresh (b ∷ part) rest all d =
    let (blank, word_byte) = digit_apart b d in
    at_digit fresh b (part ++ rest) blank d ∙ ap (λ l. numbered (number_value l) (length l)) (run_part (b ∷ part) rest all)

some_first : (test : ℕ → Bool) (part : List ℕ) → first test part ≡ true → 1 ≤ length part
some_first test [] f = absurd (false≢true f)
some_first test (b ∷ part) f = omega arith

decimal_first : (value : ℕ) → value < 2 ^ 63 → first is_ascii_digit (decimal value) ≡ true
decimal_first value below = begins_all (decimal value) (decimal_nonempty value (omega (arith, below))) (digits_decimal own value (omega (arith, below)))
  where
    begins_all : (ds : List ℕ) → 0 < length ds → list_all is_ascii_digit ds ≡ true → first is_ascii_digit ds ≡ true
    begins_all [] some all = absurd (omega (arith, some))
    begins_all (d ∷ ds) some all = (and_parts (is_ascii_digit d) (list_all is_ascii_digit ds) all).0

pub found_number : (fresh : Bool) (part rest : List ℕ) (value : ℕ) → IsAll is_word_byte part rest → part ≡ decimal value → value < 2 ^ 63 → front fresh (part ++ rest) ≡ Takes (Number (pos value)) (length part)
found_number fresh part rest value all is below =
    let digit : first is_ascii_digit part ≡ true = subst (λ l. first is_ascii_digit l ≡ true) (sym is) (decimal_first value below) in
    digits_found fresh part rest all digit ∙ ap (λ o. numbered o (length part)) (told (number_value part) (number_told part (some_first is_ascii_digit part digit)))
  where
    told : (o : Option ℕ) → Wrote part o → o ≡ Some value
    told (Some n) h = ap Some (decimal_injective n value (omega (arith, h.1)) (omega (arith, below)) (sym h.0 ∙ is))
    told None h = absurd (h value below is)

pub found_bad_number : (fresh : Bool) (part rest : List ℕ) → IsAll is_word_byte part rest → first is_ascii_digit part ≡ true → ((value : ℕ) → value < 2 ^ 63 → part ≢ decimal value)
    → front fresh (part ++ rest) ≡ Fails BadNumber 0 (length part)
found_bad_number fresh part rest all digit none =
    digits_found fresh part rest all digit ∙ ap (λ o. numbered o (length part)) (told (number_value part) (number_told part (some_first is_ascii_digit part digit)))
  where
    told : (o : Option ℕ) → Wrote part o → o ≡ None
    told (Some n) h = absurd (none n h.1 h.0)
    told None h = refl

-- ---- marks

-- no two spell alike
abbrev distinct : List (List ℕ × Mark) → Bool
distinct [] = true
distinct (t ∷ table) = list_all (λ u. not (bytes_eq t.0 u.0)) table && distinct table

found_in : (table : List (List ℕ × Mark)) (bytes : List ℕ) (m : Mark) → distinct table ≡ true → Contains table (bytes, m) → spelled table bytes ≡ Some m
found_in [] bytes m d (k, below, is) = absurd (omega (arith, below))
found_in (t ∷ table) bytes m d (zero, below, is) =
    let same : t.0 ≡ bytes = ap (λ u. u.0) is in
    cond-true (bytes_eq t.0 bytes) (Some t.1) (spelled table bytes) ((bytes_eq-Decides t.0 bytes).1 same) ∙ ap (λ u. Some u.1) is
found_in (t ∷ table) bytes m d (suc k, below, is) =
    let both = and_parts (list_all (λ u. not (bytes_eq t.0 u.0)) table) (distinct table) d in
    let there : Contains table (bytes, m) = (k, omega (arith, below), is) in
    cond-false (bytes_eq t.0 bytes) (Some t.1) (spelled table bytes) (not-true (bytes_eq t.0 bytes) (each (λ u. not (bytes_eq t.0 u.0)) table (bytes, m) both.0 there)) ∙ found_in table bytes m both.1 there

opening_of : (t : List ℕ × Mark) → Contains (marks_of_two_bytes ++ marks_of_one_byte) t → Contains openings t.0
opening_of t (k, below, is) =
    let small : k < 36 = below in
    (suc (suc k), omega (arith, small), get_or-map (λ u. u.0) (marks_of_two_bytes ++ marks_of_one_byte) k t t.0 below ∙ ap (λ u. u.0) is)

-- a byte with which no other thing begins
abbrev plain_first : ℕ → Bool
plain_first b = not (is_blank b || (is_ascii_digit b || (is_word_byte b || (b == 34 || b == 35))))

plain_mark : (fresh : Bool) (b : ℕ) (rest : List ℕ) → plain_first b ≡ true → (b == 47 && slice_index rest 0 == 47) ≡ false → (b == 47 && slice_index rest 0 == 42) ≡ false
    → front fresh (b ∷ rest) ≡ mark b (slice_index rest 0)
plain_mark fresh b rest is line block =
    let all = or_parts (is_blank b) _ (not-true (is_blank b || (is_ascii_digit b || (is_word_byte b || (b == 34 || b == 35)))) is) in
    let digit = or_parts (is_ascii_digit b) _ all.1 in
    let word_byte = or_parts (is_word_byte b) _ digit.1 in
    let quote = or_parts (b == 34) (b == 35) word_byte.1 in
    at_mark fresh b rest all.0 digit.0 word_byte.0 quote.0 line block (and_left (b == 35) fresh quote.1)

-- nothing longer than a byte begins here
abbrev NoneLonger : ℕ → List ℕ → Type 0
NoneLonger b rest = (opening : List ℕ) → Contains openings opening → 1 < length opening → Begins opening (b ∷ rest) → ⊥

no_comment : (b : ℕ) (rest : List ℕ) → NoneLonger b rest → (c : ℕ) → 1 ≤ c → Contains openings (47 ∷ (c ∷ [])) → (b == 47 && slice_index rest 0 == c) ≡ false
no_comment b rest none c some opening = false_from_ne_true (b == 47 && slice_index rest 0 == c) (λ e.
    let both = and_parts (b == 47) (slice_index rest 0 == c) e in
    none (47 ∷ (c ∷ [])) opening (omega arith) (drop 1 rest, ap₂ (λ x l. x ∷ l) (eqb-true b 47 both.0) (first_is rest c some (eqb-true (slice_index rest 0) c both.1))))

no_long : (b : ℕ) (rest : List ℕ) → NoneLonger b rest → (o : Option Mark) → spelled marks_of_two_bytes (b ∷ (slice_index rest 0 ∷ [])) ≡ o → o ≡ None
no_long b rest none None e = refl
no_long b rest none (Some m) e =
    let next = slice_index rest 0 in
    let found = spelled_in marks_of_two_bytes (b ∷ (next ∷ [])) m e in
    let some : next ≢ 0 = eqb-false next 0 (not-true _ (each (λ t. not (slice_index t.0 1 == 0)) marks_of_two_bytes _ refl found)) in
    absurd (none (b ∷ (next ∷ [])) (opening_of _ (Contains-append_left marks_of_two_bytes marks_of_one_byte _ found)) (omega arith)
    (drop 1 rest, ap (λ l. b ∷ l) (first_is rest next (omega (arith, some)) refl)))

one_byte : (fresh : Bool) (b : ℕ) (rest : List ℕ) → plain_first b ≡ true → NoneLonger b rest → front fresh (b ∷ rest) ≡ short (spelled marks_of_one_byte (b ∷ []))
unfolding mark long_mark short_mark
one_byte fresh b rest is none =
    plain_mark fresh b rest is (no_comment b rest none 47 (omega arith) (0, omega arith, refl)) (no_comment b rest none 42 (omega arith) (1, omega arith, refl))
    ∙ ap (λ o. long o (short (spelled marks_of_one_byte (b ∷ [])))) (no_long b rest none (spelled marks_of_two_bytes (b ∷ (slice_index rest 0 ∷ []))) refl)

mark_of_two : (fresh : Bool) (part rest : List ℕ) (m : Mark) → Contains marks_of_two_bytes (part, m) → length part ≡ 2 → front fresh (part ++ rest) ≡ Takes (kind.Mark m) (length part)
unfolding mark long_mark
mark_of_two fresh [] rest m c two = absurd (omega (arith, two))
mark_of_two fresh (x ∷ []) rest m c two = absurd (omega (arith, two))
mark_of_two fresh (x ∷ y ∷ []) rest m c two =
    let is = each (λ t. plain_first (slice_index t.0 0)) marks_of_two_bytes _ refl c in
    let no_slash : (x == 47) ≡ false = not-true (x == 47) (each (λ t. not (slice_index t.0 0 == 47)) marks_of_two_bytes _ refl c) in
    plain_mark fresh x (y ∷ rest) is (and_left (x == 47) (y == 47) no_slash) (and_left (x == 47) (y == 42) no_slash)
    ∙ ap (λ o. long o (short (short_mark x))) (found_in marks_of_two_bytes (x ∷ (y ∷ [])) m refl c)
mark_of_two fresh (x ∷ y ∷ z ∷ part) rest m c two = absurd (omega (arith, two))

mark_of_one : (fresh : Bool) (part rest : List ℕ) (m : Mark) → Contains marks_of_one_byte (part, m) → length part ≡ 1
    → ((longer : List ℕ) → Contains openings longer → length part < length longer → Begins longer (part ++ rest) → ⊥) → front fresh (part ++ rest) ≡ Takes (kind.Mark m) (length part)
mark_of_one fresh [] rest m c one none = absurd (omega (arith, one))
mark_of_one fresh (x ∷ []) rest m c one none =
    one_byte fresh x rest (each (λ t. plain_first (slice_index t.0 0)) marks_of_one_byte _ refl c) none ∙ ap short (found_in marks_of_one_byte (x ∷ []) m refl c)
mark_of_one fresh (x ∷ y ∷ part) rest m c one none = absurd (omega (arith, one))

pub found_mark : (fresh : Bool) (part rest : List ℕ) (m : Mark) → Contains (marks_of_two_bytes ++ marks_of_one_byte) (part, m)
    → ((longer : List ℕ) → Contains openings longer → length part < length longer → Begins longer (part ++ rest) → ⊥) → front fresh (part ++ rest) ≡ Takes (kind.Mark m) (length part)
found_mark fresh part rest m c none = by_case (Contains-append_cases marks_of_two_bytes marks_of_one_byte (part, m) c)
  where
    by_case : Contains marks_of_two_bytes (part, m) ⊎ Contains marks_of_one_byte (part, m) → front fresh (part ++ rest) ≡ Takes (kind.Mark m) (length part)
    by_case (inl two) = mark_of_two fresh part rest m two (eqb-true (length part) 2 (each (λ t. length t.0 == 2) marks_of_two_bytes _ refl two))
    by_case (inr one) = mark_of_one fresh part rest m one (eqb-true (length part) 1 (each (λ t. length t.0 == 1) marks_of_one_byte _ refl one)) none

no_short : (b : ℕ) (rest : List ℕ) → ((opening : List ℕ) → Contains openings opening → Begins opening (b ∷ rest) → ⊥) → (o : Option Mark) → spelled marks_of_one_byte (b ∷ []) ≡ o → o ≡ None
no_short b rest none None e = refl
no_short b rest none (Some m) e =
    absurd (none (b ∷ []) (opening_of _ (Contains-append_right marks_of_two_bytes marks_of_one_byte _ (spelled_in marks_of_one_byte (b ∷ []) m e))) (rest, refl))

pub found_bad_byte : (fresh : Bool) (b : ℕ) (rest : List ℕ) → BeginsNothing fresh b rest → front fresh (b ∷ rest) ≡ Fails BadByte 0 1
unfolding mark long_mark short_mark
found_bad_byte fresh b rest n =
    let none : NoneLonger b rest = λ opening c some begins. n.no_opening opening c begins in
    at_mark fresh b rest n.no_blank (false_from_ne_true (is_ascii_digit b) (λ d. false≢true (sym n.no_word_byte ∙ (digit_apart b d).1))) n.no_word_byte (ne_eqb b 34 n.no_quote)
    (no_comment b rest none 47 (omega arith) (0, omega arith, refl)) (no_comment b rest none 42 (omega arith) (1, omega arith, refl))
    (false_from_ne_true (b == 35 && fresh) (λ e. let both = and_parts (b == 35) fresh e in n.no_hash_line both.1 (eqb-true b 35 both.0)))
    ∙ ap (λ o. long o (short (spelled marks_of_one_byte (b ∷ [])))) (no_long b rest none (spelled marks_of_two_bytes (b ∷ (slice_index rest 0 ∷ []))) refl)
    ∙ ap short (no_short b rest n.no_opening (spelled marks_of_one_byte (b ∷ [])) refl)
