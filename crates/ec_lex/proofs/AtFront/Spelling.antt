-- Words and numbers.
use Rattle.std.proofs.Common.{◌≡◌, ◌≢◌, ℕ, zero, suc, ◌^◌, ◌<◌, ◌≤◌, Bool, true, false, List, [], ◌∷◌, ◌++◌, length, take, drop, get_or, Option, Some, None, refl, ap, sym, subst, ◌∙◌, arith, rules, decimal, inl, inr, take-append-drop}
use Rattle.std.specs.Prelude.{◌||◌, ◌&&◌, ◌==◌, ◌⊎◌, nat_le, nat_lt, slice_index}
use Rattle.std.specs.Char.{is_ascii_digit}
use Rattle.std.specs.List.{list_all, prefix_len}
use Rattle.std.specs.Str.Parse.{digits_value}
use Rattle.std.proofs.lemmas.Bool.{cond_both, and_parts, and_from, or_cases, or_left, or_right, eqb-true, eq-eqb, leb-true, ltb-true, lt-ltb, le-leb, false≢true, true≢false, cases_lt}
use Rattle.std.proofs.lemmas.Str.Parse.{IsNumeralModel, numerals_by_value}
use Rattle.std.proofs.lemmas.Fmt.{decimal_digit, first_decimal, digits_decimal, digits_value-decimal, decimal-digits_value}
use Rattle.ec_lex.specs.Bytes.{is_word_byte, run}
use Rattle.ec_lex.specs.Numbers.{is_decimal, number_value}
use Rattle.ec_lex.specs.Front.{word, number, numbered}
use Rattle.ec_lex.specs.Tokens.{first, begins_word, Begins, openings, IsAll, IsSpelled}
use Rattle.ec_lex.specs.Tokens as spec
use Rattle.ec_lex.proofs.Inside.Parts.{all_of, length_all_of}
use Rattle.ec_lex.proofs.AtFront.Told.{Tells}

-- ---- runs

-- a run of word bytes has one at least, where the first byte is one
run_some : (b : ℕ) (text : List ℕ) → is_word_byte b ≡ true → 1 ≤ length (run (b ∷ text))
run_some b text w = rw (length_all_of is_word_byte (b ∷ text)) (rw w (omega arith))

-- and begins with it
run_first : (test : ℕ → Bool) (b : ℕ) (text : List ℕ) → is_word_byte b ≡ true → test b ≡ true → first test (run (b ∷ text)) ≡ true
run_first test b text w t = by_length (prefix_len is_word_byte (b ∷ text)) (rw w (omega arith))
  where
    by_length : (n : ℕ) → 1 ≤ n → first test (take n (b ∷ text)) ≡ true
    by_length zero h = absurd (omega (arith, h))
    by_length (suc n) h = t

cut_run : (text : List ℕ) → text ≡ run text ++ drop (prefix_len is_word_byte text) text
cut_run text = sym (take-append-drop (prefix_len is_word_byte text) text)

-- ---- words

begins : (digit upper lower line word : Bool) → digit ≡ false → (((digit || upper) || lower) || line) ≡ true → ((upper || lower) || line) ≡ true
begins false upper lower line word d w = w
begins true upper lower line word d w = absurd (true≢false d)

pub word_tells : (fresh : Bool) (b : ℕ) (text : List ℕ) → is_ascii_digit b ≡ false → is_word_byte b ≡ true → Tells fresh (b ∷ text) (word (b ∷ text))
unfolding word
word_tells fresh b text d w = record {
  part = run (b ∷ text);
  rest = drop (prefix_len is_word_byte (b ∷ text)) (b ∷ text);
  cut = cut_run (b ∷ text);
  count_is = refl;
  some = run_some b text w;
  is = spec.word (all_of is_word_byte (b ∷ text)) (run_first begins_word b text w (begins (is_ascii_digit b) _ _ (b == 95) true d w));
}

-- ---- numbers

pub own : IsNumeralModel (λ ds. list_all is_ascii_digit ds ≡ true) (digits_value 10)
own = numerals_by_value _ (search rules)

abbrev pub Wrote : List ℕ → Option ℕ → Type 0
Wrote ds (Some n) = (ds ≡ decimal n) × (n < 2 ^ 63)
Wrote ds None = (value : ℕ) → value < 2 ^ 63 → ds ≢ decimal value

-- what begins with 0 is the one digit
no_needless_zero : (ds : List ℕ) → (nat_le 49 (slice_index ds 0) || length ds == 1) ≡ true → get_or ds 0 0 ≡ 48 → length ds ≡ 1
no_needless_zero ds e zero_first = by_case (or_cases (nat_le 49 (slice_index ds 0)) (length ds == 1) e)
  where
    by_case : (nat_le 49 (slice_index ds 0) ≡ true) ⊎ ((length ds == 1) ≡ true) → length ds ≡ 1
    by_case (inl big) = absurd (omega (arith, zero_first, leb-true 49 (slice_index ds 0) big))
    by_case (inr one) = eqb-true (length ds) 1 one

pub decimal_is : (value : ℕ) → value < 2 ^ 63 → (is_decimal (decimal value) && nat_lt (digits_value 10 (decimal value)) (2 ^ 63)) ≡ true
decimal_is value below =
    let wide : value < 2 ^ 64 = omega (arith, below) in
    and_from (is_decimal (decimal value)) _ (and_from (list_all is_ascii_digit (decimal value)) _ (digits_decimal own value wide) (by_case (cases_lt 0 value)))
    (rw (digits_value-decimal own value wide) (lt-ltb value (2 ^ 63) below))
  where
    by_case : (0 < value) ⊎ (value ≤ 0) → (nat_le 49 (slice_index (decimal value) 0) || length (decimal value) == 1) ≡ true
    by_case (inl some) = or_left _ (length (decimal value) == 1) (le-leb 49 (slice_index (decimal value) 0) (omega (arith, first_decimal value some (omega (arith, below)))))
    by_case (inr none) = or_right (nat_le 49 (slice_index (decimal value) 0)) _ (eq-eqb (length (decimal value)) 1 (ap length (decimal_digit value (omega (arith, none)))))

pub number_told : (ds : List ℕ) → 1 ≤ length ds → Wrote ds (number_value ds)
unfolding number_value
number_told ds some =
    cond_both (is_decimal ds && nat_lt (digits_value 10 ds) (2 ^ 63)) (Some (digits_value 10 ds)) None (Wrote ds)
    (λ e. let both = and_parts (is_decimal ds) (nat_lt (digits_value 10 ds) (2 ^ 63)) e in
    let digits = and_parts (list_all is_ascii_digit ds) (nat_le 49 (slice_index ds 0) || length ds == 1) both.0 in
    let below = ltb-true (digits_value 10 ds) (2 ^ 63) both.1 in
    (sym (decimal-digits_value own ds digits.0 some (no_needless_zero ds digits.1) (omega (arith, below))), below))
    (λ e value below is. false≢true (sym e ∙ subst (λ l. (is_decimal l && nat_lt (digits_value 10 l) (2 ^ 63)) ≡ true) (sym is) (decimal_is value below)))

pub number_tells : (fresh : Bool) (b : ℕ) (text : List ℕ) → is_ascii_digit b ≡ true → Tells fresh (b ∷ text) (number (b ∷ text))
unfolding number
number_tells fresh b text d = tells (number_value (run (b ∷ text))) (number_told (run (b ∷ text)) (run_some b text word_byte))
  where
    word_byte : is_word_byte b ≡ true
    word_byte = rw d refl

    tells : (o : Option ℕ) → Wrote (run (b ∷ text)) o → Tells fresh (b ∷ text) (numbered o (length (run (b ∷ text))))
    tells (Some n) h = record {
      part = run (b ∷ text);
      rest = drop (prefix_len is_word_byte (b ∷ text)) (b ∷ text);
      cut = cut_run (b ∷ text);
      count_is = refl;
      some = run_some b text word_byte;
      is = spec.number (all_of is_word_byte (b ∷ text)) h.0 h.1;
    }
    tells None h = record {
      before = [];
      bad = run (b ∷ text);
      rest = drop (prefix_len is_word_byte (b ∷ text)) (b ∷ text);
      cut = cut_run (b ∷ text);
      from_is = refl;
      to_is = omega arith;
      some = run_some b text word_byte;
      is = spec.bad_number (all_of is_word_byte (b ∷ text)) (run_first is_ascii_digit b text word_byte d) h;
    }
