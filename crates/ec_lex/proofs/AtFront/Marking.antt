-- Marks, and what begins nothing.
use Rattle.std.proofs.Common.{◌≡◌, ◌≢◌, ℕ, suc, ◌<◌, ◌≤◌, Bool, true, false, List, [], ◌∷◌, ◌++◌, length, take, drop, Option, Some, None, Contains, refl, ap, ap₂, sym, subst, ◌∙◌, arith, codes, inl, inr, is_some, unwrap_or}
use Rattle.std.specs.Prelude.{◌||◌, ◌&&◌, ◌==◌, ◌⊎◌, not, nat_le, slice_index, bytes_eq}
use Rattle.std.specs.List.{list_all}
use Rattle.std.proofs.lemmas.Bool.{and_from, or_cases, eqb-false, eq-eqb, leb-true, not-true, false≢true}
use Rattle.std.proofs.lemmas.List.Elements.{All-contains, Contains-append_left, Contains-append_right}
use Rattle.std.proofs.lemmas.List.Sums.{AllPass-from_list_all}
use Rattle.std.proofs.lemmas.Slice.Eq.{bytes_eq-Decides}
use Rattle.ec_base.specs.declared.token.Mark.{Mark}
use Rattle.ec_lex.specs.Bytes.{is_blank, is_word_byte}
use Rattle.ec_lex.specs.Marks.{spelled, marks_of_two_bytes, marks_of_one_byte, long_mark, short_mark}
use Rattle.ec_lex.specs.Front.{mark, long, short}
use Rattle.ec_lex.specs.Tokens.{Begins, openings, BeginsNothing}
use Rattle.ec_lex.specs.Tokens as spec
use Rattle.ec_lex.proofs.Inside.Parts.{heads, tails, first_is}
use Rattle.ec_lex.proofs.AtFront.Told.{Tells}

-- what holds of each of a table
pub each : {X : Type 0} (test : X → Bool) (table : List X) (x : X) → list_all test table ≡ true → Contains table x → test x ≡ true
each test table x all h = All-contains (λ y. test y ≡ true) table x (AllPass-from_list_all test table all) h

pub spelled_in : (table : List (List ℕ × Mark)) (bytes : List ℕ) (m : Mark) → spelled table bytes ≡ Some m → Contains table (bytes, m)
spelled_in [] bytes m e = absurd (cc)
spelled_in (t ∷ table) bytes m e = at (bytes_eq t.0 bytes) refl (spelled_in table bytes m)
  where
    at : (is : Bool) → bytes_eq t.0 bytes ≡ is → (spelled table bytes ≡ Some m → Contains table (bytes, m)) → Contains (t ∷ table) (bytes, m)
    at true is there =
        let first : Some t.1 ≡ Some m = rw is at e in
        (0, omega arith, ap₂ (λ l n. (l, n)) ((bytes_eq-Decides t.0 bytes).0 is) (ap (λ o. unwrap_or o m) first))
    at false is there = let (k, below, found) = there (rw is at e) in (suc k, omega (arith, below), found)

-- ---- two bytes

two_bytes : (fresh : Bool) (b : ℕ) (text : List ℕ) (m : Mark) → spelled marks_of_two_bytes (b ∷ (slice_index text 0 ∷ [])) ≡ Some m → Tells fresh (b ∷ text) (long (Some m) (short None))
two_bytes fresh b text m e =
    let next = slice_index text 0 in
    let found = spelled_in marks_of_two_bytes (b ∷ (next ∷ [])) m e in
    let some : next ≢ 0 = eqb-false next 0 (not-true _ (each (λ t. not (slice_index t.0 1 == 0)) marks_of_two_bytes _ refl found)) in
    record {
      part = b ∷ (next ∷ []);
      rest = drop 1 text;
      cut = ap (λ l. b ∷ l) (first_is text next (omega (arith, some)) refl);
      count_is = refl;
      some = omega arith;
      is = spec.mark (Contains-append_left marks_of_two_bytes marks_of_one_byte _ found)
          (λ longer c l begins. absurd (omega (arith, l, leb-true (length longer) 2 (each (λ o. nat_le (length o) 2) openings longer refl c))));
    }

-- ---- one byte

-- what may begin here and is longer than a byte
abbrev begins_longer : List ℕ → Bool
begins_longer o = bytes_eq o (codes "//") || (bytes_eq o (codes "/*") || is_some (spelled marks_of_two_bytes o))

none_longer : (b next : ℕ) → (b == 47 && next == 47) ≡ false → (b == 47 && next == 42) ≡ false → spelled marks_of_two_bytes (b ∷ (next ∷ [])) ≡ None → begins_longer (b ∷ (next ∷ [])) ≡ true → ⊥
none_longer b next line block none h = first_cases (or_cases _ _ h)
  where
    clash : (c : ℕ) → (b == 47 && next == c) ≡ false → b ∷ (next ∷ []) ≡ 47 ∷ (c ∷ []) → ⊥
    clash c apart e = false≢true (sym apart ∙ and_from (b == 47) (next == c) (eq-eqb b 47 (heads b 47 _ _ e)) (eq-eqb next c (heads next c [] [] (tails b 47 _ _ e))))

    then_cases : (bytes_eq (b ∷ (next ∷ [])) (codes "/*") ≡ true) ⊎ (is_some (spelled marks_of_two_bytes (b ∷ (next ∷ []))) ≡ true) → ⊥
    then_cases (inl e) = clash 42 block ((bytes_eq-Decides (b ∷ (next ∷ [])) (codes "/*")).0 e)
    then_cases (inr e) = false≢true (ap is_some (sym none) ∙ e)

    first_cases : (bytes_eq (b ∷ (next ∷ [])) (codes "//") ≡ true) ⊎ ((bytes_eq (b ∷ (next ∷ [])) (codes "/*") || is_some (spelled marks_of_two_bytes (b ∷ (next ∷ [])))) ≡ true) → ⊥
    first_cases (inl e) = clash 47 line ((bytes_eq-Decides (b ∷ (next ∷ [])) (codes "//")).0 e)
    first_cases (inr e) = then_cases (or_cases _ _ e)

at_two : (b : ℕ) (text longer more : List ℕ) → 1 < length longer → length longer ≤ 2 → b ∷ text ≡ longer ++ more → longer ≡ b ∷ (slice_index text 0 ∷ [])
at_two b text [] more some most e = absurd (omega (arith, some))
at_two b text (x ∷ []) more some most e = absurd (omega (arith, some))
at_two b text (x ∷ y ∷ []) more some most e =
    ap₂ (λ c d. c ∷ (d ∷ [])) (sym (heads b x text (y ∷ more) e)) (sym (ap (λ l. slice_index l 0) (tails b x text (y ∷ more) e)))
at_two b text (x ∷ y ∷ z ∷ l) more some most e = absurd (omega (arith, most))

one_byte : (fresh : Bool) (b : ℕ) (text : List ℕ) (m : Mark) → (begins_longer (b ∷ (slice_index text 0 ∷ [])) ≡ true → ⊥) → spelled marks_of_one_byte (b ∷ []) ≡ Some m → Tells fresh (b ∷ text) (short (Some m))
one_byte fresh b text m none e = record {
  part = b ∷ [];
  rest = text;
  cut = refl;
  count_is = refl;
  some = omega arith;
  is = spec.mark (Contains-append_right marks_of_two_bytes marks_of_one_byte _ (spelled_in marks_of_one_byte (b ∷ []) m e))
      (λ longer c l (more, begins). longest longer c l more begins);
}
  where
    longest : (longer : List ℕ) → Contains openings longer → 1 < length longer → (more : List ℕ) → b ∷ text ≡ longer ++ more → ⊥
    longest longer c l more begins =
        let most = leb-true (length longer) 2 (each (λ o. nat_le (length o) 2) openings longer refl c) in
        let is = at_two b text longer more l most begins in
        let known = each (λ o. length o == 1 || begins_longer o) openings longer refl c in
        none (subst (λ o. (length o == 1 || begins_longer o) ≡ true) is known)

-- ---- no mark

nothing : (b : ℕ) (text : List ℕ) → spelled marks_of_one_byte (b ∷ []) ≡ None → (opening : List ℕ) → Contains openings opening → Begins opening (b ∷ text) → ⊥
nothing b text none [] c begins = absurd (omega (arith, leb-true 1 0 (each (λ o. nat_le 1 (length o)) openings [] refl c)))
nothing b text none (x ∷ o) c (more, e) =
    let known : is_some (spelled marks_of_one_byte (x ∷ [])) ≡ true = each (λ o. is_some (spelled marks_of_one_byte (take 1 o))) openings (x ∷ o) refl c in
    false≢true (ap is_some (sym none) ∙ rw (heads b x text (o ++ more) e) known)

no_byte : (fresh : Bool) (b : ℕ) (text : List ℕ) → BeginsNothing fresh b text → Tells fresh (b ∷ text) (short None)
no_byte fresh b text n = record { before = []; bad = b ∷ []; rest = text; cut = refl; from_is = refl; to_is = refl; some = omega arith; is = spec.bad_byte n }

-- ---- all

pub mark_tells : (fresh : Bool) (b : ℕ) (text : List ℕ) → is_blank b ≡ false → is_word_byte b ≡ false → (b == 34) ≡ false
    → (b == 47 && slice_index text 0 == 47) ≡ false → (b == 47 && slice_index text 0 == 42) ≡ false → (fresh ≡ true → b ≢ 35)
    → Tells fresh (b ∷ text) (mark b (slice_index text 0))
unfolding mark long_mark short_mark
mark_tells fresh b text blank word quote line block hash = at_long (spelled marks_of_two_bytes (b ∷ (slice_index text 0 ∷ []))) refl
  where
    at_short : (o : Option Mark) → spelled marks_of_one_byte (b ∷ []) ≡ o → (begins_longer (b ∷ (slice_index text 0 ∷ [])) ≡ true → ⊥) → Tells fresh (b ∷ text) (short o)
    at_short (Some m) e none = one_byte fresh b text m none e
    at_short None e none = no_byte fresh b text (record { no_blank = blank; no_word_byte = word; no_quote = eqb-false b 34 quote; no_hash_line = hash; no_opening = nothing b text e })

    at_long : (o : Option Mark) → spelled marks_of_two_bytes (b ∷ (slice_index text 0 ∷ [])) ≡ o → Tells fresh (b ∷ text) (long o (short (spelled marks_of_one_byte (b ∷ []))))
    at_long (Some m) e = two_bytes fresh b text m e
    at_long None e = at_short (spelled marks_of_one_byte (b ∷ [])) refl (none_longer b (slice_index text 0) line block e)
