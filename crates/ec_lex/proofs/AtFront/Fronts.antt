-- What `front` finds at the front of a text stands there.
use Rattle.std.proofs.Common.{◌≡◌, ◌≢◌, ℕ, ◌+◌, ◌-◌, ◌≤◌, Bool, true, false, List, [], ◌∷◌, ◌++◌, length, take, drop, Option, Some, None, refl, ap, sym, subst, ◌∙◌, append_assoc, append-nil, one-add, arith, codes, length-append, take-append-drop}
use Rattle.std.specs.Prelude.{◌||◌, ◌&&◌, ◌==◌, slice_index}
use Rattle.std.specs.Char.{is_ascii_digit}
use Rattle.std.proofs.lemmas.Bool.{cond_both, and_parts, and_from, eqb-true, eq-eqb, false≢true}
use Rattle.ec_base.specs.declared.reason.Reason.{Reason}
use Rattle.ec_base.specs.declared.reason.Reason.TheVariants.{HashLine}
use Rattle.ec_lex.specs.declared.front.Front.TheVariants.{Skips, Fails}
use Rattle.ec_lex.specs.declared.strings.Decoded.{Decoded}
use Rattle.ec_lex.specs.declared.strings.Decoded.TheVariants.{Whole, Broken}
use Rattle.ec_lex.specs.Bytes.{is_line_blank, is_blank, is_word_byte, line_length, is_include}
use Rattle.ec_lex.specs.Strings.{closing, decoded}
use Rattle.ec_lex.specs.Front.{string, told, closed, comment, commented, comment_end, hash_line, front}
use Rattle.ec_lex.specs.Tokens.{first, Begins, Holds, is_within_line, fresh_after, IsInclude, IsBad, control, no_escape}
use Rattle.ec_lex.specs.Tokens as spec
use Rattle.ec_lex.proofs.AtFront.Told.{Tells}
use Rattle.ec_lex.proofs.Inside.Parts.{first_is, all_of, length_all_of, stale_behind, fresh_after-append, include_from, include_found}
use Rattle.ec_lex.proofs.Inside.Comments.{EndedOr, comment_ends}
use Rattle.ec_lex.proofs.Inside.Quoted.{ClosedOr, closes, Decodes, decodes}
use Rattle.ec_lex.proofs.AtFront.Spelling.{word_tells, number_tells}
use Rattle.ec_lex.proofs.AtFront.Marking.{mark_tells}

-- ---- blanks

pub blank_fresh : (fresh blank line : Bool) → (blank || line) ≡ true → (line || (fresh && blank)) ≡ (fresh || line)
blank_fresh true true true e = refl
blank_fresh true true false e = refl
blank_fresh true false true e = refl
blank_fresh true false false e = absurd (false≢true e)
blank_fresh false true true e = refl
blank_fresh false true false e = refl
blank_fresh false false true e = refl
blank_fresh false false false e = absurd (false≢true e)

blank_tells : (fresh : Bool) (b : ℕ) (text : List ℕ) → is_blank b ≡ true → Tells fresh (b ∷ text) (Skips 1 (fresh || b == 10))
blank_tells fresh b text e = record {
  part = b ∷ [];
  rest = text;
  cut = refl;
  count_is = refl;
  now_is = blank_fresh fresh (is_line_blank b) (b == 10) e;
  some = omega arith;
  is = spec.blank e;
}

-- ---- lines

-- the line of a text whose first byte does not end it
rest_of_line : (b : ℕ) (text : List ℕ) → is_within_line b ≡ true → take (line_length (b ∷ text)) (b ∷ text) ≡ b ∷ take (line_length text) text
rest_of_line b text w = rw w (rw (one-add (line_length text)) refl)

line_some : (b : ℕ) (text : List ℕ) → is_within_line b ≡ true → 1 ≤ line_length (b ∷ text)
line_some b text w = rw w (omega arith)

line_cut : (text : List ℕ) → text ≡ take (line_length text) text ++ drop (line_length text) text
line_cut text = sym (take-append-drop (line_length text) text)

-- a line is not fresh behind a byte that is no blank
stale_line : (fresh : Bool) (b : ℕ) (text : List ℕ) → is_within_line b ≡ true → is_line_blank b ≡ false → fresh_after fresh (take (line_length (b ∷ text)) (b ∷ text)) ≡ false
stale_line fresh b text w n = rw (rest_of_line b text w) (stale_behind fresh b (take (line_length text) text) w n (all_of is_within_line text).pass)

line_comment_at : (fresh : Bool) (text : List ℕ) → Tells fresh (47 ∷ (47 ∷ text)) (Skips (line_length (47 ∷ (47 ∷ text))) false)
line_comment_at fresh text =
    let whole : List ℕ = 47 ∷ (47 ∷ text) in
    record {
      part = take (line_length whole) whole;
      rest = drop (line_length whole) whole;
      cut = line_cut whole;
      count_is = length_all_of is_within_line whole;
      now_is = stale_line fresh 47 (47 ∷ text) refl refl;
      some = line_some 47 (47 ∷ text) refl;
      is = spec.line_comment (take (line_length text) text, rest_of_line 47 (47 ∷ text) refl ∙ ap (λ l. 47 ∷ l) (rest_of_line 47 text refl)) (all_of is_within_line whole);
    }

-- two bytes in front of a text
two_first : (b c d : ℕ) (text : List ℕ) → 1 ≤ d → (b == c && slice_index text 0 == d) ≡ true → c ∷ (d ∷ drop 1 text) ≡ b ∷ text
two_first b c d text some e =
    let both = and_parts (b == c) (slice_index text 0 == d) e in
    ap (λ l. c ∷ l) (sym (first_is text d some (eqb-true _ d both.1))) ∙ ap (λ x. x ∷ text) (sym (eqb-true b c both.0))

line_comment_tells : (fresh : Bool) (b : ℕ) (text : List ℕ) → (b == 47 && slice_index text 0 == 47) ≡ true → Tells fresh (b ∷ text) (Skips (line_length (b ∷ text)) false)
line_comment_tells fresh b text e = subst (λ l. Tells fresh l (Skips (line_length l) false)) (two_first b 47 47 text (omega arith) e) (line_comment_at fresh (drop 1 text))

-- ---- comments

pub star_slash : (fresh : Bool) → fresh_after fresh (codes "*/") ≡ false
star_slash true = refl
star_slash false = refl

comment_at : (fresh : Bool) (text : List ℕ) (o : Option ℕ) → EndedOr 2 text o → Tells fresh (47 ∷ (42 ∷ text)) (commented (47 ∷ (42 ∷ text)) o)
comment_at fresh text (Some end) h = record {
  part = codes "/*" ++ (h.body ++ codes "*/");
  rest = h.more;
  cut = ap (λ l. 47 ∷ (42 ∷ l)) (h.cut ∙ sym (append_assoc h.body (codes "*/") h.more));
  count_is = omega (arith, length-append h.body (codes "*/"), h.end_is);
  now_is = fresh_after-append (47 ∷ (42 ∷ h.body)) (codes "*/") fresh ∙ star_slash (fresh_after fresh (47 ∷ (42 ∷ h.body)));
  some = omega (arith, h.end_is);
  is = spec.block_comment h.body refl h.first_end;
}
comment_at fresh text None h =
    let whole : List ℕ = 47 ∷ (42 ∷ text) in
    record { before = []; bad = whole; rest = []; cut = sym (append-nil whole); from_is = refl; to_is = omega arith; some = omega arith; is = spec.open_comment refl h }

comment_tells : (fresh : Bool) (b : ℕ) (text : List ℕ) → (b == 47 && slice_index text 0 == 42) ≡ true → Tells fresh (b ∷ text) (comment (b ∷ text))
unfolding comment
comment_tells fresh b text e =
    subst (λ l. Tells fresh l (comment l)) (two_first b 47 42 text (omega arith) e) (comment_at fresh (drop 1 text) (comment_end 2 (drop 1 text)) (comment_ends 2 (drop 1 text)))

-- ---- include lines

hash_line_at : (text : List ℕ) → Tells true (35 ∷ text) (hash_line (35 ∷ text))
unfolding hash_line
hash_line_at text =
    let whole : List ℕ = 35 ∷ text in
    let part : List ℕ = take (line_length whole) whole in
    cond_both (is_include text) (Skips (line_length whole) false) (Fails HashLine 0 (line_length whole)) (Tells true whole)
    (λ e. record {
      part = part;
      rest = drop (line_length whole) whole;
      cut = line_cut whole;
      count_is = length_all_of is_within_line whole;
      now_is = stale_line true 35 text refl refl;
      some = line_some 35 text refl;
      is = spec.include_line refl (include_from text e) (all_of is_within_line whole);
    })
    (λ e. record {
      before = [];
      bad = part;
      rest = drop (line_length whole) whole;
      cut = line_cut whole;
      from_is = refl;
      to_is = omega (arith, length_all_of is_within_line whole);
      some = rw (length_all_of is_within_line whole) (line_some 35 text refl);
      is = spec.hash_line refl (take (line_length text) text, rest_of_line 35 text refl) (all_of is_within_line whole)
          (λ i. false≢true (sym e ∙ include_found part (drop (line_length whole) whole) text i (line_cut whole)));
    })

hash_line_tells : (fresh : Bool) (b : ℕ) (text : List ℕ) → (b == 35 && fresh) ≡ true → Tells fresh (b ∷ text) (hash_line (b ∷ text))
hash_line_tells fresh b text e =
    let both = and_parts (b == 35) fresh e in
    subst (λ f. Tells f (b ∷ text) (hash_line (b ∷ text))) (sym both.1) (subst (λ x. Tells true (x ∷ text) (hash_line (x ∷ text))) (sym (eqb-true b 35 both.0)) (hash_line_at text))

-- ---- strings

take_front : (xs ys : List ℕ) → take (length xs) (xs ++ ys) ≡ xs
take_front [] ys = refl
take_front (x ∷ xs) ys = ap (λ l. x ∷ l) (take_front xs ys)

bad_some : {bad : List ℕ} {reason : Reason} → IsBad bad reason → 1 ≤ length bad
bad_some (control c) = omega arith
bad_some (no_escape n w) = omega arith

told_at : (fresh : Bool) (text inside more : List ℕ) (end : ℕ) (d : Decoded) → text ≡ inside ++ (34 ∷ more) → end ≡ 1 + length inside → Decodes 1 inside d → Tells fresh (34 ∷ text) (told (end + 1) d)
told_at fresh text inside more end (Whole bytes) cut is h = record {
  part = codes "\"" ++ (inside ++ codes "\"");
  rest = more;
  cut = ap (λ l. 34 ∷ l) (cut ∙ sym (append_assoc inside (codes "\"") more));
  count_is = omega (arith, length-append inside (codes "\""), is);
  some = omega arith;
  is = spec.string refl h;
}
told_at fresh text inside more end (Broken reason from to) cut is h = record {
  before = codes "\"" ++ h.done;
  bad = h.bad;
  rest = h.after ++ (codes "\"" ++ more);
  cut = ap (λ l. 34 ∷ l) (cut ∙ ap (λ l. l ++ (34 ∷ more)) h.cut ∙ append_assoc h.done (h.bad ++ h.after) (34 ∷ more) ∙ ap (λ l. h.done ++ l) (append_assoc h.bad h.after (34 ∷ more)));
  from_is = omega (arith, h.from_is);
  to_is = h.to_is;
  some = bad_some h.wrong;
  is = spec.bad_inside more refl h.good h.wrong refl h.closable;
}

string_at : (fresh : Bool) (text : List ℕ) (o : Option ℕ) → ClosedOr false 1 text o → Tells fresh (34 ∷ text) (closed (34 ∷ text) o)
string_at fresh text None h =
    let whole : List ℕ = 34 ∷ text in
    let line : List ℕ = take (line_length text) text in
    let behind : List ℕ = drop (line_length text) text in
    record {
      before = [];
      bad = take (line_length whole) whole;
      rest = drop (line_length whole) whole;
      cut = line_cut whole;
      from_is = refl;
      to_is = omega (arith, length_all_of is_within_line whole);
      some = rw (length_all_of is_within_line whole) (line_some 34 text refl);
      is = spec.open_string (rest_of_line 34 text refl) (all_of is_within_line whole)
          (λ inside closable (more, e). h inside (more ++ behind) closable
          (line_cut text ∙ ap (λ l. l ++ behind) e ∙ append_assoc (inside ++ codes "\"") more behind ∙ append_assoc inside (codes "\"") (more ++ behind)));
    }
string_at fresh text (Some end) h =
    let inner : take (end - 1) text ≡ h.inside =
    ap (λ n. take n text) (omega (arith, h.end_is)) ∙ ap (λ l. take (length h.inside) l) h.cut ∙ take_front h.inside (34 ∷ h.more) in
    rw inner (told_at fresh text h.inside h.more end (decoded false 1 h.inside) h.cut h.end_is (decodes 1 h.shape))

string_tells : (fresh : Bool) (b : ℕ) (text : List ℕ) → (b == 34) ≡ true → Tells fresh (b ∷ text) (string (b ∷ text))
unfolding string
string_tells fresh b text e = subst (λ x. Tells fresh (x ∷ text) (string (x ∷ text))) (sym (eqb-true b 34 e)) (string_at fresh text (closing false 1 text) (closes false 1 text))

-- ---- all

no_hash : (fresh : Bool) (b : ℕ) → (b == 35 && fresh) ≡ false → fresh ≡ true → b ≢ 35
no_hash fresh b e f is = false≢true (sym e ∙ and_from (b == 35) fresh (eq-eqb b 35 is) f)

pub front_tells : (fresh : Bool) (text : List ℕ) → Tells fresh text (front fresh text)
unfolding front
front_tells fresh [] = refl
front_tells fresh (b ∷ rest) =
    let text : List ℕ = b ∷ rest in
    let next = slice_index rest 0 in
    cond_both (is_blank b) _ _ (Tells fresh text) (blank_tells fresh b rest)
    (λ blank. cond_both (is_ascii_digit b) _ _ (Tells fresh text) (number_tells fresh b rest)
    (λ digit. cond_both (is_word_byte b) _ _ (Tells fresh text) (word_tells fresh b rest digit)
    (λ word. cond_both (b == 34) _ _ (Tells fresh text) (string_tells fresh b rest)
    (λ quote. cond_both (b == 47 && next == 47) _ _ (Tells fresh text) (line_comment_tells fresh b rest)
    (λ line. cond_both (b == 47 && next == 42) _ _ (Tells fresh text) (comment_tells fresh b rest)
    (λ block. cond_both (b == 35 && fresh) _ _ (Tells fresh text) (hash_line_tells fresh b rest)
    (λ hash. mark_tells fresh b rest blank word quote line block (no_hash fresh b hash))))))))
