-- Parts at the front of a text: all the bytes that pass a test, and include lines.
use Rattle.std.proofs.Common.{◌≡◌, ℕ, suc, ◌+◌, ◌≤◌, Bool, true, false, List, [], ◌∷◌, ◌++◌, length, take, drop, get_or, not, refl, ap, sym, subst, ◌∙◌, append_assoc, one-add, arith, codes, length-append, take-append-drop}
use Rattle.std.specs.Prelude.{◌&&◌, ◌||◌, ◌==◌, nat_eq, slice_index}
use Rattle.std.specs.List.{list_all, prefix_len, starts_with}
use Rattle.std.proofs.lemmas.Bool.{cond_both, and_from, and_parts, eqb-true, ne_eqb, false≢true, not-true, and_right}
use Rattle.std.proofs.lemmas.Bool.Decides.{Decides-eqb}
use Rattle.std.proofs.lemmas.List.Folds.{list_all-append}
use Rattle.std.proofs.lemmas.Slice.Eq.{starts_is}
use Rattle.ec_lex.specs.Bytes.{is_line_blank, past_line_blanks, line_length, is_include}
use Rattle.ec_lex.specs.Tokens.{first, IsAll, IsInclude, is_within_line, fresh_after}

-- ---- lists

pub heads : (a b : ℕ) (xs ys : List ℕ) → a ∷ xs ≡ b ∷ ys → a ≡ b
heads a b xs ys e = let P : List ℕ → ℕ = λ l. get_or l 0 0 in ap P e

pub tails : (a b : ℕ) (xs ys : List ℕ) → a ∷ xs ≡ b ∷ ys → xs ≡ ys
tails a b xs ys e = let P : List ℕ → List ℕ = drop 1 in ap P e

pub no_end : (xs ys : List ℕ) (b : ℕ) → [] ≡ xs ++ (b ∷ ys) → ⊥
no_end xs ys b e = let n : 0 ≡ length (xs ++ (b ∷ ys)) = ap length e in absurd (omega (arith, n, length-append xs (b ∷ ys)))

pub first_is : (text : List ℕ) (b : ℕ) → 1 ≤ b → slice_index text 0 ≡ b → text ≡ b ∷ drop 1 text
first_is [] b some e = absurd (omega (arith, some, e))
first_is (c ∷ text) b some e = ap (λ x. x ∷ text) e

-- ---- all that pass a test

pub all_of : (test : ℕ → Bool) (text : List ℕ) → IsAll test (take (prefix_len test text) text) (drop (prefix_len test text) text)
all_of test [] = record { pass = refl; no_more = refl }
all_of test (b ∷ text) =
    let n = prefix_len test text in
    let rest = all_of test text in
    cond_both (test b) (1 + n) 0 (λ k. IsAll test (take k (b ∷ text)) (drop k (b ∷ text)))
    (λ e. rw (one-add n) (record { pass = and_from (test b) (list_all test (take n text)) e rest.pass; no_more = rest.no_more }))
    (λ e. record { pass = refl; no_more = e })

pub length_all_of : (test : ℕ → Bool) (text : List ℕ) → length (take (prefix_len test text) text) ≡ prefix_len test text
length_all_of test [] = refl
length_all_of test (b ∷ text) =
    let n = prefix_len test text in
    cond_both (test b) (1 + n) 0 (λ k. length (take k (b ∷ text)) ≡ k)
    (λ e. rw (one-add n) (ap suc (length_all_of test text)))
    (λ e. refl)

-- the text behind them
pub past : (test : ℕ → Bool) (part rest : List ℕ) → list_all test part ≡ true → first test rest ≡ false → drop (prefix_len test (part ++ rest)) (part ++ rest) ≡ rest
past test [] [] a e = refl
past test [] (b ∷ rest) a e = cond_both (test b) (1 + prefix_len test rest) 0 (λ k. drop k (b ∷ rest) ≡ b ∷ rest) (λ t. absurd (cc)) (λ f. refl)
past test (b ∷ part) rest a e =
    let both = and_parts (test b) (list_all test part) a in
    let n = prefix_len test (part ++ rest) in
    rw both.0 (rw (one-add n) (past test part rest both.1 e))

-- bytes that pass stand in front of those that do
pub take_past : (test : ℕ → Bool) (front more : List ℕ) → list_all test front ≡ true → take (prefix_len test (front ++ more)) (front ++ more) ≡ front ++ take (prefix_len test more) more
take_past test [] more a = refl
take_past test (b ∷ front) more a =
    let both = and_parts (test b) (list_all test front) a in
    let n = prefix_len test (front ++ more) in
    rw both.0 (rw (one-add n) (ap (λ l. b ∷ l) (take_past test front more both.1)))

-- ---- include lines

within : (b : ℕ) → (b ≡ 10 → ⊥) → is_within_line b ≡ true
within b apart = ap not (ne_eqb b 10 apart)

pub not_lf : (b : ℕ) → is_within_line b ≡ true → b ≡ 10 → ⊥
not_lf b w e = false≢true (subst (λ c. is_within_line c ≡ true) e w)

blank_is_within : (b : ℕ) → is_line_blank b ≡ true → is_within_line b ≡ true
blank_is_within b e = within b (λ is. false≢true (subst (λ c. is_line_blank c ≡ true) is e))

blanks_within : (part : List ℕ) → list_all is_line_blank part ≡ true → list_all is_within_line part ≡ true
blanks_within [] a = refl
blanks_within (b ∷ part) a =
    let both = and_parts (is_line_blank b) (list_all is_line_blank part) a in
    and_from (is_within_line b) (list_all is_within_line part) (blank_is_within b both.0) (blanks_within part both.1)

pub all_append : (test : ℕ → Bool) (xs ys : List ℕ) → list_all test xs ≡ true → list_all test ys ≡ true → list_all test (xs ++ ys) ≡ true
all_append test xs ys x y = list_all-append test xs ys ∙ and_from (list_all test xs) (list_all test ys) x y

-- the whole line of an include line is one
include_more : (before after more : List ℕ) → list_all is_line_blank before ≡ true → list_all is_line_blank after ≡ true
    → (text : List ℕ) → text ≡ codes "#" ++ (before ++ (codes "include" ++ (after ++ (codes "<" ++ more)))) → IsInclude (take (line_length text) text)
include_more before after more b a text is =
    let front : List ℕ = codes "#" ++ (before ++ (codes "include" ++ (after ++ codes "<"))) in
    let whole : text ≡ front ++ more = is ∙ ap (λ l. 35 ∷ l) (joins before (codes "include") after (codes "<") more) in
    let rest : List ℕ = take (line_length more) more in
    let all : list_all is_within_line front ≡ true = all_append is_within_line before (codes "include" ++ (after ++ codes "<")) (blanks_within before b) (all_append is_within_line after (codes "<") (blanks_within after a) refl) in
    record {
      before = before;
      after = after;
      more = rest;
      blank_before = b;
      blank_after = a;
      is = rw whole (take_past is_within_line front more all) ∙ ap (λ l. 35 ∷ l) (sym (joins before (codes "include") after (codes "<") rest));
    }
  where
    joins : (x y z w more : List ℕ) → x ++ (y ++ (z ++ (w ++ more))) ≡ (x ++ (y ++ (z ++ w))) ++ more
    joins x y z w more = sym (append_assoc x (y ++ (z ++ w)) more ∙ ap (λ l. x ++ l) (append_assoc y (z ++ w) more ∙ ap (λ l. y ++ l) (append_assoc z w more)))

-- what `is_include` finds
pub include_from : (text : List ℕ) → is_include text ≡ true → IsInclude (take (line_length (35 ∷ text)) (35 ∷ text))
include_from text e =
    let word : List ℕ = past_line_blanks text in
    let tail : List ℕ = past_line_blanks (drop 7 word) in
    let both = and_parts (starts_with nat_eq word (codes "include")) (slice_index tail 0 == 60) e in
    let before : List ℕ = take (prefix_len is_line_blank text) text in
    let after : List ℕ = take (prefix_len is_line_blank (drop 7 word)) (drop 7 word) in
    let starts : word ≡ codes "include" ++ drop 7 word = (starts_is Decides-eqb word (codes "include") _ refl).0 both.0 in
    let angle : tail ≡ codes "<" ++ drop 1 tail = first_is tail 60 (omega arith) (eqb-true _ 60 both.1) in
    let first_part : text ≡ before ++ word = sym (take-append-drop (prefix_len is_line_blank text) text) in
    let second : drop 7 word ≡ after ++ tail = sym (take-append-drop (prefix_len is_line_blank (drop 7 word)) (drop 7 word)) in
    let third : word ≡ codes "include" ++ (after ++ (codes "<" ++ drop 1 tail)) = starts ∙ ap (λ l. codes "include" ++ l) (second ∙ ap (λ l. after ++ l) angle) in
    include_more before after (drop 1 tail) (all_of is_line_blank text).pass (all_of is_line_blank (drop 7 word)).pass (35 ∷ text) (ap (λ l. 35 ∷ l) (first_part ∙ ap (λ l. before ++ l) third))

-- and that it finds each
pub include_found : (line rest text : List ℕ) → IsInclude line → 35 ∷ text ≡ line ++ rest → is_include text ≡ true
include_found line rest text i e =
    let tail : List ℕ = i.more ++ rest in
    let is : text ≡ i.before ++ (codes "include" ++ (i.after ++ (codes "<" ++ tail))) =
    tails 35 35 text _ (e ∙ ap (λ l. l ++ rest) i.is) ∙ joins i.before (codes "include") i.after (codes "<") i.more rest in
    let word : past_line_blanks text ≡ codes "include" ++ (i.after ++ (codes "<" ++ tail)) = ap past_line_blanks is ∙ past is_line_blank i.before _ i.blank_before refl in
    let angle : past_line_blanks (i.after ++ (codes "<" ++ tail)) ≡ codes "<" ++ tail = past is_line_blank i.after _ i.blank_after refl in
    ap (λ w. starts_with nat_eq w (codes "include") && slice_index (past_line_blanks (drop 7 w)) 0 == 60) word ∙ ap (λ w. slice_index w 0 == 60) angle
  where
    joins : (x y z w more rest : List ℕ) → (x ++ (y ++ (z ++ (w ++ more)))) ++ rest ≡ x ++ (y ++ (z ++ (w ++ (more ++ rest))))
    joins x y z w more rest = append_assoc x _ rest ∙ ap (λ l. x ++ l) (append_assoc y _ rest ∙ ap (λ l. y ++ l) (append_assoc z _ rest ∙ ap (λ l. z ++ l) (append_assoc w more rest)))

-- ---- freshness

-- after a byte that is no blank up to the end of the line
stale : (part : List ℕ) → list_all is_within_line part ≡ true → fresh_after false part ≡ false
stale [] a = refl
stale (b ∷ part) a =
    let both = and_parts (is_within_line b) (list_all is_within_line part) a in
    rw (not-true (b == 10) both.0) (stale part both.1)

pub stale_behind : (fresh : Bool) (b : ℕ) (part : List ℕ) → is_within_line b ≡ true → is_line_blank b ≡ false → list_all is_within_line part ≡ true → fresh_after fresh (b ∷ part) ≡ false
stale_behind fresh b part w n a = ap (λ f. fresh_after f part) now ∙ stale part a
  where
    now : (b == 10 || (fresh && is_line_blank b)) ≡ false
    now = rw (not-true (b == 10) w) (rw n (and_right fresh false refl))

pub fresh_after-append : (xs ys : List ℕ) (fresh : Bool) → fresh_after fresh (xs ++ ys) ≡ fresh_after (fresh_after fresh xs) ys
fresh_after-append [] ys fresh = refl
fresh_after-append (b ∷ xs) ys fresh = fresh_after-append xs ys (b == 10 || (fresh && is_line_blank b))
