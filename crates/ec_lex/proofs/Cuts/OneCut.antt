-- A text has one cut: what `scanned` computes.
use Rattle.std.proofs.Common.{◌≡◌, ℕ, suc, ◌+◌, Bool, true, false, List, [], ◌∷◌, ◌++◌, length, take, drop, Option, Some, None, refl, ap, ap₂, sym, subst, ◌∙◌, append_assoc, append-nil, arith, codes, length-append}
use Rattle.std.specs.Prelude.{◌==◌}
use Rattle.std.specs.List.{list_all}
use Rattle.std.proofs.lemmas.Bool.{cond-true, cond-false, false_from_ne_true}
use Rattle.std.proofs.lemmas.List.Prefix.{front_rest}
use Rattle.ec_base.specs.declared.reason.Reason.{Reason}
use Rattle.ec_base.specs.declared.reason.Reason.TheVariants.{BadNumber, OpenComment, OpenString, HashLine}
use Rattle.ec_base.specs.declared.token.Token.{Token}
use Rattle.ec_base.specs.declared.token.TokenKind.{TokenKind}
use Rattle.ec_base.specs.declared.token.TokenKind.TheVariants.{End, Str}
use Rattle.ec_lex.specs.declared.refusal.LexRefusal.{LexRefusal}
use Rattle.ec_lex.specs.declared.front.Front.TheVariants.{Over, Skips, Takes, Fails}
use Rattle.ec_lex.specs.declared.tokens.Scan.{Scan}
use Rattle.ec_lex.specs.Bytes.{is_line_blank, is_blank, line_length, is_include}
use Rattle.ec_lex.specs.Front.{front, IsFrontOf, comment, commented, comment_end, hash_line}
use Rattle.ec_lex.specs.Scan.{scanned, scanned_from, put, token, span}
use Rattle.ec_lex.specs.Tokens.{IsAll, is_within_line, fresh_after, IsInclude, IsSkipped, blank, line_comment, block_comment, include_line, IsSpelled, word, number, string, mark, IsFault, bad_byte, bad_number, open_comment, bad_inside, Cuts, over, skips, takes, fails, refusal_at, IsOnlyCut, TextsHaveACut, TextsHaveOneCut}
use Rattle.ec_lex.specs.Tokens as spec
use Rattle.ec_lex.proofs.Inside.Parts.{stale_behind, fresh_after-append, include_from, include_found}
use Rattle.ec_lex.proofs.Inside.Comments.{comment_ends}
use Rattle.ec_lex.proofs.AtFront.Answering.{run_is, take_part, spelled_string, broken_string, open_string, comment_end_is, no_comment_end}
use Rattle.ec_lex.proofs.AtFront.Found.{found_word, found_number, found_bad_number, found_mark, found_bad_byte}
use Rattle.ec_lex.proofs.AtFront.Fronts.{blank_fresh, star_slash}
use Rattle.ec_lex.proofs.Cuts.Scanning.{joined, after, scanned_from-front}
use Rattle.ec_lex.proofs.Cuts.Cutting.{at_front, token_is, span_is, cuts}

-- ---- what is skipped

finds_line_comment : (fresh : Bool) (part rest more : List ℕ) → part ≡ codes "//" ++ more → IsAll is_within_line part rest → front fresh (part ++ rest) ≡ Skips (length part) (fresh_after fresh part)
unfolding front
finds_line_comment fresh part rest more is all =
    ap (λ l. front fresh (l ++ rest)) is ∙ ap (λ l. Skips (line_length (l ++ rest)) false) (sym is)
    ∙ ap₂ Skips (run_is is_within_line part rest all.pass all.no_more) (sym (ap (fresh_after fresh) is ∙ stale))
  where
    whole : list_all is_within_line (codes "//" ++ more) ≡ true
    whole = subst (λ l. list_all is_within_line l ≡ true) is all.pass

    stale : fresh_after fresh (codes "//" ++ more) ≡ false
    stale = stale_behind fresh 47 (47 ∷ more) refl refl whole

finds_comment : (fresh : Bool) (text : List ℕ) → front fresh (47 ∷ (42 ∷ text)) ≡ commented (47 ∷ (42 ∷ text)) (comment_end 2 text)
unfolding front comment
finds_comment fresh text = refl

finds_block_comment : (fresh : Bool) (body rest : List ℕ) → (spec.Holds (codes "*/") (body ++ codes "*") → ⊥)
    → front fresh ((codes "/*" ++ (body ++ codes "*/")) ++ rest) ≡ Skips (length (codes "/*" ++ (body ++ codes "*/"))) (fresh_after fresh (codes "/*" ++ (body ++ codes "*/")))
finds_block_comment fresh body rest none =
    let text : List ℕ = (body ++ codes "*/") ++ rest in
    let end : comment_end 2 text ≡ Some (2 + (length body + 2)) = ap (comment_end 2) (append_assoc body (codes "*/") rest) ∙ comment_end_is body 2 rest none in
    finds_comment fresh text ∙ ap (commented (47 ∷ (42 ∷ text))) end
    ∙ ap₂ Skips (omega (arith, length-append body (codes "*/"))) (sym (fresh_after-append (47 ∷ (42 ∷ body)) (codes "*/") fresh ∙ star_slash (fresh_after fresh (47 ∷ (42 ∷ body)))))

finds_hash_line : (text : List ℕ) → front true (35 ∷ text) ≡ hash_line (35 ∷ text)
unfolding front
finds_hash_line text = refl

finds_include_line : (part rest more : List ℕ) → part ≡ 35 ∷ more → IsInclude part → IsAll is_within_line part rest → front true (part ++ rest) ≡ Skips (length part) (fresh_after true part)
unfolding hash_line
finds_include_line part rest more is include all =
    let found : is_include (more ++ rest) ≡ true = include_found part rest (more ++ rest) include (ap (λ l. l ++ rest) (sym is)) in
    let within : list_all is_within_line (35 ∷ more) ≡ true = subst (λ l. list_all is_within_line l ≡ true) is all.pass in
    ap (λ l. front true (l ++ rest)) is ∙ finds_hash_line (more ++ rest)
    ∙ cond-true (is_include (more ++ rest)) (Skips (line_length (35 ∷ (more ++ rest))) false) (Fails HashLine 0 (line_length (35 ∷ (more ++ rest)))) found
    ∙ ap₂ Skips (ap (λ l. line_length (l ++ rest)) (sym is) ∙ run_is is_within_line part rest all.pass all.no_more) (sym (ap (fresh_after true) is ∙ stale_behind true 35 more refl refl within))

finds_blank : (fresh : Bool) (b : ℕ) (rest : List ℕ) → is_blank b ≡ true → front fresh (b ∷ rest) ≡ Skips 1 (fresh_after fresh (b ∷ []))
unfolding front
finds_blank fresh b rest e = cond-true (is_blank b) _ _ e ∙ ap (Skips 1) (sym (blank_fresh fresh (is_line_blank b) (b == 10) e))

found_skipped : {fresh : Bool} {part rest : List ℕ} → IsSkipped fresh part rest → front fresh (part ++ rest) ≡ Skips (length part) (fresh_after fresh part)
found_skipped (blank {fresh = fresh} {b = b} {rest = rest} e) = finds_blank fresh b rest e
found_skipped (line_comment {fresh = fresh} {part = part} {rest = rest} begins all) = finds_line_comment fresh part rest begins.0 begins.1 all
found_skipped (block_comment {fresh = fresh} {part = part} {rest = rest} body is none) =
    subst (λ l. front fresh (l ++ rest) ≡ Skips (length l) (fresh_after fresh l)) (sym is) (finds_block_comment fresh body rest none)
found_skipped (include_line {fresh = fresh} {part = part} {rest = rest} is include all) =
    subst (λ f. front f (part ++ rest) ≡ Skips (length part) (fresh_after f part)) (sym is) (finds_include_line part rest _ include.is include all)

-- ---- tokens

pub found_spelled : {part rest : List ℕ} {kind : TokenKind} (fresh : Bool) → IsSpelled part rest kind → front fresh (part ++ rest) ≡ Takes kind (length part)
found_spelled fresh (word {part = part} {rest = rest} all begins) = found_word fresh part rest all begins
found_spelled fresh (number {part = part} {rest = rest} {value = value} all is below) = found_number fresh part rest value all is below
found_spelled fresh (string {part = part} {inside = inside} {rest = rest} {bytes = bytes} is inner) =
    ap (λ l. front fresh (l ++ rest)) is ∙ ap (λ l. front fresh (34 ∷ l)) (append_assoc inside (codes "\"") rest) ∙ spelled_string fresh inside bytes rest inner
    ∙ ap (Takes (Str bytes)) (sym (ap length is ∙ ap suc (length-append inside (codes "\"")) ∙ omega arith))
found_spelled fresh (mark {part = part} {rest = rest} {m = m} in_table longest) = found_mark fresh part rest m in_table longest

-- ---- faults

found_hash_line : (bad rest more : List ℕ) → bad ≡ 35 ∷ more → IsAll is_within_line bad rest → (IsInclude bad → ⊥) → front true (bad ++ rest) ≡ Fails HashLine 0 (length bad)
unfolding hash_line
found_hash_line bad rest more is all none =
    let whole : List ℕ = 35 ∷ (more ++ rest) in
    let line : take (line_length whole) whole ≡ bad =
    ap (λ l. take (line_length (l ++ rest)) (l ++ rest)) (sym is) ∙ ap (λ n. take n (bad ++ rest)) (run_is is_within_line bad rest all.pass all.no_more) ∙ take_part bad rest in
    ap (λ l. front true (l ++ rest)) is ∙ finds_hash_line (more ++ rest)
    ∙ cond-false (is_include (more ++ rest)) (Skips (line_length (35 ∷ (more ++ rest))) false) (Fails HashLine 0 (line_length (35 ∷ (more ++ rest))))
    (false_from_ne_true (is_include (more ++ rest)) (λ e. none (subst IsInclude line (include_from (more ++ rest) e))))
    ∙ ap (Fails HashLine 0) (ap (λ l. line_length (l ++ rest)) (sym is) ∙ run_is is_within_line bad rest all.pass all.no_more)

from_zero : (n : ℕ) → n ≡ 0 + n
from_zero n = omega arith

found_fault : {fresh : Bool} {before bad rest : List ℕ} {reason : Reason} → IsFault fresh before bad rest reason → front fresh (before ++ (bad ++ rest)) ≡ Fails reason (length before) (length before + length bad)
found_fault (bad_byte {fresh = fresh} {b = b} {rest = rest} n) = found_bad_byte fresh b rest n
found_fault (bad_number {fresh = fresh} {bad = bad} {rest = rest} all digit none) = found_bad_number fresh bad rest all digit none ∙ ap (Fails BadNumber 0) (from_zero (length bad))
found_fault (open_comment {fresh = fresh} {bad = bad} {body = body} is none) =
    ap (front fresh) (append-nil bad ∙ is) ∙ finds_comment fresh body ∙ ap (commented (47 ∷ (42 ∷ body))) (no_comment_end body (comment_end 2 body) (comment_ends 2 body) none)
    ∙ ap (Fails OpenComment 0) (sym (ap length is) ∙ from_zero (length bad))
found_fault (spec.open_string {fresh = fresh} {bad = bad} {line = line} {rest = rest} is all none) =
    let within : list_all is_within_line line ≡ true = subst (λ l. list_all is_within_line l ≡ true) is all.pass in
    ap (λ l. front fresh (l ++ rest)) is ∙ open_string fresh line rest within all.no_more none ∙ ap (Fails OpenString 0) (sym (ap length is) ∙ from_zero (length bad))
found_fault (bad_inside {fresh = fresh} {before = before} {inside = inside} {bytes = bytes} {bad = bad} {after = behind} {rest = rest} {reason = reason} more is inner wrong ends closable) =
    let tail : List ℕ = codes "\"" ++ more in
    let joins : inside ++ (bad ++ (behind ++ tail)) ≡ (inside ++ (bad ++ behind)) ++ tail = sym (append_assoc inside (bad ++ behind) tail ∙ ap (λ l. inside ++ l) (append_assoc bad behind tail)) in
    let from : 1 + length inside ≡ length before = omega (arith, ap length is) in
    ap₂ (λ x y. front fresh (x ++ (bad ++ y))) is ends ∙ ap (λ l. front fresh (34 ∷ l)) joins ∙ broken_string fresh inside bytes bad behind more reason inner wrong closable
    ∙ ap (λ n. Fails reason n (n + length bad)) from
found_fault (spec.hash_line {fresh = fresh} {bad = bad} {rest = rest} is begins all none) =
    subst (λ f. front f (bad ++ rest) ≡ Fails HashLine 0 (0 + length bad)) (sym is) (found_hash_line bad rest begins.0 begins.1 all none ∙ ap (Fails HashLine 0) (from_zero (length bad)))

-- ---- one cut

pub cut_is : {at : ℕ} {fresh : Bool} {text : List ℕ} {tokens : List Token} {refusal : Option LexRefusal} → Cuts at fresh text tokens refusal → record { tokens = tokens; refusal = refusal } ≡ scanned_from 0 at fresh text
cut_is (over {at = at} is) = ap (λ l. record { tokens = l; refusal = None }) (is ∙ ap (λ t. t ∷ []) (sym (token_is at End 0)))
cut_is (skips {at = at} {fresh = fresh} {text = text} {part = part} {rest = rest} cut is more) =
    cut_is more ∙ ap (scanned_from 0 (at + length part) (fresh_after fresh part)) (sym (front_rest text part rest cut))
    ∙ ap (after at text) (sym (ap (front fresh) cut ∙ found_skipped is)) ∙ sym (at_front at fresh text)
cut_is (takes {at = at} {fresh = fresh} {text = text} {part = part} {rest = rest} {kind = kind} {first = first} {tokens = tokens} {refusal = refusal} cut is first_is more) =
    ap (λ t. record { tokens = t ∷ tokens; refusal = refusal }) (first_is ∙ sym (token_is at kind (length part)))
    ∙ ap (put (token at kind (length part))) (cut_is more ∙ ap (scanned_from 0 (at + length part) false) (sym (front_rest text part rest cut)))
    ∙ ap (after at text) (sym (ap (front fresh) cut ∙ found_spelled fresh is)) ∙ sym (at_front at fresh text)
cut_is (fails {at = at} {fresh = fresh} {text = text} {before = before} {bad = bad} {rest = rest} {reason = reason} cut is refused_is) =
    ap (λ r. record { tokens = []; refusal = Some r }) (refused_is ∙ ap (refusal_at reason) (sym (span_is at (length before) (length bad))))
    ∙ ap (after at text) (sym (ap (front fresh) cut ∙ found_fault is)) ∙ sym (at_front at fresh text)

-- each text has a cut
pub some_cut : TextsHaveACut
some_cut text = ((scanned text).tokens, (scanned text).refusal, cuts text)

-- and no other
pub one_cut : TextsHaveOneCut
one_cut text tokens refusal c others other d =
    let same = cut_is d ∙ sym (cut_is c) in
    (ap (λ x. x.tokens) same, ap (λ x. x.refusal) same)

-- ---- where the scan ends

-- the scan of a text
pub record IsScan (text : List ℕ) (s : Scan) : Type 0 where
  pub cuts : Cuts 0 true text s.tokens s.refusal
  pub only : IsOnlyCut text s.tokens s.refusal

scan_is : (text : List ℕ) (s : Scan) → s ≡ scanned text → IsScan text s
unfolding scanned
scan_is text s is = record {
  cuts = subst (λ x. Cuts 0 true text x.tokens x.refusal) (sym is) (cuts text);
  only = λ others other c. let same = cut_is c ∙ sym is in (ap (λ x. x.tokens) same, ap (λ x. x.refusal) same);
}

pub at_end : (text : List ℕ) (before tokens : List Token) (last : Token) (at : ℕ) (fresh : Bool) → scanned text ≡ joined before (scanned_from 0 at fresh (drop at text))
    → Over ≡ front fresh (drop at text) → IsFrontOf (drop at text) Over → last ≡ token at End 0 → tokens ≡ before ++ last ∷ [] → IsScan text (record { tokens = tokens; refusal = None })
at_end text before tokens last at fresh so_far is part last_is all =
    let now = so_far ∙ ap (joined before) (scanned_from-front at fresh (drop at text) Over is part) in
    scan_is text _ (ap (λ (l : List Token). record { tokens = l; refusal = None }) (all ∙ ap (λ (t : Token). before ++ t ∷ []) last_is) ∙ sym now)

pub at_fault : (text : List ℕ) (before : List Token) (refusal : LexRefusal) (at : ℕ) (fresh : Bool) (reason : Reason) (from to : ℕ) → scanned text ≡ joined before (scanned_from 0 at fresh (drop at text))
    → Fails reason from to ≡ front fresh (drop at text) → IsFrontOf (drop at text) (Fails reason from to) → refusal ≡ refusal_at reason (span at from to)
    → IsScan text (record { tokens = before; refusal = Some refusal })
at_fault text before refusal at fresh reason from to so_far is part refused_is =
    let now = so_far ∙ ap (joined before) (scanned_from-front at fresh (drop at text) (Fails reason from to) is part) in
    let tokens = ap (λ (l : List Token). record { tokens = l; refusal = Some refusal }) (sym (append-nil before)) in
    scan_is text _ (tokens ∙ ap (λ (r : LexRefusal). record { tokens = before ++ []; refusal = Some r }) refused_is ∙ sym now)
