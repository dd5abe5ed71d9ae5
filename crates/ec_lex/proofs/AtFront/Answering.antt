-- What stands at the front of a text is what `front` finds there, so that a text has one cut.
use Rattle.std.proofs.Common.{◌≡◌, ℕ, suc, ◌+◌, Bool, true, false, not, List, [], ◌∷◌, ◌++◌, length, take, Option, Some, None, refl, ap, ap₂, sym, subst, ◌∙◌, append_assoc, append-nil, one-add, arith, codes}
use Rattle.std.specs.Prelude.{◌&&◌, ◌==◌, slice_index}
use Rattle.std.specs.List.{list_all, prefix_len}
use Rattle.std.proofs.lemmas.Bool.{and_parts, and_from, and_right, eqb-true, ne_eqb, not-true, false_from_ne_true, false≢true}
use Rattle.ec_base.specs.declared.reason.Reason.{Reason}
use Rattle.ec_base.specs.declared.reason.Reason.TheVariants.{OpenString, BadEscape}
use Rattle.ec_base.specs.declared.token.TokenKind.TheVariants.{Str}
use Rattle.ec_lex.specs.declared.front.Front.TheVariants.{Takes, Fails}
use Rattle.ec_lex.specs.declared.strings.Decoded.{Decoded}
use Rattle.ec_lex.specs.declared.strings.Decoded.TheVariants.{Whole, Broken}
use Rattle.ec_lex.specs.Bytes.{is_control, line_length}
use Rattle.ec_lex.specs.declared.strings.Piece.TheVariants.{Byte}
use Rattle.ec_lex.specs.Strings.{closing, decoded, put_byte}
use Rattle.ec_lex.specs.Strings as strings
use Rattle.ec_lex.specs.Front.{string, told, closed, comment_end, front}
use Rattle.ec_lex.specs.Tokens.{first, Begins, Holds, is_within_line, is_plain, IsEscape, escaped_n, escaped_t, escaped_backslash, escaped_quote, IsInside, empty, plain, escape, IsClosable, nothing, one, two, IsBad, control, no_escape}
use Rattle.ec_lex.proofs.Inside.Parts.{all_append, take_past}
use Rattle.ec_lex.proofs.Inside.Comments.{EndedOr}
use Rattle.ec_lex.proofs.Inside.Quoted.{ClosedOr, closes, plain_from}

-- ---- parts

pub run_is : (test : ℕ → Bool) (part rest : List ℕ) → list_all test part ≡ true → first test rest ≡ false → prefix_len test (part ++ rest) ≡ length part
run_is test [] [] a e = refl
run_is test [] (b ∷ rest) a e = rw e refl
run_is test (b ∷ part) rest a e =
    let both = and_parts (test b) (list_all test part) a in
    rw both.0 (rw (one-add (prefix_len test (part ++ rest))) (ap suc (run_is test part rest both.1 e)))

pub take_part : (part rest : List ℕ) → take (length part) (part ++ rest) ≡ part
take_part [] rest = refl
take_part (b ∷ part) rest = ap (λ l. b ∷ l) (take_part part rest)

-- ---- strings

plain_parts : (b : ℕ) → is_plain b ≡ true → ((b == 34) ≡ false) × ((b == 92) ≡ false) × ((b == 10) ≡ false)
plain_parts b p = (ne_eqb b 34 (λ e. apart 34 e refl), ne_eqb b 92 (λ e. apart 92 e refl), ne_eqb b 10 (λ e. apart 10 e refl))
  where
    apart : (c : ℕ) → b ≡ c → is_plain c ≡ false → ⊥
    apart c e n = false≢true (sym n ∙ subst (λ x. is_plain x ≡ true) e p)

closing_is : {inside : List ℕ} (at : ℕ) (more : List ℕ) → IsClosable inside → closing false at (inside ++ (34 ∷ more)) ≡ Some (at + length inside)
closing_is at more nothing = ap Some (omega arith)
closing_is at more (one {b = b} {inside = i} p s) =
    let (q, k, l) = plain_parts b p in
    rw l (rw q (rw k (closing_is (at + 1) more s ∙ ap Some (omega arith))))
closing_is at more (two {e = e} {inside = i} w s) = rw (not-true (e == 10) w) (closing_is (at + 1 + 1) more s ∙ ap Some (omega arith))

escape_closable : {e b : ℕ} → IsEscape e b → is_within_line e ≡ true
escape_closable escaped_n = refl
escape_closable escaped_t = refl
escape_closable escaped_backslash = refl
escape_closable escaped_quote = refl

closable_append : {inside bytes : List ℕ} (more : List ℕ) → IsInside inside bytes → IsClosable more → IsClosable (inside ++ more)
closable_append more empty c = c
closable_append more (plain p n s) c = one p (closable_append more s c)
closable_append more (escape e s) c = two (escape_closable e) (closable_append more s c)

inside_closable : {inside bytes : List ℕ} → IsInside inside bytes → IsClosable inside
inside_closable empty = nothing
inside_closable (plain p n s) = one p (inside_closable s)
inside_closable (escape e s) = two (escape_closable e) (inside_closable s)

control_is_plain : (b : ℕ) → is_control b ≡ true → is_plain b ≡ true
control_is_plain b c = plain_from b (ne_eqb b 34 (λ e. apart 34 e refl)) (ne_eqb b 92 (λ e. apart 92 e refl)) (ne_eqb b 10 (λ e. apart 10 e refl))
  where
    apart : (d : ℕ) → b ≡ d → is_control d ≡ false → ⊥
    apart d e n = false≢true (sym n ∙ subst (λ x. is_control x ≡ true) e c)

bad_closable : {bad : List ℕ} {reason : Reason} (more : List ℕ) → IsBad bad reason → IsClosable more → IsClosable (bad ++ more)
bad_closable more (control {b = b} c) s = one (control_is_plain b c) s
bad_closable more (no_escape n w) s = two w s

closable_within : {inside : List ℕ} → IsClosable inside → list_all is_within_line inside ≡ true
closable_within nothing = refl
closable_within (one {b = b} {inside = i} p s) = and_from (is_within_line b) (list_all is_within_line i) (ap not (plain_parts b p).2) (closable_within s)
closable_within (two {e = e} {inside = i} w s) = and_from (is_within_line e) (list_all is_within_line i) w (closable_within s)

-- bytes in front of what the rest stands for
abbrev put_all : List ℕ → Decoded → Decoded
put_all [] d = d
put_all (b ∷ bytes) d = put_byte b (put_all bytes d)

put_all-whole : (bytes : List ℕ) → put_all bytes (Whole []) ≡ Whole bytes
put_all-whole [] = refl
put_all-whole (b ∷ bytes) = ap (put_byte b) (put_all-whole bytes)

put_all-broken : (bytes : List ℕ) (reason : Reason) (from to : ℕ) → put_all bytes (Broken reason from to) ≡ Broken reason from to
put_all-broken [] reason from to = refl
put_all-broken (b ∷ bytes) reason from to = ap (put_byte b) (put_all-broken bytes reason from to)

escape_is : {e b : ℕ} → IsEscape e b → strings.escape e ≡ Byte b
escape_is escaped_n = refl
escape_is escaped_t = refl
escape_is escaped_backslash = refl
escape_is escaped_quote = refl

decoded_on : {inside bytes : List ℕ} (at : ℕ) (more : List ℕ) → IsInside inside bytes → decoded false at (inside ++ more) ≡ put_all bytes (decoded false (at + length inside) more)
decoded_on at more empty = ap (λ n. decoded false n more) (omega arith)
decoded_on at more (plain {b = b} {inside = i} {bytes = bytes} p n s) =
    rw (plain_parts b p).1 (rw n (ap (put_byte b) (decoded_on (at + 1) more s ∙ ap (λ k. put_all bytes (decoded false k more)) (omega arith))))
decoded_on at more (escape {e = e} {b = b} {inside = i} {bytes = bytes} is s) =
    rw (escape_is is) (ap (put_byte b) (decoded_on (at + 1 + 1) more s ∙ ap (λ k. put_all bytes (decoded false k more)) (omega arith)))

not_escape : (e c b : ℕ) → ((d : ℕ) → IsEscape e d → ⊥) → IsEscape c b → (e == c) ≡ false
not_escape e c b none is = ne_eqb e c (λ same. none b (subst (λ x. IsEscape x b) (sym same) is))

decoded_bad : {bad : List ℕ} {reason : Reason} (at : ℕ) (more : List ℕ) → IsBad bad reason → decoded false at (bad ++ more) ≡ Broken reason at (at + length bad)
decoded_bad at more (control {b = b} c) = rw (plain_parts b (control_is_plain b c)).1 (rw c refl)
decoded_bad at more (no_escape {e = e} n w) =
    rw (not_escape e 110 10 n escaped_n) (rw (not_escape e 116 9 n escaped_t) (rw (not_escape e 92 92 n escaped_backslash) (rw (not_escape e 34 34 n escaped_quote)
    (ap₂ (λ k l. Broken BadEscape k l) (omega arith) (omega arith)))))

string_is : (inside rest : List ℕ) → IsClosable inside → string (34 ∷ (inside ++ (34 ∷ rest))) ≡ told (length inside + 2) (decoded false 1 inside)
unfolding string
string_is inside rest c =
    rw (closing_is 1 rest c) (ap₂ (λ n l. told n (decoded false 1 l)) (omega arith) (ap (λ n. take n (inside ++ (34 ∷ rest))) (omega arith) ∙ take_part inside (34 ∷ rest)))

pub spelled_string : (fresh : Bool) (inside bytes rest : List ℕ) → IsInside inside bytes → front fresh (34 ∷ (inside ++ (34 ∷ rest))) ≡ Takes (Str bytes) (length inside + 2)
unfolding front
spelled_string fresh inside bytes rest h =
    string_is inside rest (inside_closable h) ∙ ap (told (length inside + 2)) (ap (decoded false 1) (sym (append-nil inside)) ∙ decoded_on 1 [] h ∙ put_all-whole bytes)

pub broken_string : (fresh : Bool) (inside bytes bad after rest : List ℕ) (reason : Reason) → IsInside inside bytes → IsBad bad reason → IsClosable after
    → front fresh (34 ∷ ((inside ++ (bad ++ after)) ++ (34 ∷ rest))) ≡ Fails reason (1 + length inside) (1 + length inside + length bad)
unfolding front
broken_string fresh inside bytes bad after rest reason h wrong c =
    string_is (inside ++ (bad ++ after)) rest (closable_append (bad ++ after) h (bad_closable after wrong c))
    ∙ ap (told (length (inside ++ (bad ++ after)) + 2)) (decoded_on 1 (bad ++ after) h ∙ ap (put_all bytes) (decoded_bad (1 + length inside) after wrong) ∙ put_all-broken bytes reason _ _)

pub open_string : (fresh : Bool) (line rest : List ℕ) → list_all is_within_line line ≡ true → first is_within_line rest ≡ false
    → ((inside : List ℕ) → IsClosable inside → Begins (inside ++ codes "\"") line → ⊥) → front fresh (34 ∷ (line ++ rest)) ≡ Fails OpenString 0 (suc (length line))
unfolding front string
open_string fresh line rest all stop none = ap (closed (34 ∷ (line ++ rest))) (is_none (closing false 1 (line ++ rest)) (closes false 1 (line ++ rest))) ∙ ap (Fails OpenString 0) (run_is is_within_line (34 ∷ line) rest all stop)
  where
    is_none : (o : Option ℕ) → ClosedOr false 1 (line ++ rest) o → o ≡ None
    is_none None h = refl
    is_none (Some end) h =
        let front : List ℕ = h.inside ++ codes "\"" in
        let whole : line ++ rest ≡ front ++ h.more = h.cut ∙ sym (append_assoc h.inside (codes "\"") h.more) in
        let within : list_all is_within_line front ≡ true = all_append is_within_line h.inside (codes "\"") (closable_within h.shape) refl in
        let cut : line ≡ take (line_length (line ++ rest)) (line ++ rest) = sym (ap (λ n. take n (line ++ rest)) (run_is is_within_line line rest all stop) ∙ take_part line rest) in
        absurd (none h.inside h.shape (take (line_length h.more) h.more, cut ∙ ap (λ l. take (line_length l) l) whole ∙ take_past is_within_line front h.more within))

-- ---- comments

pub comment_end_is : (body : List ℕ) (at : ℕ) (rest : List ℕ) → (Holds (codes "*/") (body ++ codes "*") → ⊥) → comment_end at (body ++ (codes "*/" ++ rest)) ≡ Some (at + (length body + 2))
comment_end_is [] at rest none = refl
comment_end_is (b ∷ body) at rest none =
    rw (not_here body none) (comment_end_is body (at + 1) rest (λ h. none (b ∷ h.0, (h.1.0, ap (λ l. b ∷ l) h.1.1))) ∙ ap Some (omega arith))
  where
    not_here : (body : List ℕ) → (Holds (codes "*/") (b ∷ (body ++ codes "*")) → ⊥) → (b == 42 && slice_index (body ++ (codes "*/" ++ rest)) 0 == 47) ≡ false
    not_here [] none = and_right (b == 42) false refl
    not_here (c ∷ body) none = false_from_ne_true (b == 42 && c == 47) (λ e. let both = and_parts (b == 42) (c == 47) e in
        none ([], (body ++ codes "*", ap₂ (λ x y. x ∷ (y ∷ (body ++ codes "*"))) (eqb-true b 42 both.0) (eqb-true c 47 both.1))))

pub no_comment_end : (text : List ℕ) (o : Option ℕ) → EndedOr 2 text o → (Holds (codes "*/") text → ⊥) → o ≡ None
no_comment_end text None e none = refl
no_comment_end text (Some end) e none = absurd (none (e.body, (e.more, e.cut ∙ sym (append_assoc e.body (codes "*/") e.more))))
