-- A mark with a blank behind it is the longest that begins there.
use Rattle.std.proofs.Common.{◌≡◌, ℕ, ◌<◌, ◌≤◌, Bool, true, not, List, [], ◌∷◌, ◌++◌, length, Contains, refl, ap, sym, subst, ◌∙◌, arith}
use Rattle.std.specs.Prelude.{nat_le, slice_index}
use Rattle.std.specs.List.{list_all}
use Rattle.std.proofs.lemmas.Bool.{leb-true, not-true, false≢true}
use Rattle.std.proofs.lemmas.List.Elements.{All-contains}
use Rattle.std.proofs.lemmas.List.Sums.{AllPass-from_list_all}
use Rattle.ec_base.specs.declared.token.Mark.{Mark}
use Rattle.ec_base.specs.declared.token.Mark.TheVariants as m
use Rattle.ec_base.specs.declared.token.TokenKind.TheVariants as t
use Rattle.ec_lex.specs.Bytes.{is_blank}
use Rattle.ec_lex.specs.Marks.{marks_of_two_bytes, marks_of_one_byte}
use Rattle.ec_lex.specs.Tokens.{Begins, openings, IsSpelled}
use Rattle.ec_lex.specs.Tokens as spec
use Rattle.ec_print.specs.Layout.{spelling}

-- what holds of each of a table
each : {X : Type 0} (test : X → Bool) (table : List X) (x : X) → list_all test table ≡ true → Contains table x → test x ≡ true
each test table x all h = All-contains (λ y. test y ≡ true) table x (AllPass-from_list_all test table all) h

-- each mark stands in the tables with its own bytes
in_tables : (k : Mark) → Contains (marks_of_two_bytes ++ marks_of_one_byte) (spelling k, k)
in_tables m.OpenPar = (0, omega arith, refl)
in_tables m.ClosePar = (1, omega arith, refl)
in_tables m.Arrow = (2, omega arith, refl)
in_tables m.Increment = (3, omega arith, refl)
in_tables m.Decrement = (4, omega arith, refl)
in_tables m.ShiftLeft = (5, omega arith, refl)
in_tables m.ShiftRight = (6, omega arith, refl)
in_tables m.LessEqual = (7, omega arith, refl)
in_tables m.GreaterEqual = (8, omega arith, refl)
in_tables m.Equal = (9, omega arith, refl)
in_tables m.NotEqual = (10, omega arith, refl)
in_tables m.AndAnd = (11, omega arith, refl)
in_tables m.OrOr = (12, omega arith, refl)
in_tables m.OpenBrace = (13, omega arith, refl)
in_tables m.CloseBrace = (14, omega arith, refl)
in_tables m.OpenParen = (15, omega arith, refl)
in_tables m.CloseParen = (16, omega arith, refl)
in_tables m.OpenBracket = (17, omega arith, refl)
in_tables m.CloseBracket = (18, omega arith, refl)
in_tables m.Semicolon = (19, omega arith, refl)
in_tables m.Comma = (20, omega arith, refl)
in_tables m.Dot = (21, omega arith, refl)
in_tables m.At = (22, omega arith, refl)
in_tables m.Assign = (23, omega arith, refl)
in_tables m.Plus = (24, omega arith, refl)
in_tables m.Minus = (25, omega arith, refl)
in_tables m.Star = (26, omega arith, refl)
in_tables m.Slash = (27, omega arith, refl)
in_tables m.Percent = (28, omega arith, refl)
in_tables m.And = (29, omega arith, refl)
in_tables m.Or = (30, omega arith, refl)
in_tables m.Caret = (31, omega arith, refl)
in_tables m.Tilde = (32, omega arith, refl)
in_tables m.Bang = (33, omega arith, refl)
in_tables m.Less = (34, omega arith, refl)
in_tables m.Greater = (35, omega arith, refl)

-- nothing whose second byte is no blank begins where the second byte is one
second : (x b : ℕ) (rest longer more : List ℕ) → is_blank b ≡ true → not (is_blank (slice_index longer 1)) ≡ true → 1 < length longer → x ∷ b ∷ rest ≡ longer ++ more → ⊥
second x b rest [] more blank apart l e = absurd (omega (arith, l))
second x b rest (y ∷ []) more blank apart l e = absurd (omega (arith, l))
second x b rest (y ∷ z ∷ longer) more blank apart l e =
    let second_of : List ℕ → ℕ = λ l. slice_index l 1 in
    let same : b ≡ z = ap second_of e in
    false≢true (sym (not-true (is_blank z) apart) ∙ subst (λ c. is_blank c ≡ true) same blank)

-- no opening has more than two bytes, and in none is the second a blank
no_longer : (part : List ℕ) (b : ℕ) (rest : List ℕ) → 1 ≤ length part → is_blank b ≡ true
    → (longer : List ℕ) → Contains openings longer → length part < length longer → Begins longer (part ++ b ∷ rest) → ⊥
no_longer [] b rest some blank longer c l begins = absurd (omega (arith, some))
no_longer (x ∷ []) b rest some blank longer c l begins =
    second x b rest longer begins.0 blank (each (λ o. not (is_blank (slice_index o 1))) openings longer refl c) l begins.1
no_longer (x ∷ y ∷ part) b rest some blank longer c l begins = absurd (omega (arith, l, leb-true (length longer) 2 (each (λ o. nat_le (length o) 2) openings longer refl c)))

pub spelling_some : (k : Mark) → 1 ≤ length (spelling k)
spelling_some k = leb-true 1 (length (spelling k)) (each (λ (u : List ℕ × Mark). nat_le 1 (length u.0)) (marks_of_two_bytes ++ marks_of_one_byte) (spelling k, k) refl (in_tables k))

pub mark_is : (k : Mark) (b : ℕ) (rest : List ℕ) → is_blank b ≡ true → IsSpelled (spelling k) (b ∷ rest) (t.Mark k)
mark_is k b rest blank = spec.mark (in_tables k) (no_longer (spelling k) b rest (spelling_some k) blank)
