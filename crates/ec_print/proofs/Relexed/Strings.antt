-- The bytes that are written for a string stand for it.
use Rattle.std.proofs.Common.{◌≡◌, ℕ, true, false, List, [], ◌∷◌, ◌++◌, refl, sym, subst, arith, codes}
use Rattle.std.specs.Prelude.{◌==◌, if◌then◌else◌}
use Rattle.std.specs.List.{list_all}
use Rattle.std.proofs.lemmas.Bool.{cond_both, and_parts, eqb-true}
use Rattle.std.proofs.lemmas.Bool.Decides.{nat_tests}
use Rattle.ec_base.specs.Lexical.{is_string_byte}
use Rattle.ec_lex.specs.Bytes.{is_control}
use Rattle.ec_lex.specs.Tokens.{is_plain, IsInside, IsEscape}
use Rattle.ec_lex.specs.Tokens as spec
use Rattle.ec_print.specs.Layout.{escape, escaped}

-- a byte that a string may stand for is no control byte, unless it is the tab
no_control : (b : ℕ) → is_string_byte b ≡ true → (b == 9) ≡ false → is_control b ≡ false
no_control b is tab = grind (arith, nat_tests)

plain_from : (b : ℕ) → (b == 34) ≡ false → (b == 92) ≡ false → (b == 10) ≡ false → is_plain b ≡ true
plain_from b q s l = rw q (rw s (rw l refl))

put : (b : ℕ) (inside bytes : List ℕ) → is_string_byte b ≡ true → IsInside inside bytes → IsInside (escape b ++ inside) (b ∷ bytes)
put b inside bytes is h =
    let Q : List ℕ → Type 0 = λ l. IsInside (l ++ inside) (b ∷ bytes) in
    cond_both (b == 10) (codes "\\n") (if b == 9 then codes "\\t" else (if b == 92 then codes "\\\\" else (if b == 34 then codes "\\\"" else b ∷ []))) Q
    (λ lf. with_escape 110 10 lf spec.escaped_n)
    (λ lf. cond_both (b == 9) (codes "\\t") (if b == 92 then codes "\\\\" else (if b == 34 then codes "\\\"" else b ∷ [])) Q
    (λ tab. with_escape 116 9 tab spec.escaped_t)
    (λ tab. cond_both (b == 92) (codes "\\\\") (if b == 34 then codes "\\\"" else b ∷ []) Q
    (λ slash. with_escape 92 92 slash spec.escaped_backslash)
    (λ slash. cond_both (b == 34) (codes "\\\"") (b ∷ []) Q
    (λ quote. with_escape 34 34 quote spec.escaped_quote)
    (λ quote. spec.plain (plain_from b quote slash lf) (no_control b is tab) h))))
  where
    with_escape : (e c : ℕ) → (b == c) ≡ true → IsEscape e c → IsInside (92 ∷ e ∷ inside) (b ∷ bytes)
    with_escape e c same i = subst (λ d. IsInside (92 ∷ e ∷ inside) (d ∷ bytes)) (sym (eqb-true b c same)) (spec.escape i h)

pub escaped_inside : (bytes : List ℕ) → list_all is_string_byte bytes ≡ true → IsInside (escaped bytes) bytes
escaped_inside [] all = spec.empty
escaped_inside (b ∷ bytes) all =
    let both = and_parts (is_string_byte b) (list_all is_string_byte bytes) all in
    put b (escaped bytes) bytes both.0 (escaped_inside bytes both.1)
