-- The tokens so far in front of what the rest of a text gives, and one front at a time.
use Rattle.std.proofs.Common.{◌≡◌, ℕ, zero, suc, ◌+◌, ◌-◌, ◌≤◌, Bool, false, List, [], ◌∷◌, ◌++◌, length, drop, refl, ap, sym, ◌∙◌, append_assoc, arith}
use Rattle.std.proofs.lemmas.List.{drop-drop}
use Rattle.ec_base.specs.declared.token.Token.{Token}
use Rattle.ec_base.specs.declared.token.TokenKind.{TokenKind}
use Rattle.ec_lex.specs.declared.front.Front.{Front}
use Rattle.ec_lex.specs.declared.front.Front.TheVariants.{Over, Skips, Takes, Fails}
use Rattle.ec_lex.specs.declared.tokens.Scan.{Scan}
use Rattle.ec_lex.specs.Front.{front, IsPart, IsFrontOf}
use Rattle.ec_lex.specs.Scan.{token, ended, refused, put, fronted, scanned_from}

abbrev pub joined : List Token → Scan → Scan
joined before s = record { tokens = before ++ s.tokens; refusal = s.refusal }

pub joined-put : (before : List Token) (t : Token) (s : Scan) → joined before (put t s) ≡ joined (before ++ t ∷ []) s
joined-put before t s = let P : List Token → Scan = λ ts. record { tokens = ts; refusal = s.refusal } in ap P (sym (append_assoc before (t ∷ []) s.tokens))

-- the bytes that belong to what stands before are passed over
pub scanned_from-left : (left at : ℕ) (fresh : Bool) (text : List ℕ) → left ≤ length text → scanned_from left at fresh text ≡ scanned_from 0 (at + left) fresh (drop left text)
scanned_from-left zero at fresh text h = ap (λ n. scanned_from 0 n fresh text) (omega arith)
scanned_from-left (suc left) at fresh [] h = absurd (omega arith)
scanned_from-left (suc left) at fresh (b ∷ rest) h =
    scanned_from-left left (at + 1) fresh rest (omega arith) ∙ ap (λ n. scanned_from 0 n fresh (drop left rest)) (omega arith)

-- what a front and the text behind it give
abbrev pub after : (at : ℕ) → List ℕ → Front → Scan
after at text Over = ended at
after at text (Skips count fresh) = scanned_from 0 (at + count) fresh (drop count text)
after at text (Takes kind count) = put (token at kind count) (scanned_from 0 (at + count) false (drop count text))
after at text (Fails reason from to) = refused at reason from to

goes_on : (at count : ℕ) (fresh : Bool) (b : ℕ) (rest : List ℕ) → 1 ≤ count → count ≤ length (b ∷ rest) → scanned_from (count - 1) (at + 1) fresh rest ≡ scanned_from 0 (at + count) fresh (drop count (b ∷ rest))
goes_on at zero fresh b rest some within = absurd (omega arith)
goes_on at (suc n) fresh b rest some within =
    let e : suc n - 1 ≡ n = omega arith in
    rw e (scanned_from-left n (at + 1) fresh rest (omega arith) ∙ ap (λ k. scanned_from 0 k fresh (drop n rest)) (omega arith))

fronted-after : (at : ℕ) (b : ℕ) (rest : List ℕ) (f : Front) → IsFrontOf (b ∷ rest) f → fronted at f (λ left now. scanned_from left (at + 1) now rest) ≡ after at (b ∷ rest) f
fronted-after at b rest Over part = refl
fronted-after at b rest (Skips count fresh) part = goes_on at count fresh b rest part.0 part.1
fronted-after at b rest (Takes kind count) part = ap (put (token at kind count)) (goes_on at count false b rest part.0 part.1)
fronted-after at b rest (Fails reason from to) part = refl

-- one front at a time
pub scanned_from-front : (at : ℕ) (fresh : Bool) (text : List ℕ) (f : Front) → f ≡ front fresh text → IsFrontOf text f → scanned_from 0 at fresh text ≡ after at text f
unfolding front
scanned_from-front at fresh [] f is part = rw is refl
scanned_from-front at fresh (b ∷ rest) f is part = rw (← is) (fronted-after at b rest f part)

pub scanned_from-skip : (at count : ℕ) (fresh now : Bool) (text : List ℕ) → Skips count now ≡ front fresh (drop at text) → IsPart count (drop at text) → scanned_from 0 at fresh (drop at text) ≡ scanned_from 0 (at + count) now (drop (at + count) text)
scanned_from-skip at count fresh now text is part =
    scanned_from-front at fresh (drop at text) (Skips count now) is part ∙ ap (scanned_from 0 (at + count) now) (drop-drop count at text)

pub scanned_from-take : (at count : ℕ) (fresh : Bool) (kind : TokenKind) (text : List ℕ) → Takes kind count ≡ front fresh (drop at text) → IsPart count (drop at text) → scanned_from 0 at fresh (drop at text) ≡ put (token at kind count) (scanned_from 0 (at + count) false (drop (at + count) text))
scanned_from-take at count fresh kind text is part =
    scanned_from-front at fresh (drop at text) (Takes kind count) is part
    ∙ ap (λ l. put (token at kind count) (scanned_from 0 (at + count) false l)) (drop-drop count at text)

pub ruleset scanning = (joined-put, scanned_from-front, scanned_from-skip, scanned_from-take)
