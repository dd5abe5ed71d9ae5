-- A text is cut into what its fronts are.
use Rattle.std.proofs.Common.{◌≡◌, ℕ, zero, suc, ◌+◌, ◌≤◌, Bool, true, false, List, [], ◌∷◌, ◌++◌, length, drop, None, refl, ap, sym, subst, ◌∙◌, arith, length-append}
use Rattle.std.proofs.lemmas.List.Prefix.{front_rest}
use Rattle.ec_base.specs.declared.token.TokenKind.{TokenKind}
use Rattle.ec_base.specs.declared.token.TokenKind.TheVariants.{End}
use Rattle.ec_lex.specs.declared.front.Front.{Front}
use Rattle.ec_lex.specs.declared.front.Front.TheVariants.{Over, Skips, Takes, Fails}
use Rattle.ec_lex.specs.declared.tokens.Scan.{Scan}
use Rattle.ec_lex.specs.Front.{front, IsFrontOf}
use Rattle.ec_lex.specs.Scan.{scanned, scanned_from, token, span}
use Rattle.ec_lex.specs.Tokens.{Cuts, over, skips, takes, fails, refusal_at, bytes_at}
use Rattle.ec_lex.proofs.Cuts.Scanning.{after, scanned_from-front}
use Rattle.ec_lex.proofs.AtFront.Told.{Tells}
use Rattle.ec_lex.proofs.AtFront.Fronts.{front_tells}

-- the cuts of a scan
abbrev CutsBy : ℕ → Bool → List ℕ → Scan → Type 0
CutsBy at fresh text s = Cuts at fresh text s.tokens s.refusal

-- ---- a front is a part of its text

within : (text part rest : List ℕ) (count : ℕ) → text ≡ part ++ rest → length part ≡ count → count ≤ length text
within text part rest count cut is = omega (arith, ap length cut, length-append part rest, is)

part_of : (fresh : Bool) (text : List ℕ) (f : Front) → Tells fresh text f → IsFrontOf text f
part_of fresh text Over t = ap length t
part_of fresh text (Skips count now) t = (t.some, within text t.part t.rest count t.cut t.count_is)
part_of fresh text (Takes kind count) t = (t.some, within text t.part t.rest count t.cut t.count_is)
part_of fresh text (Fails reason from to) t =
    (omega (arith, t.some, t.to_is), omega (arith, ap length t.cut, length-append t.before (t.bad ++ t.rest), length-append t.bad t.rest, t.from_is, t.to_is))

-- ---- one front at a time

behind : (text part rest : List ℕ) (count : ℕ) → text ≡ part ++ rest → length part ≡ count → drop count text ≡ rest
behind text part rest count cut is = ap (λ n. drop n text) (sym is) ∙ front_rest text part rest cut

pub span_is : (at from count : ℕ) → span at from (from + count) ≡ bytes_at (at + from) count
span_is at from count = ap (λ n. record { from = at + from; to = n }) (omega arith)

pub token_is : (at : ℕ) (kind : TokenKind) (count : ℕ) → token at kind count ≡ record { kind = kind; at = bytes_at at count }
token_is at kind count = ap (λ n. record { kind = kind; at = record { from = n; to = at + count } }) (omega arith)

shorter : (text part rest : List ℕ) (count : ℕ) → text ≡ part ++ rest → length part ≡ count → 1 ≤ count → length rest + 1 ≤ length text
shorter text part rest count cut is some = omega (arith, ap length cut, length-append part rest, is, some)

after_cuts : (at : ℕ) (fresh : Bool) (text : List ℕ) (f : Front) → Tells fresh text f
    → ((now : Bool) (rest : List ℕ) (next : ℕ) → length rest + 1 ≤ length text → CutsBy next now rest (scanned_from 0 next now rest)) → CutsBy at fresh text (after at text f)
after_cuts at fresh text Over t go = subst (λ l. Cuts at fresh l (token at End 0 ∷ []) None) (sym t) (over (ap (λ k. k ∷ []) (token_is at End 0)))
after_cuts at fresh text (Skips count now) t go =
    let S : Scan = scanned_from 0 (at + count) now (drop count text) in
    let rest : Cuts (at + count) now t.rest S.tokens S.refusal = rw (behind text t.part t.rest count t.cut t.count_is) (go now t.rest (at + count) (shorter text t.part t.rest count t.cut t.count_is t.some)) in
    skips t.cut t.is (subst (λ f. Cuts (at + length t.part) f t.rest S.tokens S.refusal) (sym t.now_is) (subst (λ n. Cuts (at + n) now t.rest S.tokens S.refusal) (sym t.count_is) rest))
after_cuts at fresh text (Takes kind count) t go =
    let S : Scan = scanned_from 0 (at + count) false (drop count text) in
    let rest : Cuts (at + count) false t.rest S.tokens S.refusal = rw (behind text t.part t.rest count t.cut t.count_is) (go false t.rest (at + count) (shorter text t.part t.rest count t.cut t.count_is t.some)) in
    takes t.cut t.is (token_is at kind count ∙ ap (λ n. record { kind = kind; at = bytes_at at n }) (sym t.count_is)) (subst (λ n. Cuts (at + n) false t.rest S.tokens S.refusal) (sym t.count_is) rest)
after_cuts at fresh text (Fails reason from to) t go =
    fails t.cut t.is (ap (refusal_at reason) (rw t.to_is (rw t.from_is (span_is at (length t.before) (length t.bad)))))

-- the scan of a text begins with its front
pub at_front : (at : ℕ) (fresh : Bool) (text : List ℕ) → scanned_from 0 at fresh text ≡ after at text (front fresh text)
at_front at fresh text = scanned_from-front at fresh text (front fresh text) refl (part_of fresh text (front fresh text) (front_tells fresh text))

one_front : (at : ℕ) (fresh : Bool) (text : List ℕ)
    → ((now : Bool) (rest : List ℕ) (next : ℕ) → length rest + 1 ≤ length text → CutsBy next now rest (scanned_from 0 next now rest)) → CutsBy at fresh text (scanned_from 0 at fresh text)
one_front at fresh text go = subst (CutsBy at fresh text) (sym (at_front at fresh text)) (after_cuts at fresh text (front fresh text) (front_tells fresh text) go)

cuts_from : (most at : ℕ) (fresh : Bool) (text : List ℕ) → length text ≤ most → CutsBy at fresh text (scanned_from 0 at fresh text)
cuts_from zero at fresh text h =
    one_front at fresh text (λ now rest next below. absurd (omega (arith, below, h)))
cuts_from (suc most) at fresh text h =
    one_front at fresh text (λ now rest next below. cuts_from most next now rest (omega (arith, below, h)))

-- the tokens and the refusal of a text are those of its cuts
pub cuts : (text : List ℕ) → Cuts 0 true text (scanned text).tokens (scanned text).refusal
unfolding scanned
cuts text = cuts_from (length text) 0 true text (omega arith)
