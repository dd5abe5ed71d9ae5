-- The tokens of a text, and its first refusal.
use Rattle.std.specs.Prelude.{ℕ, zero, suc, ◌+◌, ◌-◌, Bool, true, false, List, [], ◌∷◌, Some, None}
use Rattle.ec_base.specs.declared.reason.Reason.{Reason}
use Rattle.ec_base.specs.declared.token.Span.{Span}
use Rattle.ec_base.specs.declared.token.Token.{Token}
use Rattle.ec_base.specs.declared.token.TokenKind.{TokenKind}
use Rattle.ec_base.specs.declared.token.TokenKind.TheVariants.{End}
use Rattle.ec_lex.specs.declared.front.Front.{Front}
use Rattle.ec_lex.specs.declared.front.Front.TheVariants.{Over, Skips, Takes, Fails}
use Rattle.ec_lex.specs.declared.tokens.Scan.{Scan}
use Rattle.ec_lex.specs.Front.{front}
use Rattle.ec_lex.specs.Tokens.{refusal_at}

-- from the place `from` to the place `to` after the first `at` bytes of a text
abbrev pub span : (at : ℕ) → (from : ℕ) → (to : ℕ) → Span
span at from to = record { from = at + from; to = at + to }

-- a token of so many bytes
abbrev pub token : (at : ℕ) → TokenKind → (count : ℕ) → Token
token at kind count = record { kind = kind; at = span at 0 count }

-- nothing but the end
abbrev pub ended : (at : ℕ) → Scan
ended at = record { tokens = token at End 0 ∷ []; refusal = None }

-- nothing but a refusal
abbrev pub refused : (at : ℕ) → Reason → (from : ℕ) → (to : ℕ) → Scan
refused at reason from to = record { tokens = []; refusal = Some (refusal_at reason (span at from to)) }

-- tokens in front of those of a scan
abbrev pub put : Token → Scan → Scan
put first s = record { tokens = first ∷ s.tokens; refusal = s.refusal }

-- what a front and the rest give; the rest is told how many further bytes belong to the front, and whether it is fresh
abbrev pub fronted : (at : ℕ) → Front → (ℕ → Bool → Scan) → Scan
fronted at Over rest = ended at
fronted at (Skips count fresh) rest = rest (count - 1) fresh
fronted at (Takes kind count) rest = put (token at kind count) (rest (count - 1) false)
fronted at (Fails reason from to) rest = refused at reason from to

-- what a text gives after its first `at` bytes, of which the rest is given; `left` bytes more belong to what stands
-- before
abbrev pub scanned_from : (left : ℕ) → (at : ℕ) → (fresh : Bool) → List ℕ → Scan
scanned_from left at fresh [] = ended at
scanned_from (suc left) at fresh (b ∷ rest) = scanned_from left (at + 1) fresh rest
scanned_from zero at fresh (b ∷ rest) =
    fronted at (front fresh (b ∷ rest)) (λ left now. scanned_from left (at + 1) now rest)

-- The tokens of a text up to its first refusal, and that refusal; where there is none, the last token is the end.
unfoldable pub scanned : List ℕ → Scan
scanned = scanned_from 0 0 true
