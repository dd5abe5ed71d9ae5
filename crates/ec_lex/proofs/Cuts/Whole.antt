-- The tokens of a text that has no refusal are those of a whole text.
use Rattle.std.proofs.Common.{◌≡◌, ◌≤◌, ◌+◌, ℕ, Bool, true, false, List, ◌∷◌, ◌++◌, length, map, refl, ap, sym, subst, Option, Some, None, arith, length-append}
use Rattle.ec_base.specs.declared.limits.TheConstants.{MAX_SOURCE}
use Rattle.ec_base.specs.declared.token.Token.{Token}
use Rattle.ec_base.specs.declared.token.TokenKind.{TokenKind}
use Rattle.ec_base.specs.Lexical.{AllLexical, AreTokens, Rises, last, next, is_end}
use Rattle.ec_lex.specs.declared.refusal.LexRefusal.{LexRefusal}
use Rattle.ec_lex.specs.Tokens.{Cuts, over, skips, takes, fails, IsSpelled, word, number, string, mark}
use Rattle.ec_lex.proofs.AtFront.Told.{Tells, Taken}
use Rattle.ec_lex.proofs.AtFront.Fronts.{front_tells}
use Rattle.ec_lex.proofs.Cuts.OneCut.{found_spelled}

-- what is spelled has a byte
spelled_some : {part rest : List ℕ} {kind : TokenKind} → IsSpelled part rest kind → 1 ≤ length part
spelled_some {part = part} {rest = rest} {kind = kind} is =
    let taken : Taken (part ++ rest) kind (length part) = subst (Tells true (part ++ rest)) (found_spelled true is) (front_tells true (part ++ rest)) in
    taken.some

-- and is not the end
spelled_no_end : {part rest : List ℕ} {kind : TokenKind} → IsSpelled part rest kind → is_end kind ≡ false
spelled_no_end (word all begins) = refl
spelled_no_end (number all is below) = refl
spelled_no_end (string is inner) = refl
spelled_no_end (mark in_table longest) = refl

rises_before : {m n : ℕ} {tokens : List Token} → m ≤ n → Rises n tokens → Rises m tokens
rises_before h (last end from to) = last end (omega (arith, h, from)) to
rises_before h (next other from some more) = next other (omega (arith, h, from)) some more

rises : {at : ℕ} {fresh : Bool} {text : List ℕ} {tokens : List Token} {refusal : Option LexRefusal} → Cuts at fresh text tokens refusal → refusal ≡ None → Rises at tokens
rises (over {at = at} is) none = subst (Rises at) (sym is) (last refl (omega arith) (omega arith))
rises (skips {at = at} {part = part} cut is more) none = rises_before (omega arith) (rises more none)
rises (takes {at = at} {part = part} {first = first} {tokens = tokens} cut is first_is more) none =
    subst (λ t. Rises at (t ∷ tokens)) (sym first_is) (next (spelled_no_end is) (omega arith) (omega (arith, spelled_some is)) (rises more none))
rises (fails {refusal = refusal} cut is refused_is) none = let clash : Some refusal ≡ None = none in cc

-- each token but the last has a byte of its own
few : {at : ℕ} {fresh : Bool} {text : List ℕ} {tokens : List Token} {refusal : Option LexRefusal} → Cuts at fresh text tokens refusal → length tokens ≤ length text + 1
few (over is) = omega (arith, ap length is)
few (skips {text = text} {part = part} {rest = rest} cut is more) = omega (arith, few more, ap length cut, length-append part rest)
few (takes {text = text} {part = part} {rest = rest} cut is first_is more) = omega (arith, few more, ap length cut, length-append part rest, spelled_some is)
few (fails cut is refused_is) = omega arith

pub are_tokens : (text : List ℕ) (tokens : List Token) → length text ≤ MAX_SOURCE → Cuts 0 true text tokens None → AllLexical (map (λ x. x.kind) tokens) → AreTokens tokens
are_tokens text tokens short cuts lexical = record { few = omega (arith, few cuts, short); rising = rises cuts refl; lexical = lexical }
