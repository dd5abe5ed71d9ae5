-- Laid-out tokens are cut one after another: each with the blank behind it.
use Rattle.std.proofs.Common.{◌≡◌, ◌≤◌, ◌<◌, ℕ, ◌+◌, ◌^◌, Bool, true, false, not, List, [], ◌∷◌, ◌++◌, map, length, length-append, None, pos, negsuc, refl, ap, arith}
use Rattle.std.specs.List.{list_all}
use Rattle.std.proofs.lemmas.Bool.{cond_both, and_parts, false≢true, ltb-true, not-true}
use Rattle.std.proofs.lemmas.Fmt.{decimal_nonempty}
use Rattle.ec_base.specs.declared.token.Token.{Token}
use Rattle.ec_base.specs.declared.token.TokenKind.{TokenKind}
use Rattle.ec_base.specs.declared.token.TokenKind.TheVariants as t
use Rattle.ec_base.specs.Lexical.{AllLexical, Rises, last, next, is_lexical, is_end}
use Rattle.ec_lex.specs.Bytes.{is_blank}
use Rattle.ec_lex.specs.Tokens.{Cuts, IsSpelled, bytes_at, fresh_after}
use Rattle.ec_lex.specs.Tokens as spec
use Rattle.ec_print.specs.Layout.{spelled, gap, ends_line, depth_after, laid_from}
use Rattle.ec_print.specs.Relexed.{NoEnd, PrintedIsCut}
use Rattle.ec_print.proofs.Relexed.Marks.{mark_is, spelling_some}
use Rattle.ec_print.proofs.Relexed.Strings.{escaped_inside}
use Rattle.ec_print.proofs.Relexed.Words.{word_is, number_is}

-- a blank stands behind each token
gap_is_blank : (depth : ℕ) (k : TokenKind) → is_blank (gap depth k) ≡ true
gap_is_blank depth (t.Word w) = refl
gap_is_blank depth (t.Number n) = refl
gap_is_blank depth (t.Str s) = refl
gap_is_blank depth (t.Mark k) = cond_both (ends_line depth k) 10 32 (λ b. is_blank b ≡ true) (λ e. refl) (λ e. refl)
gap_is_blank depth t.End = refl

-- and before it the token is spelled out
spelled_is : (k : TokenKind) (b : ℕ) (rest : List ℕ) → is_lexical k ≡ true → not (is_end k) ≡ true → is_blank b ≡ true → IsSpelled (spelled k) (b ∷ rest) k
spelled_is (t.Word w) b rest lexical some blank = word_is w b rest lexical blank
spelled_is (t.Number (pos n)) b rest lexical some blank = number_is n b rest lexical blank
spelled_is (t.Number (negsuc n)) b rest lexical some blank = absurd (false≢true lexical)
spelled_is (t.Str s) b rest lexical some blank = spec.string refl (escaped_inside s lexical)
spelled_is (t.Mark k) b rest lexical some blank = mark_is k b rest blank
spelled_is t.End b rest lexical some blank = absurd (false≢true some)

-- which takes a byte at least
spelled_some : (k : TokenKind) → is_lexical k ≡ true → not (is_end k) ≡ true → 1 ≤ length (spelled k)
spelled_some (t.Word []) lexical some = absurd (false≢true lexical)
spelled_some (t.Word (b ∷ w)) lexical some = omega arith
spelled_some (t.Number (pos n)) lexical some = let below : n < 2 ^ 63 = ltb-true n (2 ^ 63) lexical in decimal_nonempty n (omega (arith, below))
spelled_some (t.Number (negsuc n)) lexical some = absurd (false≢true lexical)
spelled_some (t.Str s) lexical some = omega arith
spelled_some (t.Mark k) lexical some = spelling_some k
spelled_some t.End lexical some = absurd (false≢true some)

later : {at from : ℕ} {tokens : List Token} → at ≤ from → Rises from tokens → Rises at tokens
later h (last end from empty) = last end (omega (arith, h, from)) empty
later h (next other from some more) = next other (omega (arith, h, from)) some more

-- what a text of tokens of these kinds is cut into, from a place on
pub record CutAgain (at : ℕ) (fresh : Bool) (text : List ℕ) (ks : List TokenKind) : Type 0 where
  pub tokens : List Token
  pub cut : Cuts at fresh text tokens None
  pub kinds : map (λ x. x.kind) tokens ≡ ks ++ t.End ∷ []
  pub rising : Rises at tokens
  pub few : length tokens ≤ length text + 1

-- behind any parentheses
pub laid_is_cut : (ks : List TokenKind) (at : ℕ) (fresh : Bool) (depth : ℕ) → AllLexical ks → NoEnd ks → CutAgain at fresh (laid_from depth ks) ks
laid_is_cut [] at fresh depth lexical some =
    record { tokens = record { kind = t.End; at = bytes_at at 0 } ∷ []; cut = spec.over refl; kinds = refl; rising = last refl (omega arith) (omega arith); few = omega arith }
laid_is_cut (k ∷ ks) at fresh depth lexical some =
    let these = and_parts (is_lexical k) (list_all is_lexical ks) lexical in
    let none = and_parts (not (is_end k)) (list_all (λ x. not (is_end x)) ks) some in
    let b = gap depth k in
    let blank = gap_is_blank depth k in
    let behind : ℕ = at + length (spelled k) in
    let text : List ℕ = laid_from (depth_after depth k) ks in
    let more = laid_is_cut ks (behind + 1) (fresh_after false (b ∷ [])) (depth_after depth k) these.1 none.1 in
    let first : Token = record { kind = k; at = bytes_at at (length (spelled k)) } in
    let has : 1 ≤ length (spelled k) = spelled_some k these.0 none.0 in
    record {
      tokens = first ∷ more.tokens;
      cut = spec.takes refl (spelled_is k b text these.0 none.0 blank) refl (spec.skips {part = b ∷ []} refl (spec.blank blank) more.cut);
      kinds = ap (λ l. k ∷ l) more.kinds;
      rising = next (not-true (is_end k) none.0) (omega arith) (omega (arith, has)) (later (omega arith) more.rising);
      few = omega (arith, more.few, has, length-append (spelled k) (b ∷ text));
    }

pub printed_is_cut : PrintedIsCut
printed_is_cut ks lexical some = let c = laid_is_cut ks 0 true 0 lexical some in (c.tokens, c.cut, c.kinds)
