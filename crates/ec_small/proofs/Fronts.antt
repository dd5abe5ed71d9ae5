-- What the token at the front is, by its tests.
use Rattle.std.proofs.Common.{◌≡◌, refl, sym, ap, subst, ℕ, ◌<◌, Bool, true, false, true≢false, List, length}
use Rattle.std.specs.Prelude.{Option, Some, None, is_none, if◌then◌else◌}
use Rattle.std.proofs.lemmas.Bool.{and_parts, and_from}
use Rattle.std.proofs.lemmas.Slice.Eq.{bytes_eq-Decides}
use Rattle.ec_base.specs.declared.token.TokenKind.{TokenKind}
use Rattle.ec_base.specs.declared.token.TokenKind.TheVariants as t
use Rattle.ec_base.specs.declared.token.Mark.{Mark}
use Rattle.ec_base.specs.declared.token.Mark.TheVariants as m
use Rattle.ec_small.specs.Words.{same, place, is_name}
use Rattle.ec_small.specs.Grammar.{Names, IsNew}
use Rattle.ec_small.specs.Descent.{is_mark, is_word, is_new, new_word}

-- ---- marks and words

pub mark_is : (mk : Mark) (x : TokenKind) → is_mark mk x ≡ true → x ≡ t.Mark mk
mark_is m.CloseParen (t.Mark m.CloseParen) h = refl
mark_is m.OpenParen (t.Mark m.OpenParen) h = refl
mark_is m.OpenBrace (t.Mark m.OpenBrace) h = refl
mark_is m.CloseBrace (t.Mark m.CloseBrace) h = refl
mark_is m.Semicolon (t.Mark m.Semicolon) h = refl
mark_is m.Comma (t.Mark m.Comma) h = refl
mark_is m.Assign (t.Mark m.Assign) h = refl
mark_is m.Star (t.Mark m.Star) h = refl
mark_is m.Plus (t.Mark m.Plus) h = refl
mark_is m.Minus (t.Mark m.Minus) h = refl
mark_is _ _ h = absurd (true≢false (sym h))

pub same_is : (w v : List ℕ) → same w v ≡ true → w ≡ v
same_is w v h = (bytes_eq-Decides w v).0 h

pub same_itself : (w v : List ℕ) → w ≡ v → same w v ≡ true
same_itself w v h = (bytes_eq-Decides w v).1 h

pub word_is : (w : List ℕ) (x : TokenKind) → is_word w x ≡ true → x ≡ t.Word w
word_is w (t.Word v) h = ap t.Word (same_is v w h)
word_is w (t.Number n) h = absurd (true≢false (sym h))
word_is w (t.Str s) h = absurd (true≢false (sym h))
word_is w (t.Mark k) h = absurd (true≢false (sym h))
word_is w t.End h = absurd (true≢false (sym h))

-- ---- names

none_is : (o : Option ℕ) → is_none o ≡ true → o ≡ None
none_is None e = refl
none_is (Some k) e = absurd (true≢false (sym e))

pub new_is : (names : Names) (w : List ℕ) → is_new names w ≡ true → length names < 256 → IsNew names w
new_is names w h room = let p = and_parts (is_name w) (is_none (place names w)) h in record { name = p.0; fresh = none_is (place names w) p.1; room = room }

pub is_new_fresh : (names : Names) (w : List ℕ) → is_new names w ≡ true → place names w ≡ None
is_new_fresh names w h = none_is (place names w) (and_parts (is_name w) (is_none (place names w)) h).1

pub is_new_of : (names : Names) (w : List ℕ) → IsNew names w → is_new names w ≡ true
is_new_of names w h = and_from (is_name w) (is_none (place names w)) h.name (ap is_none h.fresh)

pub new_word_is : (names : Names) (x : TokenKind) (w : List ℕ) → new_word names x ≡ Some w → (x ≡ t.Word w) × (is_new names w ≡ true)
new_word_is names (t.Word v) w h = by (is_new names v) refl h
  where
    by : (b : Bool) → is_new names v ≡ b → (if b then Some v else None) ≡ Some w → (t.Word v ≡ t.Word w) × (is_new names w ≡ true)
    by true e h = let same : v ≡ w = cc in (ap t.Word same, subst (λ z. is_new names z ≡ true) same e)
    by false e h = absurd (cc)
new_word_is names (t.Number n) w h = absurd (cc)
new_word_is names (t.Str s) w h = absurd (cc)
new_word_is names (t.Mark k) w h = absurd (cc)
new_word_is names t.End w h = absurd (cc)
