-- One mark and no other.
use Rattle.std.proofs.Common.{◌≡◌, refl, sym, ◌∙◌, ap, subst, ℕ, ◌<◌, Bool, true, false, true≢false, List, [], ◌∷◌, length, drop, get_or, drop-cons, drop-drop, ◌+◌, arith}
use Rattle.std.specs.Prelude.{Ok}
use Rattle.std.specs.Bool.{Decides}
use Rattle.ec_base.specs.declared.token.Token.{Token}
use Rattle.ec_base.specs.declared.token.TokenKind.TheVariants as t
use Rattle.ec_base.specs.declared.token.Mark.{Mark}
use Rattle.ec_base.specs.declared.token.Mark.TheVariants as m
use Rattle.ec_small.specs.Descent.{is_mark, first_is, mark, mark_if}
use Rattle.ec_small.specs.Grammar.{kinds}

same_mark : (mark found : Mark) → is_mark mark (t.Mark found) ≡ true → found ≡ mark
same_mark m.CloseParen m.CloseParen h = refl
same_mark m.OpenParen m.OpenParen h = refl
same_mark m.OpenBrace m.OpenBrace h = refl
same_mark m.CloseBrace m.CloseBrace h = refl
same_mark m.Semicolon m.Semicolon h = refl
same_mark m.Comma m.Comma h = refl
same_mark m.Assign m.Assign h = refl
same_mark m.Star m.Star h = refl
same_mark m.Plus m.Plus h = refl
same_mark m.Minus m.Minus h = refl
same_mark _ _ h = absurd (true≢false (sym h))

-- a test that is equality tells the mark
pub mark_decided : (mark found : Mark) (r : Bool) → is_mark mark (t.Mark mark) ≡ true → Decides r (found ≡ mark) → r ≡ is_mark mark (t.Mark found)
mark_decided mark found true itself d = sym (subst (λ x. is_mark mark (t.Mark x) ≡ true) (sym (d.0 refl)) itself)
mark_decided mark found false itself d = none (is_mark mark (t.Mark found)) (λ e. d.1 (same_mark mark found e))
  where
    none : (b : Bool) → (b ≡ true → false ≡ true) → false ≡ b
    none true f = f refl
    none false f = refl

-- the same at a place of the tokens
pub mark_there : (mark found : Mark) (tokens : List Token) (at : ℕ) (token : Token) (r : Bool) → at < length tokens → (get_or tokens at token).kind ≡ t.Mark found →
    is_mark mark (t.Mark mark) ≡ true → Decides r (found ≡ mark) → r ≡ first_is mark (drop at tokens)
mark_there mark found tokens at token r h kind itself d =
    mark_decided mark found r itself d ∙ sym (ap (first_is mark) (drop-cons tokens at token h) ∙ ap (is_mark mark) kind)

pub drop_next : {A : Type 0} (at : ℕ) (tokens : List A) → drop (at + 1) tokens ≡ drop 1 (drop at tokens)
drop_next at tokens = rw drop-drop (ap (λ k. drop k tokens) (omega arith))

taken : {A : Type 0} (mk : Mark) (a : A) (tokens : List Token) → first_is mk tokens ≡ true → mark mk a (kinds tokens) ≡ Ok (a, kinds (drop 1 tokens))
taken mk a [] h = cc
taken mk a (x ∷ rest) h = ap (λ b. mark_if b a x.kind (kinds rest)) h

-- a mark that stands at a place is read there
pub mark_taken : {A : Type 0} (mk : Mark) (a : A) (tokens : List Token) (at : ℕ) → first_is mk (drop at tokens) ≡ true → mark mk a (kinds (drop at tokens)) ≡ Ok (a, kinds (drop (at + 1) tokens))
mark_taken mk a tokens at h = taken mk a (drop at tokens) h ∙ ap (λ l. Ok (a, kinds l)) (sym (drop_next at tokens))
