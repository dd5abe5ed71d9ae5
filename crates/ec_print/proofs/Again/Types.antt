-- Types, read again.
use Rattle.std.proofs.Common.{◌≡◌, refl, sym, ◌∙◌, ap, ap₂, inl, inr, ℕ, zero, suc, Bool, [], ◌∷◌, ◌++◌, codes}
use Rattle.ec_base.specs.declared.token.Mark.TheVariants as m
use Rattle.ec_base.specs.declared.token.TokenKind.TheVariants as t
use Rattle.ec_syntax.specs.Grammar.Language as L
use Rattle.ec_syntax.specs.Grammar.Language.{Language}
use Rattle.ec_syntax.specs.Grammar.State.{State, limits}
use Rattle.ec_syntax.specs.Grammar.Tokens.{word}
use Rattle.ec_syntax.specs.Grammar.Types as T
use Rattle.ec_syntax.specs.declared.name.Base.{Base}
use Rattle.ec_syntax.specs.declared.name.Base.TheVariants.{Void, Int, Struct}
use Rattle.ec_syntax.specs.declared.name.Mode.{Mode}
use Rattle.ec_syntax.specs.declared.name.Mode.TheVariants.{Local, Shared}
use Rattle.ec_syntax.specs.declared.name.Ty.{Ty}
use Rattle.ec_print.specs.Phrase.{tokens}
use Rattle.ec_print.specs.Sentence as S
use Rattle.ec_print.specs.Unplaced as U
use Rattle.ec_print.proofs.Again.Readings.{Again, Kinds, as_kinds, as_language, given, behind}
use Rattle.ec_print.proofs.Again.Marks.{anything, name_at, word_again, name_again}
use Rattle.ec_print.proofs.Again.Rules.{Repeats, Grows, settled, made, turns_again}

module _ {tight : Bool} {d : ℕ} where
  pub int_again : (s : State) (b : Base) (n : State) → T.int_base d limits s b n → Repeats tight S.base U.base (T.int_base d) s b n
  int_again s b n (u, i, r, (e, f)) = settled S.base U.base e f (made (λ _. Int) (λ _ _. refl) (word_again (codes "int") r))

  void_again : (s : State) (b : Base) (n : State) → L.◌>>◌ (word d (codes "void")) (L.give Void) limits s b n → Repeats tight S.base U.base (L.◌>>◌ (word d (codes "void")) (L.give Void)) s b n
  void_again s b n (u, i, r, (e, f)) = settled S.base U.base e f (made (λ _. Void) (λ _ _. refl) (word_again (codes "void") r))

  pub struct_again : (s : State) (b : Base) (n : State) → T.struct_base d limits s b n → Repeats tight S.base U.base (T.struct_base d) s b n
  struct_again s b n (u, i, r, (x, j, q, (e, f))) =
      settled S.base U.base e f (behind tt tt (word_again (codes "struct") r) (λ _ _. made Struct (λ y k. ap (λ w. Struct (name_at w U.nowhere)) k) (name_again q)))

  pub base_again : (s : State) (b : Base) (n : State) → T.base d limits s b n → Repeats tight S.base U.base (T.base d) s b n
  base_again s b n (inl r) = as_language (λ t b n r. inl r) (int_again s b n r)
  base_again s b n (inr (inl r)) = as_language (λ t b n r. inr (inl r)) (void_again s b n r)
  base_again s b n (inr (inr r)) = as_language (λ t b n r. inr (inr r)) (struct_again s b n r)

  pub mode_again : (s : State) (b : Mode) (n : State) → T.mode d limits s b n → Repeats tight S.mode (λ x. x) (T.mode d) s b n
  mode_again s b n (inl (e, f)) = settled S.mode (λ x. x) e f (as_language (λ t b n r. inl r) (given refl))
  mode_again s b n (inr (inl (u, i, r, (e, f)))) = settled S.mode (λ x. x) e f (as_language (λ t b n r. inr (inl r)) (made (λ _. Local) (λ _ _. refl) (word_again (codes "local") r)))
  mode_again s b n (inr (inr (u, i, r, (e, f)))) = settled S.mode (λ x. x) e f (as_language (λ t b n r. inr (inr r)) (made (λ _. Shared) (λ _ _. refl) (word_again (codes "shared") r)))

-- ---- stars

pub stars-snoc : (k : ℕ) → tokens (S.stars (suc k)) ≡ tokens (S.stars k) ++ t.Mark m.Star ∷ []
stars-snoc zero = refl
stars-snoc (suc k) = ap (λ z. t.Mark m.Star ∷ z) (stars-snoc k)

abbrev starred : ℕ → Kinds
starred k = tokens (S.stars k)

module _ {tight : Bool} (star : Language (Unit {0})) (H : (s : State) (u : Unit {0}) (n : State) → star limits s u n → Again tight s n star (t.Mark m.Star ∷ []) anything) where
  star_grows : (s : State) (a b : ℕ) (n : State) → L.◌>>◌ star (L.give (suc a)) limits s b n → Grows tight starred (λ k. k) (λ k. L.◌>>◌ star (L.give (suc k))) s a b n
  star_grows s a b n (u, i, r, (e, f)) = (
    t.Mark m.Star ∷ [],
    ap starred e ∙ stars-snoc a,
    λ c k. settled (λ _. S.mark m.Star) (λ z. z) e f (made (λ _. suc c) (λ _ _. ap suc k) (H s u i r)),
  )

  pub stars_grow : (s : State) (a b : ℕ) (n : State) → T.stars star a limits s b n → Grows tight starred (λ k. k) (T.stars star) s a b n
  stars_grow = turns_again starred (λ k. k) star_grows

  pub stars_again : (s : State) (k : ℕ) (n : State) → T.stars star 0 limits s k n → Repeats tight S.stars (λ k. k) (T.stars star 0) s k n
  stars_again s k n r = let g = stars_grow s 0 k n r in as_kinds (sym g.1) (g.2 0 refl)

  pub typed_alike : (b b' : Base) (k k' : ℕ) → U.base b' ≡ U.base b → k' ≡ k → U.type (T.typed b' k') ≡ U.type (T.typed b k)
  typed_alike b b' k k' = ap₂ T.typed

  pub type_again : (d : ℕ) (s : State) (ty : Ty) (n : State) → T.type_with d star limits s ty n → Repeats tight S.type U.type (T.type_with d star) s ty n
  type_again d s ty n (b, i, r, (k, j, q, (e, f))) =
      settled S.type U.type e f (behind b refl (base_again s b i r) (λ b' h. made (T.typed b') (λ k' g. typed_alike b b' k k' h g) (stars_again i k j q)))

  pub pointer_again : (d : ℕ) (s : State) (ty : Ty) (n : State) → T.pointer_with d star limits s ty n → Repeats tight S.type U.type (T.pointer_with d star) s ty n
  pointer_again d s ty n (b, i, r, (u, i', r', (k, j, q, (e, f)))) =
      let g = stars_grow i' 1 k j q in
      settled S.type U.type e f
      (as_kinds (ap (λ z. tokens (S.base b) ++ z) (sym g.1))
      (behind b refl (base_again s b i r) (λ b' h. behind tt tt (H i u i' r') (λ _ _. made (T.typed b') (λ k' w. typed_alike b b' k k' h w) (g.2 1 refl)))))
