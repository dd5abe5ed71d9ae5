-- Readers of types decide their languages.
use Rattle.std.proofs.Common.{refl, sym, inl, inr, ◌≤◌, ℕ, suc, Bool, true, false, ◌||◌, List, codes, true≢false}
use Rattle.ec_base.specs.declared.limits.TheConstants.{MAX_NESTING}
use Rattle.ec_base.specs.declared.token.Mark.TheVariants as m
use Rattle.ec_base.specs.declared.token.Token.{Token}
use Rattle.ec_syntax.specs.declared.name.Base.{Base}
use Rattle.ec_syntax.specs.declared.name.Base.TheVariants.{Void, Int, Struct}
use Rattle.ec_syntax.specs.declared.name.Mode.{Mode}
use Rattle.ec_syntax.specs.declared.name.Mode.TheVariants.{Plain, Local, Shared}
use Rattle.ec_syntax.specs.Grammar.State.{State, Asked}
use Rattle.ec_syntax.specs.Grammar.Language as L
use Rattle.ec_syntax.specs.Grammar.Language.{Language}
use Rattle.ec_syntax.specs.Descent.Reader as R
use Rattle.ec_syntax.specs.Descent.Reader.{Reader}
use Rattle.ec_syntax.specs.Grammar.Tokens as T
use Rattle.ec_syntax.specs.Grammar.Tokens.{is_word, is_mark}
use Rattle.ec_syntax.specs.Grammar.Types as types
use Rattle.ec_syntax.specs.Grammar.Types.{typed}
use Rattle.ec_syntax.specs.Descent.Tokens as RT
use Rattle.ec_syntax.specs.Descent.Tokens.{is_name, begins_base}
use Rattle.ec_syntax.proofs.Decision.Procedures.{Within}
use Rattle.ec_syntax.proofs.Lookahead.FirstSets.{itself, split, none, none_apart, none_within}
use Rattle.ec_syntax.proofs.Decision.Limited.{Told, followed, made, made_maybe, reindexed, either, turning, given, renamed, same_language}
use Rattle.ec_syntax.proofs.Terminals.Tokens.{word_told, name_told}
use Rattle.ec_syntax.proofs.Tokens.Classes.{from_word}
use Rattle.ec_syntax.proofs.Tokens.Samples.{Sample, int_sample, void_sample, struct_sample, local_sample, shared_sample}

-- ---- words of the language

-- a star goes on a type
abbrev pub goes_stars : Token → Bool
goes_stars = is_mark m.Star

module _ (X : Type 0) (fits able : Type 0) (d : ℕ) (small : fits → d ≤ MAX_NESTING) (goes : Token → Bool) where
  -- a word that stands for a value
  pub keyword_told : {A : Type 0} (w : List ℕ) → Sample (is_word w) → (a : A) →
      Told {X = X} fits able d (λ x. R.◌>>◌ (RT.word w) (R.give a))
      (λ x. L.◌>>◌ (T.word d w) (L.give a)) ⊥ (is_word w) goes
  keyword_told w sample a = made (λ x u. a) (word_told X fits able d small goes w sample)

  pub struct_base_told : Told {X = X} fits able d (λ x. RT.struct_base)
      (λ x. types.struct_base d) ⊥ (is_word (codes "struct")) goes
  struct_base_told =
      followed (λ x u. R.◌>>=◌ RT.name (λ n. R.give (Struct n))) (word_told X fits able d small none (codes "struct") struct_sample)
      (made (λ x n. Struct n) (name_told (X × Unit {0}) fits able d small goes)) (λ x e. refl) (λ e. absurd e) (λ e. e)

  pub void_base_told : Told {X = X} fits able d
      (λ x. R.when (is_word (codes "void")) (R.◌>>◌ (RT.word (codes "void")) (R.give Void)) RT.struct_base)
      (λ x. L.◌or◌ (L.◌>>◌ (T.word d (codes "void")) (L.give Void)) (types.struct_base d)) ⊥ (λ t. is_word (codes "void") t || is_word (codes "struct") t) goes
  void_base_told = either (is_word (codes "void")) (keyword_told (codes "void") void_sample Void) struct_base_told (itself _)
      (from_word (codes "struct") (is_word (codes "void")) false (λ at. refl)) (λ e. absurd e)

  pub base_told : Told {X = X} fits able d (λ x. RT.base) (λ x. types.base d) ⊥ begins_base goes
  base_told = renamed regroup ungroup (either (is_word (codes "int")) (keyword_told (codes "int") int_sample Int) void_base_told (itself _)
      (λ x e. split _ _ (from_word (codes "void") (is_word (codes "int")) false (λ at. refl) x) (from_word (codes "struct") (is_word (codes "int")) false (λ at. refl) x) e) (λ e. absurd e))
    where
      regroup : Within (λ t. is_word (codes "int") t || (is_word (codes "void") t || is_word (codes "struct") t))
          begins_base
      regroup x e = split _ _ (from_word (codes "int") begins_base true (λ at. refl) x)
          (split _ _ (from_word (codes "void") begins_base true (λ at. refl) x) (from_word (codes "struct") begins_base true (λ at. refl) x)) e

      ungroup : Within begins_base (λ t. is_word (codes "int") t ||
          (is_word (codes "void") t || is_word (codes "struct") t))
      ungroup x e = split _ _ (split _ _ (from_word (codes "int") (λ t. is_word (codes "int") t || (is_word (codes "void") t || is_word (codes "struct") t)) true (λ at. refl) x)
          (from_word (codes "void") (λ t. is_word (codes "int") t || (is_word (codes "void") t || is_word (codes "struct") t)) true (λ at. refl) x))
          (from_word (codes "struct") (λ t. is_word (codes "int") t || (is_word (codes "void") t || is_word (codes "struct") t)) true (λ at. refl) x) e

  -- the base of a variable
  pub variable_base_told : Told {X = X} fits able d (λ x. RT.variable_base)
      (λ x. L.◌or◌ (types.int_base d) (types.struct_base d)) ⊥
      (λ t. is_word (codes "int") t || is_word (codes "struct") t) goes
  variable_base_told = either (is_word (codes "int")) (keyword_told (codes "int") int_sample Int) struct_base_told (itself _)
      (from_word (codes "struct") (is_word (codes "int")) false (λ at. refl)) (λ e. absurd e)

-- ---- stars, which are read by this reader

module _ (fits able : Type 0) (d : ℕ) (small : fits → d ≤ MAX_NESTING) (star : Reader (Unit {0}))
    (lstar : Language (Unit {0}))
    (stars : (Y : Type 0) (goes : Token → Bool) → Told {X = Y} fits able d (λ y. star) (λ y. lstar) ⊥ (is_mark m.Star) goes) where
  pub stars_told : (Y : Type 0) (from : Y → ℕ) →
      Told {X = Y} fits able d (λ y. RT.stars star (from y)) (λ y. types.stars lstar (from y)) (Unit {0})
      (is_mark m.Star) goes_stars
  stars_told Y from = reindexed (λ y. (y, from y)) (turning (λ (y : Y) k. R.◌>>◌ star (R.give (suc k))) (λ y k. L.◌>>◌ lstar (L.give (suc k)))
      (made (λ yk u. suc yk.1) (stars (Y × ℕ) none)) (λ x e. refl) (none_within goes_stars) (itself goes_stars))

  typed_told : (Y : Type 0) (from : Y → ℕ) (b : Y → Base) →
      Told {X = Y} fits able d (λ y. R.◌>>=◌ (RT.stars star (from y)) (λ k. R.give (typed (b y) k)))
      (λ y. L.◌>>=◌ (types.stars lstar (from y)) (λ k. L.give (typed (b y) k))) (Unit {0}) (is_mark m.Star) goes_stars
  typed_told Y from b = made_maybe (λ y k. typed (b y) k) (stars_told Y from)

  pub type_with_told : (Y : Type 0) → Told {X = Y} fits able d (λ y. RT.type_with star)
      (λ y. types.type_with d lstar) ⊥ begins_base goes_stars
  type_with_told Y = followed (λ y b. R.◌>>=◌ (RT.stars star 0) (λ k. R.give (typed b k))) (base_told Y fits able d small none) (typed_told (Y × Base) (λ y. 0) (λ y. y.1)) (λ x e. refl) (λ e. none_within goes_stars) (λ e. e)

  pub pointer_with_told : (Y : Type 0) → Told {X = Y} fits able d (λ y. RT.pointer_with star)
      (λ y. types.pointer_with d lstar) ⊥ begins_base goes_stars
  pointer_with_told Y = followed (λ y b. R.◌>>◌ star (R.◌>>=◌ (RT.stars star 1) (λ k. R.give (typed b k)))) (base_told Y fits able d small none)
      (followed (λ y u. R.◌>>=◌ (RT.stars star 1) (λ k. R.give (typed y.1 k))) (stars (Y × Base) none) (typed_told ((Y × Base) × Unit {0}) (λ y. 1) (λ y. y.0.1)) (λ x e. refl) (λ e. none_within goes_stars) (λ e. e))
      (λ x e. refl) (λ e. none_within goes_stars) (λ e. e)

-- ---- modes

abbrev pub goes_mode : Token → Bool
goes_mode x = is_word (codes "local") x || is_word (codes "shared") x

-- a mode as it is read
abbrev pub read_mode : ℕ → Language Mode
read_mode d = L.◌or◌ (L.◌>>◌ (T.word d (codes "local")) (L.give Local)) (L.◌or◌ (L.◌>>◌ (T.word d (codes "shared")) (L.give Shared)) (L.give Plain))

mode_to : (d : ℕ) (asked : Asked) (s : State) (a : Mode) (m : State) → read_mode d asked s a m →
    types.mode d asked s a m
mode_to d asked s a m (inl h) = inr (inl h)
mode_to d asked s a m (inr (inl h)) = inr (inr h)
mode_to d asked s a m (inr (inr h)) = inl h

mode_from : (d : ℕ) (asked : Asked) (s : State) (a : Mode) (m : State) → types.mode d asked s a m →
    read_mode d asked s a m
mode_from d asked s a m (inl h) = inr (inr h)
mode_from d asked s a m (inr (inl h)) = inl h
mode_from d asked s a m (inr (inr h)) = inr (inl h)

module _ (X : Type 0) (fits able : Type 0) (d : ℕ) (small : fits → d ≤ MAX_NESTING) where
  shared_told : Told {X = X} fits able d (λ x. R.when (is_word (codes "shared"))
      (R.◌>>◌ (RT.word (codes "shared")) (R.give Shared)) (R.give Plain))
      (λ x. L.◌or◌ (L.◌>>◌ (T.word d (codes "shared")) (L.give Shared)) (L.give Plain)) (Unit {0}) (λ t. is_word (codes "shared") t || none t) goes_mode
  shared_told = either (is_word (codes "shared")) (keyword_told X fits able d small goes_mode (codes "shared") shared_sample Shared) (given (λ x. Plain) fits able d goes_mode) (itself _)
      (none_apart _) (λ u. from_word (codes "shared") goes_mode true (λ at. refl))

  pub mode_told : Told {X = X} fits able d (λ x. RT.mode) (λ x. types.mode d) (Unit {0}) goes_mode goes_mode
  mode_told = same_language (λ x. mode_to d) (λ x. mode_from d) (renamed to from (either (is_word (codes "local")) (keyword_told X fits able d small goes_mode (codes "local") local_sample Local) shared_told (itself _)
      (λ x e. split _ _ (from_word (codes "shared") (is_word (codes "local")) false (λ at. refl) x) (λ f. absurd (true≢false (sym f))) e) (λ u. from_word (codes "local") goes_mode true (λ at. refl))))
    where
      to : Within (λ t. is_word (codes "local") t || (is_word (codes "shared") t || none t)) goes_mode
      to x e = split _ _ (from_word (codes "local") goes_mode true (λ at. refl) x) (λ g. split _ _ (from_word (codes "shared") goes_mode true (λ at. refl) x) (λ f. absurd (true≢false (sym f))) g) e

      from : Within goes_mode (λ t. is_word (codes "local") t || (is_word (codes "shared") t || none t))
      from x e = split _ _ (from_word (codes "local") (λ t. is_word (codes "local") t || (is_word (codes "shared") t || none t)) true (λ at. refl) x)
          (from_word (codes "shared") (λ t. is_word (codes "local") t || (is_word (codes "shared") t || none t)) true (λ at. refl) x) e
