-- Tokens, types, brackets and lists of plain tokens are those of what is read of them.
use Rattle.std.proofs.Common.{◌≡◌, refl, sym, ◌∙◌, ap, arith, ℕ, ◌+◌, suc, ℤ, List, [], ◌∷◌, ◌++◌, append_assoc, append-nil, map, codes, Option, Some}
use Rattle.ec_base.specs.declared.token.Mark.{Mark}
use Rattle.ec_base.specs.declared.token.Mark.TheVariants as m
use Rattle.ec_base.specs.declared.token.TokenKind.TheVariants as t
use Rattle.ec_syntax.specs.Grammar.Expressions as E
use Rattle.ec_syntax.specs.Grammar.Language as L
use Rattle.ec_syntax.specs.Grammar.Language.{Language}
use Rattle.ec_syntax.specs.Grammar.State.{State, Counts}
use Rattle.ec_syntax.specs.Grammar.Statements as Z
use Rattle.ec_syntax.specs.Grammar.Tokens as T
use Rattle.ec_syntax.specs.Grammar.Types as Y
use Rattle.ec_syntax.specs.declared.name.Base.TheVariants.{Struct}
use Rattle.ec_syntax.specs.declared.name.Name.{Name}
use Rattle.ec_syntax.proofs.Tokens.Classes.{chosen_kind, number_kind, string_kind}
use Rattle.ec_print.specs.Layout.{depth_after}
use Rattle.ec_print.specs.Phrase.{Phrase, tokens}
use Rattle.ec_print.specs.Sentence as S
use Rattle.ec_print.proofs.Again.Readings.{Kinds}
use Rattle.ec_print.proofs.Again.Lists.{joins-snoc, commas-snoc, listed_tail}
use Rattle.ec_print.proofs.Again.Marks.{name_kind}
use Rattle.ec_print.proofs.Again.Tokens.{mark_kind, word_kind}
use Rattle.ec_print.proofs.Again.Types.{stars-snoc}
use Rattle.ec_print.proofs.Plain.Rules.{Clean, Spelt, Spells, weaker, spelt, either, behind, ends, given, turned, taken, not_taken}

-- ---- single tokens

module _ {d o : ℕ} where
  module _ {counts : State → Unit {0} → Counts} {counted : State → State} {good : Unit {0} → Kinds → Type 0} where
    pub mark_spelt : (k : Mark) → good tt (t.Mark k ∷ []) → Spelt o (depth_after o (t.Mark k)) (L.one d (T.only (T.is_mark k)) counts counted) good
    mark_spelt k h = taken (λ x u e. (t.Mark k, mark_kind k x u e, refl, h))

    -- behind one more
    pub closing_spelt : good tt (t.Mark m.CloseParen ∷ []) → Spelt (o + 1) o (L.one d (T.only (T.is_mark m.CloseParen)) counts counted) good
    closing_spelt h = taken (λ x u e. (t.Mark m.CloseParen, mark_kind m.CloseParen x u e, omega arith, h))

    pub word_spelt : (w : List ℕ) → good tt (t.Word w ∷ []) → Spelt o o (L.one d (T.only (T.is_word w)) counts counted) good
    word_spelt w h = taken (λ x u e. (t.Word w, word_kind w x u e, refl, h))

    pub no_mark : {p : ℕ} (k : Mark) → ((ks : Kinds) → Clean o (t.Mark k ∷ ks) → ⊥) → Spelt o p (L.one d (T.only (T.is_mark k)) counts counted) good
    no_mark k none = not_taken (t.Mark k) (mark_kind k) none

  -- an operator is chosen by its mark
  pub operator_spelt : {A : Type 0} {pick : Mark → Option A} {good : A → Kinds → Type 0} → ((k : Mark) (a : A) → pick k ≡ Some a → (depth_after o (t.Mark k) ≡ o) × good a (t.Mark k ∷ [])) → Spelt o o (T.operator d (E.of_mark pick)) good
  operator_spelt {pick = pick} f = taken (λ x a e. let (k, has, picks) = chosen_kind pick x a e in let (flat, holds) = f k a picks in (t.Mark k, has, flat, holds))

  pub name_spelt : {counts : State → Name → Counts} {counted : State → State} {good : Name → Kinds → Type 0} → ((x : Name) → good x (t.Word x.text ∷ [])) → Spelt o o (L.one d T.name_of counts counted) good
  name_spelt f = taken (λ x a e. (t.Word a.text, (name_kind x a e).0, refl, f a))

  pub number_spelt : {good : ℤ → Kinds → Type 0} → ((n : ℤ) → good n (t.Number n ∷ [])) → Spelt o o (T.number d) good
  number_spelt f = taken (λ x n e. (t.Number n, number_kind x n e, refl, f n))

  pub string_spelt : {good : List ℕ → Kinds → Type 0} → ((w : List ℕ) → good w (t.Str w ∷ [])) → Spelt o o (T.string d) good
  string_spelt f = taken (λ x w e. (t.Str w, string_kind x w e, refl, f w))

-- ---- types

-- what is a star
abbrev pub Star : ℕ → Language (Unit {0}) → Type 0
Star o star = Spelt o o star (λ _ ks. ks ≡ t.Mark m.Star ∷ [])

module _ {o : ℕ} where
  int_spelt : (d : ℕ) → Spells o S.base (Y.int_base d)
  int_spelt d = behind (word_spelt (codes "int") (given refl))

  struct_spelt : (d : ℕ) → Spells o S.base (Y.struct_base d)
  struct_spelt d = behind (word_spelt (codes "struct") (ends Struct (name_spelt (λ x. refl))))

  -- of a variable
  pub value_base_spelt : (d : ℕ) → Spells o S.base (L.◌or◌ (Y.int_base d) (Y.struct_base d))
  value_base_spelt d = either (int_spelt d) (struct_spelt d)

  pub base_spelt : (d : ℕ) → Spells o S.base (Y.base d)
  base_spelt d = either (int_spelt d) (either (behind (word_spelt (codes "void") (given refl))) (struct_spelt d))

  pub mode_spelt : (d : ℕ) → Spells o S.mode (Y.mode d)
  mode_spelt d = either (given refl) (either (behind (word_spelt (codes "local") (given refl))) (behind (word_spelt (codes "shared") (given refl))))

  module _ {star : Language (Unit {0})} (h : Star o star) where
    more_stars : (k : ℕ) (ks : Kinds) → ks ≡ tokens (S.stars k) → Spelt o o (L.◌>>◌ star (L.give (suc k))) (λ n ls. (ks ++ ls) ≡ tokens (S.stars n))
    more_stars k ks e = ends (λ _. suc k) (weaker (λ u ls f. ap (λ z. ks ++ z) f ∙ ap (λ z. z ++ t.Mark m.Star ∷ []) e ∙ sym (stars-snoc k)) h)

    pub stars_spelt : Spells o S.stars (Y.stars star 0)
    stars_spelt = turned more_stars 0 [] refl

    pub type_spelt : (d : ℕ) → Spells o S.type (Y.type_with d star)
    type_spelt d = behind (spelt S.base (base_spelt d) (λ b. ends (Y.typed b) (spelt S.stars stars_spelt (λ k. refl))))

    pub pointer_spelt : (d : ℕ) → Spells o S.type (Y.pointer_with d star)
    pointer_spelt d = behind (spelt S.base (base_spelt d) (λ b. behind (weaker (λ u ls f.
        ends (Y.typed b) (weaker (λ k ks e. ap (λ z. tokens (S.base b) ++ (z ++ ks)) f ∙ ap (λ z. tokens (S.base b) ++ z) e) (turned more_stars 1 (t.Mark m.Star ∷ []) refl))) h)))

-- ---- brackets and lists

-- what holds of the brackets and the tokens inside
abbrev pub Inside : {A : Type 0} → ℕ → Language A → (A → Kinds → Type 0) → Type 0
Inside o l good = Spelt (o + 1) (o + 1) l (λ a ks. good a (t.Mark m.OpenParen ∷ (ks ++ t.Mark m.CloseParen ∷ [])))

module _ {o d : ℕ} {A : Type 0} {l : Language A} where
  pub brackets_spelt : {good : A → Kinds → Type 0} → Inside o l good → Spelt o o (E.bracketed d l) good
  brackets_spelt h = behind (mark_spelt m.OpenParen (behind (weaker (λ a ks k. behind (closing_spelt (given k))) h)))

  pub header_spelt : {good : A → Kinds → Type 0} → Inside o l good → Spelt o o (Z.header d l) good
  header_spelt h = behind (mark_spelt m.OpenParen (behind (weaker (λ a ks k. behind (closing_spelt (given k))) h)))

pub bracketed_spelt : {o : ℕ} {A : Type 0} {l : Language A} (d : ℕ) (phrase : A → Phrase) → Spells (o + 1) phrase l → Spells o (λ a. S.bracketed (phrase a)) (E.bracketed d l)
bracketed_spelt d phrase h = brackets_spelt (spelt phrase h (λ a. refl))

module _ {o : ℕ} {A : Type 0} (phrase : A → Phrase) {l : List A → Language A} (h : (xs : List A) → Spells o phrase (l xs)) where
  abbrev more_of : List A → Language (List A)
  more_of xs = L.◌>>=◌ (l xs) (λ x. L.give (xs ++ x ∷ []))

  -- one behind the other
  pub sequence_spelt : Spells o (λ xs. S.joined (map phrase xs)) (L.turns more_of [])
  sequence_spelt = turned (λ xs ks e. ends (λ x. xs ++ x ∷ []) (spelt phrase (h xs) (λ x. ap (λ z. z ++ tokens (phrase x)) e ∙ sym (joins-snoc phrase (λ z. z) xs x)))) [] [] refl

  -- others with a comma before each, behind some with these tokens before and after the first comma
  pub commas_spelt : (d : ℕ) (before first : Kinds) (xs : List A) → before ++ first ≡ tokens (S.further (map phrase xs)) →
      Spelt o o (L.turns (λ xs. L.◌>>◌ (T.mark d m.Comma) (more_of xs)) xs) (λ ys ks. before ++ (first ++ ks) ≡ tokens (S.further (map phrase ys)))
  commas_spelt d before first xs start =
      turned (λ ys ks e. behind (mark_spelt m.Comma (ends (λ x. ys ++ x ∷ []) (spelt phrase (h ys) (λ x.
      sym (append_assoc before ks (t.Mark m.Comma ∷ tokens (phrase x))) ∙ ap (λ z. z ++ t.Mark m.Comma ∷ tokens (phrase x)) e ∙ sym (commas-snoc phrase (λ z. z) ys x)))))) xs first start

  -- one, and any number of others
  pub some_spelt : (d : ℕ) → Spells o (λ xs. S.listed (map phrase xs)) (L.◌>>=◌ (l []) (λ x. L.turns (λ xs. L.◌>>◌ (T.mark d m.Comma) (more_of xs)) (x ∷ [])))
  some_spelt d = behind (spelt phrase (h []) (λ x.
      weaker (λ xs ks e. sym (listed_tail (map phrase xs) (tokens (phrase x) ++ ks) (sym e)))
      (commas_spelt d (t.Mark m.Comma ∷ []) (tokens (phrase x)) (x ∷ []) (ap (λ z. t.Mark m.Comma ∷ z) (sym (append-nil (tokens (phrase x))))))))
