-- Tokens, types and brackets of programs: what is read of them is spellable.
use Rattle.std.proofs.Common.{◌≡◌, refl, subst, ℕ, zero, suc, true, List, [], ◌∷◌, ◌++◌, Option, Some}
use Rattle.ec_base.specs.Lexical.{is_lexical}
use Rattle.ec_base.specs.declared.token.Mark.{Mark}
use Rattle.ec_base.specs.declared.token.Mark.TheVariants as m
use Rattle.ec_base.specs.declared.token.TokenKind.TheVariants as t
use Rattle.ec_syntax.specs.Grammar.Expressions as E
use Rattle.ec_syntax.specs.Grammar.Expressions.{of_mark}
use Rattle.ec_syntax.specs.Grammar.Language as L
use Rattle.ec_syntax.specs.Grammar.Language.{Language}
use Rattle.ec_syntax.specs.Grammar.State.{State, Counts}
use Rattle.ec_syntax.specs.Grammar.Tokens as T
use Rattle.ec_syntax.specs.Grammar.Tokens.{name_of}
use Rattle.ec_syntax.specs.Grammar.Types as Y
use Rattle.ec_syntax.specs.declared.name.Base.TheVariants.{Struct}
use Rattle.ec_syntax.specs.declared.name.Name.{Name}
use Rattle.ec_syntax.proofs.Tokens.Classes.{chosen_kind, number_kind, string_kind}
use Rattle.ec_print.specs.Phrase.{Phrase, token}
use Rattle.ec_print.specs.Sentence as S
use Rattle.ec_print.proofs.Again.Marks.{anything, name_kind}
use Rattle.ec_print.proofs.Spellable.Rules.{Spellable, AllSpellable, one_more, Yields, behind, made, given, either, turned, taken, token_yields}

-- ---- single tokens

abbrev pub Named : Name → Type 0
Named x = Spellable (S.word x.text)

module _ {d : ℕ} where
  -- an operator is chosen by its mark
  pub operator_yields : {A : Type 0} {pick : Mark → Option A} → Yields (T.operator d (of_mark pick)) (λ a. (k : Mark) × (pick k ≡ Some a))
  operator_yields {pick = pick} = taken (λ x a h e. let c = chosen_kind pick x a e in (c.0, c.2))

  pub number_yields : Yields (T.number d) (λ z. Spellable (token (t.Number z)))
  number_yields = taken (λ x z h e. subst (λ k. is_lexical k ≡ true) (number_kind x z e) h)

  pub string_yields : Yields (T.string d) (λ z. Spellable (token (t.Str z)))
  string_yields = taken (λ x z h e. subst (λ k. is_lexical k ≡ true) (string_kind x z e) h)

  pub some_name_yields : {counts : State → Name → Counts} {counted : State → State} → Yields (L.one d name_of counts counted) Named
  some_name_yields = taken (λ x a h e. subst (λ k. is_lexical k ≡ true) (name_kind x a e).0 h)

-- ---- types

int_yields : (d : ℕ) → Yields (Y.int_base d) (λ b. Spellable (S.base b))
int_yields d = behind token_yields (λ _ _. given refl)

struct_yields : (d : ℕ) → Yields (Y.struct_base d) (λ b. Spellable (S.base b))
struct_yields d = behind token_yields (λ _ _. made Struct (λ x h. (refl, h)) some_name_yields)

-- of a variable
pub value_base_yields : (d : ℕ) → Yields (L.◌or◌ (Y.int_base d) (Y.struct_base d)) (λ b. Spellable (S.base b))
value_base_yields d = either (int_yields d) (struct_yields d)

pub base_yields : (d : ℕ) → Yields (Y.base d) (λ b. Spellable (S.base b))
base_yields d = either (int_yields d) (either (behind token_yields (λ _ _. given refl)) (struct_yields d))

pub mode_yields : (d : ℕ) → Yields (Y.mode d) (λ how. Spellable (S.mode how))
mode_yields d = either (given tt) (either (behind token_yields (λ _ _. given refl)) (behind token_yields (λ _ _. given refl)))

pub stars_spellable : (k : ℕ) → Spellable (S.stars k)
stars_spellable zero = tt
stars_spellable (suc k) = (refl, stars_spellable k)

module _ {star : Language (Unit {0})} (h : Yields star anything) where
  pub stars_yield : (k : ℕ) → Yields (Y.stars star k) anything
  stars_yield k = turned (λ _ _. behind h (λ _ _. given tt)) k tt

  pub type_yields : (d : ℕ) → Yields (Y.type_with d star) (λ ty. Spellable (S.type ty))
  type_yields d = behind (base_yields d) (λ b k. made (Y.typed b) (λ n _. (k, stars_spellable n)) (stars_yield 0))

  pub pointer_yields : (d : ℕ) → Yields (Y.pointer_with d star) (λ ty. Spellable (S.type ty))
  pointer_yields d = behind (base_yields d) (λ b k. behind h (λ _ _. made (Y.typed b) (λ n _. (k, stars_spellable n)) (stars_yield 1)))

-- ---- brackets and lists

pub bracketed_yields : {A : Type 0} {l : Language A} {good : A → Type 0} (d : ℕ) → Yields l good → Yields (E.bracketed d l) good
bracketed_yields d h = behind token_yields (λ _ _. behind h (λ a k. behind token_yields (λ _ _. given k)))

module _ {A : Type 0} (phrase : A → Phrase) {l : List A → Language A} (h : (xs : List A) → Yields (l xs) (λ a. Spellable (phrase a))) where
  abbrev pub more_of : List A → Language (List A)
  more_of xs = L.◌>>=◌ (l xs) (λ x. L.give (xs ++ x ∷ []))

  -- one behind the others
  pub more_yields : (xs : List A) → AllSpellable phrase xs → Yields (more_of xs) (AllSpellable phrase)
  more_yields xs all = made (λ x. xs ++ x ∷ []) (λ x k. one_more phrase xs x all k) (h xs)

  -- with a comma before it
  pub comma_yields : (d : ℕ) (xs : List A) → AllSpellable phrase xs → Yields (L.◌>>◌ (T.mark d m.Comma) (more_of xs)) (AllSpellable phrase)
  comma_yields d xs all = behind token_yields (λ _ _. more_yields xs all)

  pub sequence_yields : Yields (L.turns more_of []) (AllSpellable phrase)
  sequence_yields = turned more_yields [] tt

  -- any number of others behind the first ones
  pub commas_yield : (d : ℕ) (xs : List A) → AllSpellable phrase xs → Yields (L.turns (λ xs. L.◌>>◌ (T.mark d m.Comma) (more_of xs)) xs) (AllSpellable phrase)
  commas_yield d xs all = turned (comma_yields d) xs all
