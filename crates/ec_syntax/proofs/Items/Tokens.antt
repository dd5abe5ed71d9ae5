-- Tokens and types of structs and functions, which stand at depths within the limit.
use Rattle.std.proofs.Common.{◌≤◌, ℕ, Bool, List, codes}
use Rattle.ec_base.specs.declared.limits.TheConstants.{MAX_NESTING}
use Rattle.ec_base.specs.declared.token.Mark.{Mark}
use Rattle.ec_base.specs.declared.token.Mark.TheVariants as m
use Rattle.ec_base.specs.declared.token.Token.{Token}
use Rattle.ec_syntax.specs.Grammar.Language.{◌or◌}
use Rattle.ec_syntax.specs.Grammar.Tokens as L
use Rattle.ec_syntax.specs.Grammar.Tokens.{is_word, is_mark}
use Rattle.ec_syntax.specs.Grammar.Types as LT
use Rattle.ec_syntax.specs.Descent.Tokens as R
use Rattle.ec_syntax.specs.Descent.Tokens.{is_name, is_number, begins_base}
use Rattle.ec_syntax.proofs.Decision.Procedures.{Decides}
use Rattle.ec_syntax.proofs.Lookahead.FirstSets.{one_of}
use Rattle.ec_syntax.proofs.Terminals.Tokens.{word_told, mark_told, number_told, name_told, function_name_told, parameter_name_told}
use Rattle.ec_syntax.proofs.Terminals.Types.{base_told, variable_base_told, stars_told, mode_told, goes_mode}
use Rattle.ec_syntax.proofs.Tokens.Samples.{Sample}

-- ---- words that tell which way to go

abbrev pub is_int : Token → Bool
is_int = is_word (codes "int")

abbrev pub void_word : Token → Bool
void_word = is_word (codes "void")

abbrev pub is_struct : Token → Bool
is_struct = is_word (codes "struct")

-- ---- tokens and types

module _ {X able : Type 0} {d : ℕ} {goes : Token → Bool} (fits : d ≤ MAX_NESTING) where
  pub word_decides : (w : List ℕ) → Sample (is_word w) →
      Decides {X = X} able d (λ _. R.word w) (λ _. L.word d w) ⊥ (is_word w) goes
  word_decides w sample = (word_told X (d ≤ MAX_NESTING) able d (λ e. e) goes w sample).decides fits

  pub mark_decides : (k : Mark) → Decides {X = X} able d (λ _. R.mark k) (λ _. L.mark d k) ⊥ (is_mark k) goes
  mark_decides k = (mark_told X (d ≤ MAX_NESTING) able d (λ e. e) goes k).decides fits

  pub number_decides : Decides {X = X} able d (λ _. R.number) (λ _. L.number d) ⊥ is_number goes
  number_decides = (number_told X (d ≤ MAX_NESTING) able d (λ e. e) goes).decides fits

  pub name_decides : Decides {X = X} able d (λ _. R.name) (λ _. L.name d) ⊥ is_name goes
  name_decides = (name_told X (d ≤ MAX_NESTING) able d (λ e. e) goes).decides fits

  pub function_name_decides : Decides {X = X} able d (λ _. R.function_name) (λ _. L.function_name d) ⊥ is_name goes
  function_name_decides = (function_name_told X (d ≤ MAX_NESTING) able d (λ e. e) goes).decides fits

  pub parameter_name_decides : (before : X → ℕ) →
      Decides {X = X} able d (λ x. R.parameter_name (before x)) (λ x. L.parameter_name d (before x)) ⊥ is_name goes
  parameter_name_decides before = (parameter_name_told X (d ≤ MAX_NESTING) able d (λ e. e) goes before).decides fits

  pub base_decides : Decides {X = X} able d (λ _. R.base) (λ _. LT.base d) ⊥ begins_base goes
  base_decides = (base_told X (d ≤ MAX_NESTING) able d (λ e. e) goes).decides fits

  pub variable_base_decides : Decides {X = X} able d (λ _. R.variable_base)
      (λ _. LT.int_base d or LT.struct_base d) ⊥ (one_of (is_word (codes "int")) (is_word (codes "struct"))) goes
  variable_base_decides = (variable_base_told X (d ≤ MAX_NESTING) able d (λ e. e) goes).decides fits

module _ {X able : Type 0} {d : ℕ} (fits : d ≤ MAX_NESTING) where
  pub stars_decides : (from : X → ℕ) → Decides {X = X} able d (λ x. R.stars (R.mark m.Star) (from x))
      (λ x. LT.stars (L.mark d m.Star) (from x)) (Unit {0}) (is_mark m.Star) (is_mark m.Star)
  stars_decides from = (stars_told (d ≤ MAX_NESTING) able d (λ e. e) (R.mark m.Star) (L.mark d m.Star) (λ Y goes. mark_told Y (d ≤ MAX_NESTING) able d (λ e. e) goes m.Star) X from).decides fits

  pub mode_decides : Decides {X = X} able d (λ _. R.mode) (λ _. LT.mode d) (Unit {0}) goes_mode goes_mode
  mode_decides = (mode_told X (d ≤ MAX_NESTING) able d (λ e. e)).decides fits
