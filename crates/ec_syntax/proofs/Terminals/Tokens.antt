-- Readers of single tokens decide their languages.
use Rattle.std.proofs.Common.{◌≡◌, refl, ◌≤◌, ℕ, pos, Bool, true, false, List, [], ◌∷◌, codes, Option, Some, is_some}
use Rattle.ec_base.specs.declared.limits.TheConstants.{MAX_NESTING}
use Rattle.ec_base.specs.declared.token.Mark.{Mark}
use Rattle.ec_base.specs.declared.token.Token.{Token}
use Rattle.ec_base.specs.declared.token.TokenKind.TheVariants as t
use Rattle.ec_syntax.specs.declared.name.Name.{Name}
use Rattle.ec_syntax.specs.Grammar.State.{State, Counts}
use Rattle.ec_syntax.specs.Grammar.Language as L
use Rattle.ec_syntax.specs.Descent.Reader as R
use Rattle.ec_syntax.specs.Grammar.Tokens as T
use Rattle.ec_syntax.specs.Grammar.Tokens.{only, is_word, is_mark, mark_number, name_of, number_of, string_of}
use Rattle.ec_syntax.specs.Descent.Tokens as RT
use Rattle.ec_syntax.specs.Descent.Tokens.{is_name, is_number, is_string}
use Rattle.ec_syntax.proofs.Decision.Procedures.{◌with◌, Lexical, is_else}
use Rattle.ec_syntax.proofs.Decision.Limited.{Told, taken}
use Rattle.ec_syntax.proofs.Tokens.Classes.{token_of, only_some, only_picks}
use Rattle.ec_syntax.proofs.Tokens.Samples.{nowhere, Sample, mark_sample}
use Rattle.ec_syntax.proofs.Decision.OneToken.{Takable, no_nesting}

-- a token that passes a test
pub passing : {X : Type 0} (counts : X → State → Unit {0} → Counts) (counted : State → State) (test : Token → Bool) →
    Sample test →
    ((x : X) (s : State) (a : Unit {0}) → no_nesting (counts x s a) ≡ true) →
    ((x : X) (s : State) (ts : List Token) (a : Unit {0}) → counts x (s with ts) a ≡ counts x s a) →
    ((s : State) (ts : List Token) → counted (s with ts) ≡ counted s with ts) → Takable (only test) counts counted test
passing counts counted test sample a b c = record {
  shallow = a;
  counts_still = b;
  counted_still = c;
  told = only_some test;
  token = sample.token;
  value = tt;
  picked = only_picks test sample.token sample.passes;
  lexical = sample.lexical;
  no_else = sample.no_else;
}

module _ (X : Type 0) (fits able : Type 0) (d : ℕ) (small : fits → d ≤ MAX_NESTING) (goes : Token → Bool) where
  -- a token that passes a test, at which nothing is counted
  pub plain_told : (test : Token → Bool) → Sample test →
      Told {X = X} fits able d (λ x. R.plain (only test)) (λ x. L.plain d (only test)) ⊥ test goes
  plain_told test sample = taken fits able d goes small (passing {X = X} (λ x s a. []) (λ s. s) test sample (λ x s a. refl) (λ x s ts a. refl) (λ s ts. refl))

  -- an operator or bracket of a part
  pub sign_told : (k : Mark) → Told {X = X} fits able d (λ x. RT.sign k) (λ x. T.sign d k) ⊥ (is_mark k) goes
  sign_told k = taken fits able d goes small (passing {X = X} (λ x. T.next_mark) T.with_mark (is_mark k) (mark_sample k) (λ x s a. refl) (λ x s ts a. refl) (λ s ts. refl))

  pub word_told : (w : List ℕ) → Sample (is_word w) →
      Told {X = X} fits able d (λ x. RT.word w) (λ x. T.word d w) ⊥ (is_word w) goes
  word_told w sample = plain_told (is_word w) sample

  pub mark_told : (k : Mark) → Told {X = X} fits able d (λ x. RT.mark k) (λ x. T.mark d k) ⊥ (is_mark k) goes
  mark_told k = plain_told (is_mark k) (mark_sample k)

  -- an operator that gives a value
  pub operator_told : {A : Type 0} (pick : Token → Option A) (test : Token → Bool) (x : Token) (a : A) →
      pick x ≡ Some a → Lexical (x ∷ []) → is_else x ≡ false →
      ((x : Token) → test x ≡ is_some (pick x)) →
      Told {X = X} fits able d (λ x. RT.operator pick) (λ x. T.operator d pick) ⊥ test goes
  operator_told {A} pick test x a picked lexical calm told = taken fits able d goes small (record {
    shallow = λ x s a. refl;
    counts_still = λ x s ts a. refl;
    counted_still = λ s ts. refl;
    told = told;
    token = x;
    value = a;
    picked = picked;
    lexical = lexical;
    no_else = calm;
  })

  pub number_told : Told {X = X} fits able d (λ x. RT.number) (λ x. T.number d) ⊥ is_number goes
  number_told = taken fits able d goes small (record {
    shallow = λ x s a. refl;
    counts_still = λ x s ts a. refl;
    counted_still = λ s ts. refl;
    told = λ x. refl;
    token = token_of (t.Number (pos 0)) nowhere;
    value = pos 0;
    picked = refl;
    lexical = refl;
    no_else = refl;
  })

  -- a name at which these are counted
  pub names_told : (counts : X → State → Name → Counts) (counted : State → State) →
      ((x : X) (s : State) (a : Name) → no_nesting (counts x s a) ≡ true) →
      ((x : X) (s : State) (ts : List Token) (a : Name) → counts x (s with ts) a ≡ counts x s a) →
      ((s : State) (ts : List Token) → counted (s with ts) ≡ counted s with ts) →
      Told {X = X} fits able d (λ x. R.one name_of (counts x) counted)
      (λ x. L.one d name_of (counts x) counted) ⊥ is_name goes
  names_told counts counted a b c = taken fits able d goes small (record {
    shallow = a;
    counts_still = b;
    counted_still = c;
    told = λ x. refl;
    token = token_of (t.Word (codes "a")) nowhere;
    value = record { text = codes "a"; at = nowhere };
    picked = refl;
    lexical = refl;
    no_else = refl;
  })

  pub name_told : Told {X = X} fits able d (λ x. RT.name) (λ x. T.name d) ⊥ is_name goes
  name_told = names_told (λ x. T.name_bytes) (λ s. s) (λ x s a. refl) (λ x s ts a. refl) (λ s ts. refl)

  pub variable_name_told : Told {X = X} fits able d (λ x. RT.variable_name) (λ x. T.variable_name d) ⊥ is_name goes
  variable_name_told = names_told (λ x. T.variable_counts) T.with_variable (λ x s a. refl) (λ x s ts a. refl) (λ s ts. refl)

  pub parameter_name_told : (before : X → ℕ) →
      Told {X = X} fits able d (λ x. RT.parameter_name (before x)) (λ x. T.parameter_name d (before x)) ⊥ is_name goes
  parameter_name_told before = names_told (λ x. T.parameter_counts (before x)) T.with_variable (λ x s a. refl) (λ x s ts a. refl) (λ s ts. refl)

  pub function_name_told : Told {X = X} fits able d (λ x. RT.function_name) (λ x. T.function_name d) ⊥ is_name goes
  function_name_told = names_told (λ x. T.function_counts) T.with_function (λ x s a. refl) (λ x s ts a. refl) (λ s ts. refl)

  pub string_told : Told {X = X} fits able d (λ x. RT.string) (λ x. T.string d) ⊥ is_string goes
  string_told = taken fits able d goes small (record {
    shallow = λ x s a. refl;
    counts_still = λ x s ts a. refl;
    counted_still = λ s ts. refl;
    told = λ x. refl;
    token = token_of (t.Str []) nowhere;
    value = [];
    picked = refl;
    lexical = refl;
    no_else = refl;
  })
