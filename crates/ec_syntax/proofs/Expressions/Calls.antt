-- Calls are decided, and variables with them.
use Rattle.std.proofs.Common.{◌≡◌, refl, inl, inr, ⊎_elim, ◌≤◌, ◌+◌, ℕ, suc, Bool, false, ◌||◌, List, [], ◌∷◌, ◌++◌, codes}
use Rattle.ec_base.specs.declared.limits.TheConstants.{MAX_NESTING}
use Rattle.ec_base.specs.declared.token.Mark.TheVariants as m
use Rattle.ec_base.specs.declared.token.Token.{Token}
use Rattle.ec_syntax.specs.declared.expression.Expr.{Expr}
use Rattle.ec_syntax.specs.declared.expression.ExprKind.TheVariants.{Here, OwnerOf, Home, Node, Anywhere}
use Rattle.ec_syntax.specs.declared.expression.Placement.{Placement}
use Rattle.ec_syntax.specs.Grammar.State.{State, Asked}
use Rattle.ec_syntax.specs.Grammar.Language as L
use Rattle.ec_syntax.specs.Grammar.Language.{Language, begin, span}
use Rattle.ec_syntax.specs.Descent.Reader as R
use Rattle.ec_syntax.specs.Descent.Reader.{Reader}
use Rattle.ec_syntax.specs.Grammar.Tokens as T
use Rattle.ec_syntax.specs.Grammar.Tokens.{is_mark, is_word}
use Rattle.ec_syntax.specs.Grammar.Expressions as LE
use Rattle.ec_syntax.specs.Grammar.Expressions.{expression}
use Rattle.ec_syntax.specs.Descent.Tokens as RT
use Rattle.ec_syntax.specs.Descent.Tokens.{begins_expr, is_name}
use Rattle.ec_syntax.specs.Descent.Expressions as RE
use Rattle.ec_syntax.specs.Descent.Expressions.{call_at, begins_arguments}
use Rattle.ec_syntax.proofs.Lookahead.FirstSets.{drop_none, add_none, itself, split, none, none_apart, none_within}
use Rattle.ec_syntax.proofs.Decision.Limited.{Told, followed, made, either, turning, given, everywhere, further, reindexed, renamed, same_language}
use Rattle.ec_syntax.proofs.Terminals.Tokens.{sign_told, mark_told, word_told}
use Rattle.ec_syntax.proofs.Terminals.Types.{keyword_told}
use Rattle.ec_syntax.proofs.Nesting.Brackets.{bracketed_told}
use Rattle.ec_syntax.proofs.Lookahead.FollowSets.{goes_expr}
use Rattle.ec_syntax.proofs.Tokens.Classes.{from_mark, from_word}
use Rattle.std.proofs.lemmas.Bool.{or_left, or_right}
use Rattle.ec_syntax.proofs.Tokens.Samples.{Sample, owner_sample, home_sample, node_sample, anywhere_sample}

-- ---- tests

-- what goes on behind an argument, and behind none
abbrev pub goes_more : Token → Bool
goes_more x = goes_expr x || is_mark m.Comma x

abbrev pub goes_arguments : Token → Bool
goes_arguments x = goes_more x || begins_expr x

-- ---- arguments

module _ (fits able : Type 0) (d : ℕ) (small : fits → d ≤ MAX_NESTING) (p : Reader Expr) (l : Language Expr)
    (operand : Told {X = Unit {0}} fits able d (λ x. p) (λ x. l) ⊥ begins_expr goes_expr) where
  argument_told : (Y : Type 0) → Told {X = Y × List Expr} fits able d
      (λ y. R.◌>>◌ (RT.mark m.Comma) (R.◌>>=◌ p (λ e. R.give (y.1 ++ e ∷ []))))
      (λ y. L.◌>>◌ (T.mark d m.Comma) (L.◌>>=◌ l (λ e. L.give (y.1 ++ e ∷ [])))) ⊥ (is_mark m.Comma) goes_expr
  argument_told Y = followed (λ y u. R.◌>>=◌ p (λ e. R.give (y.1 ++ e ∷ []))) (mark_told (Y × List Expr) fits able d small none m.Comma)
      (made (λ (y : (Y × List Expr) × Unit {0}) e. y.0.1 ++ e ∷ []) (everywhere _ operand)) (λ x e. refl) (λ e. absurd e) (λ e. e)

  further_told : (Y : Type 0) → Told {X = Y × List Expr} fits able d (λ y. RE.further p y.1)
      (λ y. L.turns (λ es. L.◌>>◌ (T.mark d m.Comma) (L.◌>>=◌ l (λ e. L.give (es ++ e ∷ [])))) y.1)
      (Unit {0}) (is_mark m.Comma) goes_more
  further_told Y = turning (λ (y : Y) es. R.◌>>◌ (RT.mark m.Comma) (R.◌>>=◌ p (λ e. R.give (es ++ e ∷ [])))) (λ y es. L.◌>>◌ (T.mark d m.Comma) (L.◌>>=◌ l (λ e. L.give (es ++ e ∷ []))))
      (argument_told Y) (from_mark m.Comma goes_expr false (λ at. refl)) (λ x e. or_left (goes_expr x) (is_mark m.Comma x) e) (λ x e. or_right (goes_expr x) (is_mark m.Comma x) e)

  -- one argument at least
  some_told : Told {X = Unit {0}} fits able d (λ x. R.◌>>=◌ p (λ e. RE.further p (e ∷ [])))
      (λ x. L.◌>>=◌ l (λ e. L.turns (λ es. L.◌>>◌ (T.mark d m.Comma) (L.◌>>=◌ l (λ e. L.give (es ++ e ∷ [])))) (e ∷ []))) ⊥ begins_expr goes_more
  some_told = followed (λ x e. RE.further p (e ∷ [])) operand (reindexed (λ (xe : Unit {0} × Expr). (xe.0, xe.1 ∷ [])) (further_told (Unit {0})))
      (from_mark m.Comma goes_expr false (λ at. refl)) (λ e x g. or_left (goes_expr x) (is_mark m.Comma x) g) (λ e. e)

  pub arguments_told : Told {X = Unit {0}} fits able d (λ x. RE.arguments p) (λ x. LE.arguments d l)
      (Unit {0}) begins_expr goes_arguments
  arguments_told = same_language (λ x asked s a m. ⊎_elim inr inl) (λ x asked s a m. ⊎_elim inr inl) (renamed (drop_none begins_expr) (add_none begins_expr)
      (either begins_expr (further (λ x e. or_left (goes_more x) (begins_expr x) e) some_told) (given (λ x. []) fits able d goes_arguments) (itself begins_expr) (none_apart begins_expr)
      (λ u x e. or_right (goes_more x) (begins_expr x) e)))

-- ---- places

-- the words behind `@`
abbrev pub begins_place : Token → Bool
begins_place x = is_word (codes "OWNER_OF") x || (is_word (codes "HOME") x || (is_word (codes "NODE") x || is_word (codes "ANYWHERE") x))

-- a place as it is read
abbrev pub read_place : ℕ → Language Expr → Language Placement
read_place d expr = L.◌or◌ (L.◌>>◌ (T.sign d m.At) (L.◌or◌ (L.◌>>◌ (T.word d (codes "OWNER_OF")) (L.◌>>=◌ (LE.bracketed d expr) (λ e. L.give (OwnerOf e))))
    (L.◌or◌ (L.◌>>◌ (T.word d (codes "HOME")) (L.give Home))
    (L.◌or◌ (L.◌>>◌ (T.word d (codes "NODE")) (L.◌>>=◌ (LE.bracketed d expr) (λ e. L.give (Node e))))
    (L.◌>>◌ (T.word d (codes "ANYWHERE")) (L.give Anywhere)))))) (L.give Here)

place_to : (d : ℕ) (expr : Language Expr) (asked : Asked) (s : State) (a : Placement) (m : State) →
    read_place d expr asked s a m → LE.place d expr asked s a m
place_to d expr asked s a m (inl h) = inr h
place_to d expr asked s a m (inr h) = inl h

place_from : (d : ℕ) (expr : Language Expr) (asked : Asked) (s : State) (a : Placement) (m : State) →
    LE.place d expr asked s a m → read_place d expr asked s a m
place_from d expr asked s a m (inl h) = inr h
place_from d expr asked s a m (inr h) = inl h

-- what stands inside the brackets, one deeper
module _ (fits able : Type 0) (room d : ℕ) (small : fits → d ≤ MAX_NESTING)
    (sum : fits → suc d + room ≡ suc MAX_NESTING) (p : Reader Expr) (l : Language Expr)
    (inner : Told {X = Unit {0}} (suc d ≤ MAX_NESTING) able (suc d) (λ x. p) (λ x. l) ⊥ begins_expr goes_expr) where
  -- a word, and an expression in parentheses
  pub worded_told : {A : Type 0} (Y : Type 0) (w : List ℕ) → Sample (is_word w) → (make : Expr → A) →
      Told {X = Y} fits able d (λ y. R.◌>>◌ (RT.word w)
      (R.◌>>=◌ (RE.bracketed room begins_expr p) (λ e. R.give (make e))))
      (λ y. L.◌>>◌ (T.word d w) (L.◌>>=◌ (LE.bracketed d l) (λ e. L.give (make e)))) ⊥ (is_word w) none
  worded_told Y w sample make = followed (λ y u. R.◌>>=◌ (RE.bracketed room begins_expr p) (λ e. R.give (make e))) (word_told Y fits able d small none w sample)
      (made (λ y e. make e) (bracketed_told room d small sum (from_mark m.CloseParen goes_expr false (λ at. refl)) (everywhere (Y × Unit {0}) inner)))
      (λ x e. refl) (λ e. absurd e) (λ e. e)

  last_places_told : (Y : Type 0) → Told {X = Y} fits able d
      (λ y. R.when (is_word (codes "NODE")) (R.◌>>◌ (RT.word (codes "NODE")) (R.◌>>=◌ (RE.bracketed room begins_expr p) (λ e. R.give (Node e)))) (R.◌>>◌ (RT.word (codes "ANYWHERE")) (R.give Anywhere)))
      (λ y. L.◌or◌ (L.◌>>◌ (T.word d (codes "NODE")) (L.◌>>=◌ (LE.bracketed d l) (λ e. L.give (Node e)))) (L.◌>>◌ (T.word d (codes "ANYWHERE")) (L.give Anywhere)))
      ⊥ (λ t. is_word (codes "NODE") t || is_word (codes "ANYWHERE") t) none
  last_places_told Y = either (is_word (codes "NODE")) (worded_told Y (codes "NODE") node_sample Node) (keyword_told Y fits able d small none (codes "ANYWHERE") anywhere_sample Anywhere)
      (itself _) (from_word (codes "ANYWHERE") (is_word (codes "NODE")) false (λ at. refl)) (λ e. absurd e)

  later_places_told : (Y : Type 0) → Told {X = Y} fits able d
      (λ y. R.when (is_word (codes "HOME")) (R.◌>>◌ (RT.word (codes "HOME")) (R.give Home)) (R.when (is_word (codes "NODE")) (R.◌>>◌ (RT.word (codes "NODE")) (R.◌>>=◌ (RE.bracketed room begins_expr p) (λ e. R.give (Node e)))) (R.◌>>◌ (RT.word (codes "ANYWHERE")) (R.give Anywhere))))
      (λ y. L.◌or◌ (L.◌>>◌ (T.word d (codes "HOME")) (L.give Home)) (L.◌or◌ (L.◌>>◌ (T.word d (codes "NODE")) (L.◌>>=◌ (LE.bracketed d l) (λ e. L.give (Node e)))) (L.◌>>◌ (T.word d (codes "ANYWHERE")) (L.give Anywhere))))
      ⊥ (λ t. is_word (codes "HOME") t || (is_word (codes "NODE") t || is_word (codes "ANYWHERE") t)) none
  later_places_told Y = either (is_word (codes "HOME")) (keyword_told Y fits able d small none (codes "HOME") home_sample Home) (last_places_told Y)
      (itself _) (λ x e. split _ _ (from_word (codes "NODE") (is_word (codes "HOME")) false (λ at. refl) x) (from_word (codes "ANYWHERE") (is_word (codes "HOME")) false (λ at. refl) x) e) (λ e. absurd e)

  placed_at_told : (Y : Type 0) → Told {X = Y} fits able d (λ y. RE.placed_at room p)
      (λ y. L.◌or◌ (L.◌>>◌ (T.word d (codes "OWNER_OF")) (L.◌>>=◌ (LE.bracketed d l) (λ e. L.give (OwnerOf e)))) (L.◌or◌ (L.◌>>◌ (T.word d (codes "HOME")) (L.give Home))
      (L.◌or◌ (L.◌>>◌ (T.word d (codes "NODE")) (L.◌>>=◌ (LE.bracketed d l) (λ e. L.give (Node e)))) (L.◌>>◌ (T.word d (codes "ANYWHERE")) (L.give Anywhere))))) ⊥ begins_place none
  placed_at_told Y = either (is_word (codes "OWNER_OF")) (worded_told Y (codes "OWNER_OF") owner_sample OwnerOf) (later_places_told Y)
      (itself _) (λ x e. split _ _ (from_word (codes "HOME") (is_word (codes "OWNER_OF")) false (λ at. refl) x)
      (λ g. split _ _ (from_word (codes "NODE") (is_word (codes "OWNER_OF")) false (λ at. refl) x) (from_word (codes "ANYWHERE") (is_word (codes "OWNER_OF")) false (λ at. refl) x) g) e) (λ e. absurd e)

  pub place_told : (Y : Type 0) → Told {X = Y} fits able d (λ y. RE.place room p) (λ y. LE.place d l) (Unit {0})
      (is_mark m.At) (is_mark m.At)
  place_told Y = same_language (λ y. place_to d l) (λ y. place_from d l) (renamed (drop_none (is_mark m.At)) (add_none (is_mark m.At))
      (either (is_mark m.At) (followed (λ y u. RE.placed_at room p) (sign_told Y fits able d small none m.At) (further (none_within (is_mark m.At)) (placed_at_told (Y × Unit {0}))) (λ x e. refl) (λ e. absurd e) (λ e. e))
      (given (λ y. Here) fits able d (is_mark m.At)) (itself _) (none_apart _) (λ u. itself _)))
