-- Operands that begin with no operator are decided.
use Rattle.std.proofs.Common.{◌≡◌, refl, ◌∙◌, ap, ◌⊎◌, inl, inr, ⊎_elim, ◌≤◌, ◌+◌, ℕ, suc, Bool, true, false, ◌||◌, codes, Some, None}
use Rattle.ec_base.specs.declared.limits.TheConstants.{MAX_NESTING}
use Rattle.ec_base.specs.declared.token.Mark.TheVariants as m
use Rattle.ec_base.specs.declared.token.Span.{Span}
use Rattle.ec_base.specs.declared.token.Token.{Token}
use Rattle.ec_base.specs.declared.token.TokenKind.TheVariants as t
use Rattle.ec_syntax.specs.declared.expression.Expr.{Expr}
use Rattle.ec_syntax.specs.declared.expression.ExprKind.{ExprKind}
use Rattle.ec_syntax.specs.declared.expression.ExprKind.TheVariants.{Number, Null, Paren, ValueOf}
use Rattle.ec_syntax.specs.Grammar.State.{State, Asked}
use Rattle.ec_syntax.specs.Grammar.Language as L
use Rattle.ec_syntax.specs.Grammar.Language.{Language}
use Rattle.ec_syntax.specs.Descent.Reader as R
use Rattle.ec_syntax.specs.Descent.Reader.{Reader}
use Rattle.ec_syntax.specs.Grammar.Tokens as T
use Rattle.ec_syntax.specs.Grammar.Tokens.{is_mark, is_word}
use Rattle.ec_syntax.specs.Grammar.Types as types
use Rattle.ec_syntax.specs.Grammar.Expressions as LE
use Rattle.ec_syntax.specs.Grammar.Expressions.{expression}
use Rattle.ec_syntax.specs.Descent.Tokens as RT
use Rattle.ec_syntax.specs.Descent.Tokens.{begins_expr, is_number, is_name}
use Rattle.ec_syntax.specs.Descent.Expressions as RE
use Rattle.ec_syntax.specs.Descent.Expressions.{is_selector}
use Rattle.ec_syntax.proofs.Decision.Procedures.{Apart}
use Rattle.ec_syntax.proofs.Lookahead.FirstTokens.{Into}
use Rattle.ec_syntax.proofs.Lookahead.FirstSets.{itself, split, none_within}
use Rattle.ec_syntax.proofs.Decision.Limited.{Told, followed, made, either, placed, further, same_language}
use Rattle.ec_syntax.proofs.Terminals.Tokens.{number_told}
use Rattle.ec_syntax.proofs.Terminals.Types.{keyword_told}
use Rattle.ec_syntax.proofs.Lookahead.FollowSets.{goes_operand, goes_expr}
use Rattle.ec_syntax.proofs.Expressions.Calls.{worded_told}
use Rattle.ec_syntax.proofs.Expressions.Names.{read_named, named_told, goes_named, variable_named, call_named, named_either}
use Rattle.ec_syntax.proofs.Expressions.Malloc.{read_malloc, malloc_told}
use Rattle.ec_syntax.proofs.Expressions.MallocGrammar.{cast_malloc, bare_to, cast_to, malloc_either}
use Rattle.ec_syntax.proofs.Expressions.Selections.{inner_told, parenthesised_told, read_parenthesised, selections_told, selector_not}
use Rattle.ec_syntax.proofs.Tokens.Classes.{from_mark, from_word, from_name, token_of}
use Rattle.ec_syntax.proofs.Tokens.Samples.{null_sample, valueof_sample}

-- ---- the parts

abbrev pub one_number : ℕ → Language Expr
one_number d = L.placed expression (L.◌>>=◌ (T.number d) (λ n. L.give (Number n)))

abbrev pub one_null : ℕ → Language Expr
one_null d = L.placed expression (L.◌>>◌ (T.word d (codes "NULL")) (L.give Null))

abbrev pub one_value : ℕ → Language Expr → Language Expr
one_value d l = L.placed expression (L.◌>>◌ (T.word d (codes "valueof")) (L.◌>>=◌ (LE.bracketed d (LE.expr_of (suc d) l)) (λ e. L.give (ValueOf e))))

abbrev pub one_paren : ℕ → Language Expr → Language Expr
one_paren d l = L.placed expression (read_parenthesised d l)

abbrev pub one_malloc : ℕ → Language Expr → Language Expr
one_malloc d l = L.placed expression (read_malloc d l None)

-- what begins each, as it is read
abbrev pub begins_last : Token → Bool
begins_last t = is_word (codes "valueof") t || is_word (codes "malloc") t

abbrev pub begins_paren : Token → Bool
begins_paren t = is_mark m.OpenParen t || begins_last t

abbrev pub begins_null : Token → Bool
begins_null t = is_word (codes "NULL") t || begins_paren t

abbrev pub begins_named : Token → Bool
begins_named t = is_name t || begins_null t

abbrev pub begins_primary : Token → Bool
begins_primary t = is_number t || begins_named t

-- what a test says of each of these tokens
from_last : (test : Token → Bool) (b : Bool) → ((at : Span) → test (token_of (t.Word (codes "valueof")) at) ≡ b) →
    ((at : Span) → test (token_of (t.Word (codes "malloc")) at) ≡ b) →
    (x : Token) → begins_last x ≡ true → test x ≡ b
from_last test b v w x e = split _ _ (from_word (codes "valueof") test b v x) (from_word (codes "malloc") test b w x) e

from_paren : (test : Token → Bool) (b : Bool) → ((at : Span) → test (token_of (t.Mark m.OpenParen) at) ≡ b) →
    ((at : Span) → test (token_of (t.Word (codes "valueof")) at) ≡ b) →
    ((at : Span) → test (token_of (t.Word (codes "malloc")) at) ≡ b) → (x : Token) → begins_paren x ≡ true → test x ≡ b
from_paren test b o v w x e = split _ _ (from_mark m.OpenParen test b o x) (from_last test b v w x) e

pub from_null : (test : Token → Bool) (b : Bool) → ((at : Span) → test (token_of (t.Word (codes "NULL")) at) ≡ b) →
    ((at : Span) → test (token_of (t.Mark m.OpenParen) at) ≡ b) →
    ((at : Span) → test (token_of (t.Word (codes "valueof")) at) ≡ b) →
    ((at : Span) → test (token_of (t.Word (codes "malloc")) at) ≡ b) → (x : Token) → begins_null x ≡ true → test x ≡ b
from_null test b n o v w x e = split _ _ (from_word (codes "NULL") test b n x) (from_paren test b o v w x) e

-- ---- as it is read

abbrev pub read_primary : ℕ → Language Expr → Language Expr
read_primary d l = L.◌or◌ (one_number d) (L.◌or◌ (read_named d (LE.expr_of (suc d) l)) (L.◌or◌ (one_null d) (L.◌or◌ (one_paren d l) (L.◌or◌ (one_value d l) (one_malloc d l)))))

module _ (fits able : Type 0) (room d : ℕ) (small : fits → d ≤ MAX_NESTING)
    (sum : fits → suc d + room ≡ suc MAX_NESTING) (down : suc d ≤ MAX_NESTING → fits)
    (p : Reader Expr) (l : Language Expr) (operand : Told {X = Unit {0}} (suc d ≤ MAX_NESTING) able (suc d) (λ x. p) (λ x. l) ⊥ begins_expr goes_operand) where
  inner : Told {X = Unit {0}} (suc d ≤ MAX_NESTING) able (suc d) (λ x. RE.expr_of p)
      (λ x. LE.expr_of (suc d) l) ⊥ begins_expr goes_expr
  inner = inner_told fits able room d small sum down p l operand

  one_value_told : Told {X = Unit {0}} fits able d
      (λ x. R.placed expression (R.◌>>◌ (RT.word (codes "valueof"))
      (R.◌>>=◌ (RE.bracketed room begins_expr (RE.expr_of p)) (λ e. R.give (ValueOf e)))))
      (λ x. one_value d l) ⊥ (is_word (codes "valueof")) goes_named
  one_value_told = further (none_within goes_named) (placed (λ x. expression) (worded_told fits able room d small sum (RE.expr_of p) (LE.expr_of (suc d) l) inner (Unit {0}) (codes "valueof") valueof_sample ValueOf))

  one_malloc_told : Told {X = Unit {0}} fits able d (λ x. R.placed expression (RE.malloc room p None))
      (λ x. one_malloc d l) ⊥ (is_word (codes "malloc")) goes_named
  one_malloc_told = further (none_within goes_named) (placed (λ x. expression) (malloc_told fits able room d small sum down p l operand (Unit {0}) (λ x. None)))

  one_paren_told : Told {X = Unit {0}} fits able d (λ x. R.placed expression (RE.parenthesised room p))
      (λ x. one_paren d l) ⊥ (is_mark m.OpenParen) goes_named
  one_paren_told = further (none_within goes_named) (placed (λ x. expression) (parenthesised_told fits able room d small sum down p l operand))

  one_null_told : Told {X = Unit {0}} fits able d
      (λ x. R.placed expression (R.◌>>◌ (RT.word (codes "NULL")) (R.give Null)))
      (λ x. one_null d) ⊥ (is_word (codes "NULL")) goes_named
  one_null_told = placed (λ x. expression) (keyword_told (Unit {0}) fits able d small goes_named (codes "NULL") null_sample Null)

  one_number_told : Told {X = Unit {0}} fits able d
      (λ x. R.placed expression (R.◌>>=◌ RT.number (λ n. R.give (Number n)))) (λ x. one_number d) ⊥ is_number goes_named
  one_number_told = placed (λ x. expression) (made (λ x n. Number n) (number_told (Unit {0}) fits able d small goes_named))

  last_told : Told {X = Unit {0}} fits able d
      (λ x. R.when (is_word (codes "valueof")) (R.placed expression (R.◌>>◌ (RT.word (codes "valueof")) (R.◌>>=◌ (RE.bracketed room begins_expr (RE.expr_of p)) (λ e. R.give (ValueOf e))))) (R.placed expression (RE.malloc room p None)))
      (λ x. L.◌or◌ (one_value d l) (one_malloc d l)) ⊥ begins_last goes_named
  last_told = either (is_word (codes "valueof")) one_value_told one_malloc_told (itself _) (from_word (codes "malloc") (is_word (codes "valueof")) false (λ at. refl)) (λ e. absurd e)

  paren_told : Told {X = Unit {0}} fits able d
      (λ x. R.when (is_mark m.OpenParen) (R.placed expression (RE.parenthesised room p)) (R.when (is_word (codes "valueof")) (R.placed expression (R.◌>>◌ (RT.word (codes "valueof")) (R.◌>>=◌ (RE.bracketed room begins_expr (RE.expr_of p)) (λ e. R.give (ValueOf e))))) (R.placed expression (RE.malloc room p None))))
      (λ x. L.◌or◌ (one_paren d l) (L.◌or◌ (one_value d l) (one_malloc d l))) ⊥ begins_paren goes_named
  paren_told = either (is_mark m.OpenParen) one_paren_told last_told (itself _) (from_last (is_mark m.OpenParen) false (λ at. refl) (λ at. refl)) (λ e. absurd e)

  null_told : Told {X = Unit {0}} fits able d
      (λ x. R.when (is_word (codes "NULL")) (R.placed expression (R.◌>>◌ (RT.word (codes "NULL")) (R.give Null))) (R.when (is_mark m.OpenParen) (R.placed expression (RE.parenthesised room p)) (R.when (is_word (codes "valueof")) (R.placed expression (R.◌>>◌ (RT.word (codes "valueof")) (R.◌>>=◌ (RE.bracketed room begins_expr (RE.expr_of p)) (λ e. R.give (ValueOf e))))) (R.placed expression (RE.malloc room p None)))))
      (λ x. L.◌or◌ (one_null d) (L.◌or◌ (one_paren d l) (L.◌or◌ (one_value d l) (one_malloc d l)))) ⊥ begins_null goes_named
  null_told = either (is_word (codes "NULL")) one_null_told paren_told (itself _) (from_paren (is_word (codes "NULL")) false (λ at. refl) (λ at. refl) (λ at. refl)) (λ e. absurd e)

  name_apart : Apart begins_null is_name
  name_apart = from_null is_name false (λ at. refl) (λ at. refl) (λ at. refl) (λ at. refl)

  number_apart : Apart begins_named is_number
  number_apart x e = split _ _ (from_name is_number false (λ w at free. refl) x) (from_null is_number false (λ at. refl) (λ at. refl) (λ at. refl) (λ at. refl) x) e

  read_primary_told : Told {X = Unit {0}} fits able d (λ x. RE.primary room p)
      (λ x. read_primary d l) ⊥ begins_primary goes_named
  read_primary_told = either is_number one_number_told
      (either is_name (named_told fits able room d small sum (RE.expr_of p) (LE.expr_of (suc d) l) inner) null_told (itself _) name_apart (λ e. absurd e))
      (itself _) number_apart (λ e. absurd e)

-- ---- the same words as in the grammar

pub placed_into : {A B : Type 0} (make : A → Span → B) {l other : Language A} → Into l other →
    Into (L.placed make l) (L.placed make other)
placed_into make into asked s b n h = let g = h.3 in (h.0, h.1, h.2, (g.0, g.1, into asked h.1 g.0 g.1 g.2, g.3))

-- an expression in parentheses
abbrev pub one_inner : ℕ → Language Expr → Language Expr
one_inner d l = L.placed expression (L.◌>>=◌ (LE.bracketed d (LE.expr_of (suc d) l)) (λ e. L.give (Paren e)))

paren_either : (d : ℕ) (l : Language Expr) (asked : Asked) (s : State) (a : ExprKind) (n : State) →
    read_parenthesised d l asked s a n →
    cast_malloc d l asked s a n ⊎ L.◌>>=◌ (LE.bracketed d (LE.expr_of (suc d) l)) (λ e. L.give (Paren e)) asked s a n
paren_either d l asked s a n h = by h.3
  where
    by : L.◌or◌ (L.◌>>=◌ (types.pointer_with (suc d) (T.sign (suc d) m.Star))
        (λ t. L.◌>>◌ (T.sign (suc d) m.CloseParen) (read_malloc d l (Some t))))
        (L.◌>>=◌ (LE.expr_of (suc d) l) (λ e. L.◌>>◌ (T.sign (suc d) m.CloseParen) (L.give (Paren e)))) asked h.1 a n →
        cast_malloc d l asked s a n ⊎ L.◌>>=◌ (LE.bracketed d (LE.expr_of (suc d) l)) (λ e. L.give (Paren e)) asked s a n
    by (inl c) = inl (h.0, h.1, h.2, c)
    by (inr e) = let close = e.3 in inr (e.0, close.1, (h.0, h.1, h.2, (e.0, e.1, e.2, (close.0, close.1, close.2, (refl, refl)))), close.3)

cast_paren : (d : ℕ) (l : Language Expr) → Into (cast_malloc d l) (read_parenthesised d l)
cast_paren d l asked s a n h = (h.0, h.1, h.2, inl h.3)

inner_paren : (d : ℕ) (l : Language Expr) →
    Into (L.◌>>=◌ (LE.bracketed d (LE.expr_of (suc d) l)) (λ e. L.give (Paren e))) (read_parenthesised d l)
inner_paren d l asked s a n h =
    let open' = h.2 in let e = open'.3 in let close = e.3 in
    (open'.0, open'.1, open'.2, inr (e.0, e.1, e.2, (close.0, close.1, close.2, (h.3.0 ∙ ap Paren close.3.0, h.3.1 ∙ close.3.1))))

module _ (d : ℕ) (l : Language Expr) (asked : Asked) (s : State) (a : Expr) (n : State) where
  -- with what stands in parentheses told apart
  paren_to : one_paren d l asked s a n → L.placed expression (LE.malloc d l) asked s a n ⊎ one_inner d l asked s a n
  paren_to h = let g = h.3 in by g.0 g.1 g.3 (paren_either d l asked h.1 g.0 g.1 g.2)
    where
      by : (kind : ExprKind) (k : State) → L.◌>>=◌ (L.look (λ s. s.end))
          (λ to. L.give (expression kind (L.span h.0 to))) asked k a n →
          cast_malloc d l asked h.1 kind k ⊎ L.◌>>=◌ (LE.bracketed d (LE.expr_of (suc d) l))
          (λ e. L.give (Paren e)) asked h.1 kind k →
          L.placed expression (LE.malloc d l) asked s a n ⊎ one_inner d l asked s a n
      by kind k rest (inl c) = inl (h.0, h.1, h.2, (kind, k, cast_to d l asked h.1 kind k c, rest))
      by kind k rest (inr e) = inr (h.0, h.1, h.2, (kind, k, e, rest))

  malloc_to : L.placed expression (LE.malloc d l) asked s a n → one_malloc d l asked s a n ⊎ one_paren d l asked s a n
  malloc_to h = let g = h.3 in by g.0 g.1 g.3 (malloc_either d l asked h.1 g.0 g.1 g.2)
    where
      by : (kind : ExprKind) (k : State) → L.◌>>=◌ (L.look (λ s. s.end))
          (λ to. L.give (expression kind (L.span h.0 to))) asked k a n →
          read_malloc d l None asked h.1 kind k ⊎ cast_malloc d l asked h.1 kind k →
          one_malloc d l asked s a n ⊎ one_paren d l asked s a n
      by kind k rest (inl c) = inl (h.0, h.1, h.2, (kind, k, c, rest))
      by kind k rest (inr c) = inr (h.0, h.1, h.2, (kind, k, cast_paren d l asked h.1 kind k c, rest))

  primary_to : read_primary d l asked s a n → LE.primary d l asked s a n
  primary_to (inl h) = inl h
  primary_to (inr (inl h)) = ⊎_elim (λ v. inr (inr (inl v))) (λ c. inr (inr (inr (inl c)))) (named_either d (LE.expr_of (suc d) l) asked s a n h)
  primary_to (inr (inr (inl h))) = inr (inl h)
  primary_to (inr (inr (inr (inl h)))) = ⊎_elim (λ g. inr (inr (inr (inr (inr (inl g)))))) (λ e. inr (inr (inr (inr (inl e))))) (paren_to h)
  primary_to (inr (inr (inr (inr (inl h))))) = inr (inr (inr (inr (inr (inr h)))))
  primary_to (inr (inr (inr (inr (inr h))))) = inr (inr (inr (inr (inr (inl (placed_into expression (bare_to d l) asked s a n h))))))

  primary_from : LE.primary d l asked s a n → read_primary d l asked s a n
  primary_from (inl h) = inl h
  primary_from (inr (inl h)) = inr (inr (inl h))
  primary_from (inr (inr (inl h))) = inr (inl (variable_named d (LE.expr_of (suc d) l) asked s a n h))
  primary_from (inr (inr (inr (inl h)))) = inr (inl (call_named d (LE.expr_of (suc d) l) asked s a n h))
  primary_from (inr (inr (inr (inr (inl h))))) = inr (inr (inr (inl (placed_into expression (inner_paren d l) asked s a n h))))
  primary_from (inr (inr (inr (inr (inr (inl h)))))) = ⊎_elim (λ g. inr (inr (inr (inr (inr g))))) (λ e. inr (inr (inr (inl e)))) (malloc_to h)
  primary_from (inr (inr (inr (inr (inr (inr h)))))) = inr (inr (inr (inr (inl h))))

-- ---- and what stands behind

module _ (fits able : Type 0) (room d : ℕ) (small : fits → d ≤ MAX_NESTING)
    (sum : fits → suc d + room ≡ suc MAX_NESTING) (down : suc d ≤ MAX_NESTING → fits)
    (p : Reader Expr) (l : Language Expr) (operand : Told {X = Unit {0}} (suc d ≤ MAX_NESTING) able (suc d) (λ x. p) (λ x. l) ⊥ begins_expr goes_operand) where
  primary_told : Told {X = Unit {0}} fits able d (λ x. RE.primary room p)
      (λ x. LE.primary d l) ⊥ begins_primary goes_named
  primary_told = same_language (λ x. primary_to d l) (λ x. primary_from d l) (read_primary_told fits able room d small sum down p l operand)

  pub postfix_told : Told {X = Unit {0}} fits able d (λ x. RE.postfix room p)
      (λ x. LE.postfix d l) ⊥ begins_primary goes_operand
  postfix_told = followed (λ x. R.turns is_selector (RE.selected room p)) primary_told (selections_told fits able room d small sum down p l operand (Unit {0}))
      (selector_not goes_named (from_mark m.OpenBracket goes_named false (λ at. refl)) (from_mark m.Arrow goes_named false (λ at. refl)) (from_mark m.Dot goes_named false (λ at. refl)))
      (λ u x e. split _ _ (from_mark m.OpenParen goes_operand true (λ at. refl) x) (from_mark m.At goes_operand true (λ at. refl) x) e) (λ e. e)
