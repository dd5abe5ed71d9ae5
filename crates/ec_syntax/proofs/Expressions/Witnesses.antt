-- A word of an operand for each token that begins one, where operands are nested at least twice.
use Rattle.std.proofs.Common.{◌≡◌, refl, inl, inr, ◌≤◌, ◌+◌, ◌-◌, ℕ, zero, suc, Bool, true, false, ◌||◌, List, codes, Option, None, arith}
use Rattle.ec_base.specs.declared.limits.TheConstants.{MAX_NESTING}
use Rattle.ec_base.specs.declared.token.Mark.TheVariants as m
use Rattle.ec_base.specs.declared.token.Token.{Token}
use Rattle.ec_syntax.specs.declared.expression.Expr.{Expr}
use Rattle.ec_syntax.specs.declared.expression.ExprKind.{ExprKind}
use Rattle.ec_syntax.specs.declared.expression.ExprKind.TheVariants.{Number, Null, Var, Paren, New, ValueOf}
use Rattle.ec_syntax.specs.declared.name.Ty.{Ty}
use Rattle.ec_syntax.specs.Grammar.Language as L
use Rattle.ec_syntax.specs.Grammar.Language.{Language, Turns}
use Rattle.ec_syntax.specs.Grammar.Language.Turns.{over}
use Rattle.ec_syntax.specs.Descent.Reader as R
use Rattle.ec_syntax.specs.Descent.Reader.{Reader}
use Rattle.ec_syntax.specs.Grammar.Tokens as T
use Rattle.ec_syntax.specs.Grammar.Tokens.{is_mark, is_word}
use Rattle.ec_syntax.specs.Grammar.Expressions as LE
use Rattle.ec_syntax.specs.Grammar.Expressions.{expression, of_mark, prefix_of}
use Rattle.ec_syntax.specs.Descent.Tokens as RT
use Rattle.ec_syntax.specs.Descent.Expressions as RE
use Rattle.ec_syntax.specs.Descent.Tokens.{begins_expr, is_number, is_name, is_prefix}
use Rattle.ec_syntax.proofs.Decision.Procedures.{Spoken, Opens, Ends, Quiet, is_else}
use Rattle.ec_syntax.proofs.Lookahead.FirstTokens.{Into, opens_into, ends_into}
use Rattle.ec_syntax.proofs.Decision.Limited.{followed, made, placed, everywhere, further}
use Rattle.ec_syntax.proofs.Terminals.Tokens.{number_told, name_told, word_told}
use Rattle.ec_syntax.proofs.Terminals.Types.{keyword_told}
use Rattle.ec_syntax.proofs.Nesting.Brackets.{bracketed_told}
use Rattle.ec_syntax.proofs.Lookahead.FollowSets.{goes_operand}
use Rattle.ec_syntax.proofs.Expressions.Names.{one_variable}
use Rattle.ec_syntax.proofs.Expressions.Malloc.{element, sized_told}
use Rattle.ec_syntax.proofs.Expressions.MallocGrammar.{bare_to}
use Rattle.ec_syntax.proofs.Expressions.Primaries.{one_number, one_null, placed_into}
use Rattle.ec_syntax.proofs.Expressions.Operands.{prefixed, addressed, prefixed_told, addressed_told}
use Rattle.ec_syntax.proofs.Lookahead.FirstSets.{none, none_within}
use Rattle.ec_syntax.proofs.Tokens.Samples.{malloc_sample, null_sample, valueof_sample}

-- ---- shortest words

abbrev short_paren : ℕ → Language ExprKind
short_paren d = L.◌>>=◌ (LE.bracketed d (one_number (suc d))) (λ e. L.give (Paren e))

abbrev short_value : ℕ → Language ExprKind
short_value d = L.◌>>◌ (T.word d (codes "valueof")) (L.◌>>=◌ (LE.bracketed d (one_number (suc d))) (λ e. L.give (ValueOf e)))

abbrev short_amount : ℕ → Language (Option Expr × Ty)
short_amount d = L.◌>>◌ (T.word d (codes "sizeof")) (L.◌>>=◌ (element d) (λ t. L.give (None, t)))

abbrev short_malloc : ℕ → Language ExprKind
short_malloc d = L.◌>>◌ (T.word d (codes "malloc")) (L.◌>>=◌ (LE.bracketed d (short_amount (suc d))) (λ c. L.give (New None c.0 c.1)))

abbrev read_number : Reader Expr
read_number = R.placed expression (R.◌>>=◌ RT.number (λ n. R.give (Number n)))

abbrev read_amount : ℕ → Reader (Option Expr × Ty)
read_amount room = R.◌>>◌ (RT.word (codes "sizeof")) (R.◌>>=◌ (RE.element room) (λ t. R.give (None, t)))

deep : (d : ℕ) → suc d ≤ MAX_NESTING → suc (suc d) + (MAX_NESTING - suc d) ≡ suc MAX_NESTING
deep d h = omega arith

none_fits : {A : Type 0} → ⊥ → A
none_fits e = absurd e

module _ (d : ℕ) where
  number_spoken : Spoken {X = Unit {0}} (Unit {0}) d (λ x. one_number d) ⊥ is_number goes_operand
  number_spoken = (placed (λ x. expression) (made (λ x n. Number n) (number_told (Unit {0}) ⊥ (Unit {0}) d none_fits goes_operand))).spoken

  variable_spoken : Spoken {X = Unit {0}} (Unit {0}) d (λ x. one_variable d) ⊥ is_name goes_operand
  variable_spoken = (placed (λ x. expression) (made (λ x n. Var n.text) (name_told (Unit {0}) ⊥ (Unit {0}) d none_fits goes_operand))).spoken

  null_spoken : Spoken {X = Unit {0}} (Unit {0}) d (λ x. one_null d) ⊥ (is_word (codes "NULL")) goes_operand
  null_spoken = (placed (λ x. expression) (keyword_told (Unit {0}) ⊥ (Unit {0}) d none_fits goes_operand (codes "NULL") null_sample Null)).spoken

  address_spoken : Spoken {X = Unit {0}} (Unit {0}) d (λ x. addressed d) ⊥ (is_mark m.And) goes_operand
  address_spoken = (addressed_told ⊥ (Unit {0}) 0 d none_fits none_fits goes_operand).spoken

  prefix_spoken : Spoken {X = Unit {0}} (Unit {0}) d (λ x. prefixed d (one_number (suc d))) ⊥ is_prefix goes_operand
  prefix_spoken = (prefixed_told ⊥ (Unit {0}) d (suc d) none_fits _ (one_number (suc d)) is_number goes_operand
      (placed (λ x. expression) (made (λ x n. Number n) (number_told (Unit {0}) ⊥ (Unit {0}) (suc d) none_fits goes_operand)))).spoken

  paren_spoken : Spoken {X = Unit {0}} (Unit {0}) d (λ x. L.placed expression (short_paren d)) ⊥ (is_mark m.OpenParen)
      goes_operand
  paren_spoken = (further (none_within goes_operand) (placed (λ (x : Unit {0}). expression) (made (λ x e. Paren e) (bracketed_told {fits = ⊥} 0 d none_fits none_fits (λ x e. refl)
      (placed (λ x. expression) (made (λ x n. Number n) (number_told (Unit {0}) (suc d ≤ MAX_NESTING) (Unit {0}) (suc d) (λ e. e) none))))))).spoken

  value_spoken : Spoken {X = Unit {0}} (Unit {0}) d (λ x. L.placed expression (short_value d)) ⊥
      (is_word (codes "valueof")) goes_operand
  value_spoken = (further (none_within goes_operand) (placed (λ (x : Unit {0}). expression) (followed (λ x u. R.◌>>=◌ (RE.bracketed 0 is_number read_number) (λ e. R.give (ValueOf e))) (word_told (Unit {0}) ⊥ (Unit {0}) d none_fits none (codes "valueof") valueof_sample)
      (made (λ x e. ValueOf e) (bracketed_told {fits = ⊥} 0 d none_fits none_fits (λ x e. refl)
      (placed (λ x. expression) (made (λ x n. Number n) (number_told (Unit {0} × Unit {0}) (suc d ≤ MAX_NESTING) (Unit {0}) (suc d) (λ e. e) none)))))
      (λ x e. refl) (λ e. absurd e) (λ e. e)))).spoken

  malloc_spoken : Spoken {X = Unit {0}} (Unit {0}) d (λ x. L.placed expression (short_malloc d)) ⊥
      (is_word (codes "malloc")) goes_operand
  malloc_spoken = (further (none_within goes_operand) (placed (λ (x : Unit {0}). expression) (followed (λ x u. R.◌>>=◌ (RE.bracketed 0 (is_word (codes "sizeof")) (read_amount (MAX_NESTING - suc d))) (λ c. R.give (New None c.0 c.1))) (word_told (Unit {0}) ⊥ (Unit {0}) d none_fits none (codes "malloc") malloc_sample)
      (made (λ x c. New None c.0 c.1) (bracketed_told {fits = ⊥} 0 d none_fits none_fits (λ x e. refl)
      (everywhere (Unit {0} × Unit {0}) (sized_told (suc d ≤ MAX_NESTING) (Unit {0}) (MAX_NESTING - suc d) (suc d) (λ e. e) (deep d)))))
      (λ x e. refl) (λ e. absurd e) (λ e. e)))).spoken

-- ---- within operands

-- operands nested once at least
module _ (k d : ℕ) where
  abbrev once : Language Expr
  once = LE.unary (suc k) d

  in_postfix : Into (LE.primary d (LE.unary k (suc d))) once
  in_postfix asked s a n h = inr (inr (a, n, h, over))

  number_in : Into (one_number d) once
  number_in asked s a n h = in_postfix asked s a n (inl h)

  number_levels : (level : ℕ) → Into (one_number d) (LE.levels d level once)
  number_levels zero = number_in
  number_levels (suc level) = λ asked s a n h. (a, n, number_levels level asked s a n h, over)

-- operands nested twice at least
module _ (k d : ℕ) where
  abbrev twice : Language Expr
  twice = LE.unary (suc (suc k)) d

  -- what stands inside is nested once at least
  inner_number : {A : Type 0} (make : Expr → A) →
      Into (L.◌>>=◌ (LE.bracketed d (one_number (suc d))) (λ e. L.give (make e)))
      (L.◌>>=◌ (LE.bracketed d (LE.expr_of (suc d) (LE.unary (suc k) (suc d)))) (λ e. L.give (make e)))
  inner_number make asked s a n h =
      let b = h.2 in let e = b.3 in
      (h.0, h.1, (b.0, b.1, b.2, (e.0, e.1, number_levels k (suc d) 10 asked b.1 e.0 e.1 e.2, e.3)), h.3)

  prefix_in : Into (prefixed d (one_number (suc d))) twice
  prefix_in asked s a n h =
      let g = h.3 in let make = g.2 in let e = make.3 in
      inl (h.0, h.1, h.2, (g.0, g.1, (make.0, make.1, make.2, (e.0, e.1, number_in k (suc d) asked make.1 e.0 e.1 e.2, e.3)), g.3))

  address_in : Into (addressed d) twice
  address_in asked s a n h = inr (inl h)

  null_in : Into (one_null d) twice
  null_in asked s a n h = in_postfix (suc k) d asked s a n (inr (inl h))

  variable_in : Into (one_variable d) twice
  variable_in asked s a n h = in_postfix (suc k) d asked s a n (inr (inr (inl h)))

  paren_in : Into (L.placed expression (short_paren d)) twice
  paren_in asked s a n h = in_postfix (suc k) d asked s a n (inr (inr (inr (inr (inl (placed_into expression (inner_number Paren) asked s a n h))))))

  value_in : Into (L.placed expression (short_value d)) twice
  value_in asked s a n h = in_postfix (suc k) d asked s a n (inr (inr (inr (inr (inr (inr (placed_into expression to asked s a n h)))))))
    where
      to : Into (short_value d) (L.◌>>◌ (T.word d (codes "valueof"))
          (L.◌>>=◌ (LE.bracketed d (LE.expr_of (suc d) (LE.unary (suc k) (suc d)))) (λ e. L.give (ValueOf e))))
      to asked s a n h = (h.0, h.1, h.2, inner_number ValueOf asked h.1 a n h.3)

  malloc_in : Into (L.placed expression (short_malloc d)) twice
  malloc_in asked s a n h = in_postfix (suc k) d asked s a n (inr (inr (inr (inr (inr (inl (placed_into expression to asked s a n h)))))))
    where
      to : Into (short_malloc d) (LE.malloc d (LE.unary (suc k) (suc d)))
      to asked s a n h =
          let c = h.3 in let b = c.2 in let size = b.3 in
          bare_to d (LE.unary (suc k) (suc d)) asked s a n (h.0, h.1, h.2, (c.0, c.1, (b.0, b.1, b.2, (size.0, size.1, inl size.2, size.3)), c.3))

-- ---- each token that begins an operand

split₁ : {A : Type 1} (b c : Bool) → (b ≡ true → A) → (c ≡ true → A) → (b || c) ≡ true → A
split₁ true c f g h = f refl
split₁ false c f g h = g h

module _ (k d : ℕ) (rest : List Token) (quiet : Quiet goes_operand rest) (calm : Quiet is_else rest) where
  pub unary_ends : Ends {X = Unit {0}} (λ x. LE.unary (suc k) d) rest
  unary_ends = ends_into (λ x. number_in k d) ((number_spoken d).ends tt rest quiet calm)

  pub unary_opens : (here : Token) → begins_expr here ≡ true →
      Opens {X = Unit {0}} d (λ x. LE.unary (suc (suc k)) d) here rest
  unary_opens x = split₁ _ _ (split₁ _ _ (split₁ _ _ (split₁ _ _ (split₁ _ _ (split₁ _ _ (split₁ _ _
      (λ e. opens_into (λ x. number_in (suc k) d) ((number_spoken d).opens tt x e rest quiet calm))
      (λ e. opens_into (λ x. variable_in k d) ((variable_spoken d).opens tt x e rest quiet calm)))
      (λ e. opens_into (λ x. prefix_in k d) ((prefix_spoken d).opens tt x e rest quiet calm)))
      (λ e. opens_into (λ x. address_in k d) ((address_spoken d).opens tt x e rest quiet calm)))
      (λ e. opens_into (λ x. paren_in k d) ((paren_spoken d).opens tt x e rest quiet calm)))
      (λ e. opens_into (λ x. null_in k d) ((null_spoken d).opens tt x e rest quiet calm)))
      (λ e. opens_into (λ x. malloc_in k d) ((malloc_spoken d).opens tt x e rest quiet calm)))
      (λ e. opens_into (λ x. value_in k d) ((value_spoken d).opens tt x e rest quiet calm))
