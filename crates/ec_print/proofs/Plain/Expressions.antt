-- Expressions: the plain tokens of which they are read are those of their phrases.
use Rattle.std.proofs.Common.{◌≡◌, refl, sym, ◌∙◌, ap, ℕ, ◌+◌, zero, suc, [], ◌∷◌, ◌++◌, map, append-nil, codes, Option, Some, None}
use Rattle.ec_base.specs.declared.token.Mark.{Mark}
use Rattle.ec_base.specs.declared.token.Mark.TheVariants as m
use Rattle.ec_base.specs.declared.token.Span.{Span}
use Rattle.ec_base.specs.declared.token.TokenKind.TheVariants as t
use Rattle.ec_syntax.specs.Grammar.Expressions as E
use Rattle.ec_syntax.specs.Grammar.Expressions.{at_level, prefix_of}
use Rattle.ec_syntax.specs.Grammar.Language as L
use Rattle.ec_syntax.specs.Grammar.Language.{Language}
use Rattle.ec_syntax.specs.Grammar.Tokens as T
use Rattle.ec_syntax.specs.Grammar.Types as Y
use Rattle.ec_syntax.specs.declared.expression.Call.{roll-Call}
use Rattle.ec_syntax.specs.declared.expression.Expr.{Expr}
use Rattle.ec_syntax.specs.declared.expression.ExprKind.{ExprKind}
use Rattle.ec_syntax.specs.declared.expression.ExprKind.TheVariants as v
use Rattle.ec_syntax.specs.declared.expression.Placement.TheVariants.{OwnerOf, Node}
use Rattle.ec_syntax.specs.declared.name.Ty.{Ty}
use Rattle.ec_print.specs.Layout.{depth_after}
use Rattle.ec_print.specs.Phrase.{Phrase, tokens, ◌then◌}
use Rattle.ec_print.specs.Sentence as S
use Rattle.ec_print.proofs.Again.Readings.{Kinds}
use Rattle.ec_print.proofs.Again.Expressions.{prefixed}
use Rattle.ec_print.proofs.Again.Folds.{phrase, said, called_said}
use Rattle.ec_print.proofs.Again.Levels.{infixed}
use Rattle.ec_syntax.proofs.Folds.Expressions as tree
use Rattle.ec_print.proofs.Plain.Rules.{Spelt, Spells, weaker, spelt, either, never_spelt, behind, ends, looked, given, perhaps, placed_spelt, turned}
use Rattle.ec_print.proofs.Plain.Tokens.{mark_spelt, word_spelt, operator_spelt, name_spelt, number_spelt, type_spelt, pointer_spelt, bracketed_spelt, some_spelt}

-- an expression at its place
expression_spelt : {o : ℕ} {p : Language ExprKind} → Spells o phrase p → Spells o S.expression (L.placed E.expression p)
expression_spelt h = placed_spelt E.expression (weaker (λ x ks e at. e ∙ ap tokens (sym (said x at))) h)

-- behind any parentheses
abbrev pub Fine : Language Expr → Type 0
Fine l = (o : ℕ) → Spells o S.expression l

-- ---- operators

-- no operator is a parenthesis
level_flat : (k : Mark) (level : ℕ) (make : Expr → Expr → ExprKind) → at_level level k ≡ Some make → (o : ℕ) → depth_after o (t.Mark k) ≡ o
level_flat m.OpenParen level make e o = absurd (cc)
level_flat m.CloseParen level make e o = absurd (cc)
level_flat _ level make e o = refl

prefix_flat : (k : Mark) (make : Expr → ExprKind) → prefix_of k ≡ Some make → (o : ℕ) → depth_after o (t.Mark k) ≡ o
prefix_flat m.OpenParen make e o = absurd (cc)
prefix_flat m.CloseParen make e o = absurd (cc)
prefix_flat _ make e o = refl

joined_said : (k : Mark) (level : ℕ) (make : Expr → Expr → ExprKind) → at_level level k ≡ Some make → (a b : Expr) (ks : Kinds) → ks ≡ tokens (S.expression a) →
    ks ++ t.Mark k ∷ tokens (S.expression b) ≡ tokens (S.expression (E.joined make a b))
joined_said k level make picks a b ks e =
    ap (λ z. z ++ t.Mark k ∷ tokens (S.expression b)) e ∙ sym (ap tokens (said (make a b) (L.span a.at.from b.at.to) ∙ (infixed k level make picks).written a b))

module _ {l : Language Expr} (h : Fine l) where
  pub levels_spelt : (d level : ℕ) → Fine (E.levels d level l)
  levels_spelt d zero o = h o
  levels_spelt d (suc level) o =
      behind (spelt S.expression (levels_spelt d level o) (λ first.
      turned (λ a ks e. behind (operator_spelt (λ k make picks. (
        level_flat k level make picks o,
        ends (E.joined make a) (spelt S.expression (levels_spelt d level o) (λ b. joined_said k level make picks a b ks e)),
      ))))
      first (tokens (S.expression first)) refl))

  -- ---- calls

  arguments_spelt : (d o : ℕ) → Spells o (λ es. S.listed (map S.expression es)) (E.arguments d l)
  arguments_spelt d o = either (given refl) (some_spelt S.expression (λ _. h o) d)

  in_brackets : (d o : ℕ) → Spells o (λ e. S.bracketed (S.expression e)) (E.bracketed d l)
  in_brackets d o = bracketed_spelt d S.expression (h (o + 1))

  place_spelt : (d o : ℕ) → Spells o S.placement (E.place d l)
  unfolding S.at_owner
  place_spelt d o =
      either (given (ap tokens (sym (tree.here_fold S.of_kind S.of_place S.of_call S.of_expression))))
      (behind (mark_spelt m.At
      (either (behind (word_spelt (codes "OWNER_OF") (ends OwnerOf (spelt (λ e. S.bracketed (S.expression e)) (in_brackets d o) (λ e. ap tokens (sym (tree.owner_fold S.of_kind S.of_place S.of_call S.of_expression e)))))))
      (either (behind (word_spelt (codes "HOME") (given (ap tokens (sym (tree.home_fold S.of_kind S.of_place S.of_call S.of_expression))))))
      (either (behind (word_spelt (codes "NODE") (ends Node (spelt (λ e. S.bracketed (S.expression e)) (in_brackets d o) (λ e. ap tokens (sym (tree.node_fold S.of_kind S.of_place S.of_call S.of_expression e)))))))
      (behind (word_spelt (codes "ANYWHERE") (given (ap tokens (sym (tree.anywhere_fold S.of_kind S.of_place S.of_call S.of_expression)))))))))))

  -- a call, wherever it stands
  called_spelt : (d o : ℕ) → Spelt o o (E.called d l) (λ make ks. (at : Span) → ks ≡ tokens (S.call (make at)))
  called_spelt d o =
      behind (name_spelt (λ x. behind (spelt (λ es. S.bracketed (S.listed (map S.expression es))) (bracketed_spelt d (λ es. S.listed (map S.expression es)) (arguments_spelt (suc d) (o + 1))) (λ es.
      ends (λ p at. roll-Call (record { name = x; args = es; place = p; at = at })) (spelt S.placement (place_spelt d o) (λ p at. ap tokens (sym (called_said x es p at))))))))

  pub call_spelt : (d o : ℕ) → Spells o S.call (E.call d l)
  call_spelt d o = placed_spelt (λ make at. make at) (called_spelt d o)

  call_expression_spelt : (d o : ℕ) → Spells o S.expression (L.placed (λ make at. E.expression (v.Call (make at)) at) (E.called d l))
  call_expression_spelt d o =
      placed_spelt (λ make at. E.expression (v.Call (make at)) at)
      (weaker (λ make ks e at. e at ∙ sym (ap tokens (said (v.Call (make at)) at ∙ tree.call_fold S.of_kind S.of_place S.of_call S.of_expression (make at)))) (called_spelt d o))

-- ---- allocations

module _ {l : Language Expr} (h : Fine l) (d o : ℕ) where
  star_spelt : {d p : ℕ} → Spelt p p (T.sign d m.Star) (λ _ ks. ks ≡ t.Mark m.Star ∷ [])
  star_spelt = mark_spelt m.Star refl

  cast_spelt : Spells o (S.optional S.cast) (L.maybe (E.cast d))
  cast_spelt = perhaps (bracketed_spelt d S.type (pointer_spelt star_spelt (suc d))) refl

  abbrev counts : Language Expr
  counts = L.◌>>=◌ (E.levels (suc d) 1 l) (λ e. L.◌>>◌ (T.sign (suc d) m.Star) (L.give e))

  count_spelt : (p : ℕ) → Spells p (S.optional (λ e. S.factor (S.expression e))) (L.maybe counts)
  count_spelt p = perhaps (behind (spelt S.expression (levels_spelt h (suc d) 1 p) (λ e. behind (mark_spelt m.Star (given refl))))) refl

  abbrev amount : Option Expr × Ty → Phrase
  amount c = S.optional (λ e. S.factor (S.expression e)) c.0 then S.word (codes "sizeof") then S.bracketed (S.type c.1)

  abbrev amounts : Language (Option Expr × Ty)
  amounts = L.◌>>=◌ (L.maybe counts) (λ count. L.◌>>◌ (T.word (suc d) (codes "sizeof")) (L.◌>>=◌ (E.bracketed (suc d) (Y.type_with (suc (suc d)) (T.sign (suc (suc d)) m.Star))) (λ ty. L.give (count, ty))))

  amount_spelt : Spells (o + 1) amount amounts
  amount_spelt =
      behind (spelt (S.optional (λ e. S.factor (S.expression e))) (count_spelt (o + 1)) (λ count. behind (word_spelt (codes "sizeof")
      (ends (λ ty. (count, ty)) (spelt (λ ty. S.bracketed (S.type ty)) (bracketed_spelt (suc d) S.type (type_spelt star_spelt (suc (suc d)))) (λ ty. refl))))))

  new_said : (to : Option Ty) (count : Option Expr) (ty : Ty) → tokens (S.optional S.cast to then S.word (codes "malloc") then S.bracketed (amount (count, ty))) ≡ tokens (phrase (v.New to count ty))
  new_said to None ty = ap tokens (sym (tree.single_fold S.of_kind S.of_place S.of_call S.of_expression to ty))
  new_said to (Some a) ty = ap tokens (sym (tree.counted_fold S.of_kind S.of_place S.of_call S.of_expression to a ty))

  malloc_spelt : Spells o phrase (E.malloc d l)
  malloc_spelt =
      behind (spelt (S.optional S.cast) cast_spelt (λ to. behind (word_spelt (codes "malloc")
      (ends (λ c. v.New to c.0 c.1) (spelt (λ c. S.bracketed (amount c)) (bracketed_spelt d amount amount_spelt) (λ c. new_said to c.0 c.1))))))

  -- ---- operands

  inner_spelt : (p : ℕ) → Spells p S.expression (E.expr_of (suc d) l)
  inner_spelt = levels_spelt h (suc d) 10

  inner_bracketed : Spells o (λ e. S.bracketed (S.expression e)) (E.bracketed d (E.expr_of (suc d) l))
  inner_bracketed = bracketed_spelt d S.expression (inner_spelt (o + 1))

  primary_spelt : Spells o S.expression (E.primary d l)
  primary_spelt =
      either (expression_spelt (ends v.Number (number_spelt (λ n. ap tokens (sym (tree.number_fold S.of_kind S.of_place S.of_call S.of_expression n))))))
      (either (expression_spelt (behind (word_spelt (codes "NULL") (given (ap tokens (sym (tree.null_fold S.of_kind S.of_place S.of_call S.of_expression)))))))
      (either (expression_spelt (ends (λ x. v.Var x.text) (name_spelt (λ x. ap tokens (sym (tree.var_fold S.of_kind S.of_place S.of_call S.of_expression x.text))))))
      (either (call_expression_spelt inner_spelt d o)
      (either (expression_spelt (ends v.Paren (spelt (λ e. S.bracketed (S.expression e)) inner_bracketed (λ e. ap tokens (sym (tree.paren_fold S.of_kind S.of_place S.of_call S.of_expression e))))))
      (either (expression_spelt malloc_spelt)
      (expression_spelt (behind (word_spelt (codes "valueof")
      (ends v.ValueOf (spelt (λ e. S.bracketed (S.expression e)) inner_bracketed (λ e. ap tokens (sym (tree.valueof_fold S.of_kind S.of_place S.of_call S.of_expression e)))))))))))))

  -- ---- what stands behind operands

  -- what is selected of an expression stands behind its tokens
  abbrev Selects : Language ExprKind → Expr → Type 0
  Selects p a = Spelt o o p (λ x ls. tokens (S.expression a) ++ ls ≡ tokens (phrase x))

  index_spelt : (a : Expr) → Selects (L.◌>>◌ (T.sign d m.OpenBracket) (L.◌>>=◌ (E.expr_of (suc d) l) (λ i. L.◌>>◌ (T.sign (suc d) m.CloseBracket) (L.give (v.Index a i))))) a
  index_spelt a =
      behind (mark_spelt m.OpenBracket (behind (spelt S.expression (inner_spelt o) (λ i.
      behind (mark_spelt m.CloseBracket (given (ap tokens (sym (tree.index_fold S.of_kind S.of_place S.of_call S.of_expression a i)))))))))

  arrow_spelt : (a : Expr) → Selects (L.◌>>◌ (T.sign d m.Arrow) (L.◌>>=◌ (T.name d) (λ x. L.give (v.Arrow a x.text)))) a
  arrow_spelt a = behind (mark_spelt m.Arrow (ends (λ x. v.Arrow a x.text) (name_spelt (λ x. ap tokens (sym (tree.arrow_fold S.of_kind S.of_place S.of_call S.of_expression a x.text))))))

  dot_spelt : (a : Expr) → Selects (L.◌>>◌ (T.sign d m.Dot) (L.◌>>=◌ (T.name d) (λ x. L.give (v.Dot a x.text)))) a
  dot_spelt a = behind (mark_spelt m.Dot (ends (λ x. v.Dot a x.text) (name_spelt (λ x. ap tokens (sym (tree.dot_fold S.of_kind S.of_place S.of_call S.of_expression a x.text))))))

  selected_said : (a : Expr) (ks : Kinds) → ks ≡ tokens (S.expression a) → (x : ExprKind) (ls : Kinds) → tokens (S.expression a) ++ ls ≡ tokens (phrase x) → (at : Span) →
      ks ++ (ls ++ []) ≡ tokens (S.expression (E.expression x at))
  selected_said a ks e x ls f at = ap (λ z. ks ++ z) (append-nil ls) ∙ ap (λ z. z ++ ls) e ∙ f ∙ ap tokens (sym (said x at))

  selected_spelt : (a : Expr) (ks : Kinds) → ks ≡ tokens (S.expression a) → Spelt o o (E.selected d l a) (λ b ls. ks ++ ls ≡ tokens (S.expression b))
  selected_spelt a ks e =
      behind (weaker (λ x ls f. ends (λ to. E.expression x (L.span a.at.from to)) (looked (λ s. selected_said a ks e x ls f (L.span a.at.from s.end))))
      (either (index_spelt a) (either (arrow_spelt a) (dot_spelt a))))

  postfix_spelt : Spells o S.expression (E.postfix d l)
  postfix_spelt = behind (spelt S.expression primary_spelt (λ a. turned selected_spelt a (tokens (S.expression a)) refl))

-- ---- all together

pub unary_spelt : (nested d : ℕ) → Fine (E.unary nested d)
unary_spelt zero d o = never_spelt
unary_spelt (suc nested) d o =
    either (expression_spelt (behind (operator_spelt (λ k make picks. (
      prefix_flat k make picks o,
      ends make (spelt S.expression (unary_spelt nested (suc d) o) (λ e. ap tokens (sym ((prefixed k make picks).written e)))),
    )))))
    (either (expression_spelt (behind (mark_spelt m.And (ends (λ x. v.Address x.text) (name_spelt (λ x. ap tokens (sym (tree.address_fold S.of_kind S.of_place S.of_call S.of_expression x.text))))))))
    (postfix_spelt (unary_spelt nested (suc d)) d o))

pub expr_spelt : (nested d : ℕ) → Fine (E.expr nested d)
expr_spelt nested d = levels_spelt (unary_spelt nested d) d 10
