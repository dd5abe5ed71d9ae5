-- Expressions: what is read of them is spellable.
use Rattle.std.proofs.Common.{◌≡◌, refl, ℕ, zero, suc, [], ◌∷◌, map, Option, Some, None}
use Rattle.ec_base.specs.declared.token.Mark.{Mark}
use Rattle.ec_base.specs.declared.token.Mark.TheVariants as m
use Rattle.ec_syntax.specs.Grammar.Expressions as E
use Rattle.ec_syntax.specs.Grammar.Expressions.{at_level, prefix_of}
use Rattle.ec_syntax.specs.Grammar.Language as L
use Rattle.ec_syntax.specs.Grammar.Language.{Language}
use Rattle.ec_syntax.specs.Grammar.Tokens as T
use Rattle.ec_syntax.specs.declared.expression.Call.{roll-Call}
use Rattle.ec_syntax.specs.declared.expression.Expr.{Expr}
use Rattle.ec_syntax.specs.declared.expression.ExprKind.{ExprKind}
use Rattle.ec_syntax.specs.declared.expression.ExprKind.TheVariants as v
use Rattle.ec_syntax.specs.declared.expression.Placement.TheVariants.{OwnerOf, Node}
use Rattle.ec_syntax.specs.declared.name.Ty.{Ty}
use Rattle.ec_base.specs.declared.token.Span.{Span}
use Rattle.ec_print.specs.Sentence as S
use Rattle.ec_print.proofs.Again.Expressions.{prefixed}
use Rattle.ec_print.proofs.Again.Folds.{phrase, said, called_said}
use Rattle.ec_print.proofs.Again.Levels.{infixed}
use Rattle.ec_print.proofs.Again.Marks.{anything}
use Rattle.ec_syntax.proofs.Folds.Expressions as tree
use Rattle.ec_print.proofs.Spellable.Rules.{Spellable, spellable_as, listed_spellable, Yields, looked, given, behind, as_good, made, either, never_yields, perhaps, placed_yields, turned, token_yields}
use Rattle.ec_print.proofs.Spellable.Tokens.{operator_yields, number_yields, some_name_yields, type_yields, pointer_yields, bracketed_yields, commas_yield}

abbrev pub Fine : Expr → Type 0
Fine a = Spellable (S.expression a)

-- an expression at its place
expression_yields : {p : Language ExprKind} → Yields p (λ x. Spellable (phrase x)) → Yields (L.placed E.expression p) Fine
expression_yields h = placed_yields E.expression (λ x at k. spellable_as (said x at) k) h

-- ---- operators

joined_fine : (level : ℕ) (make : Expr → Expr → ExprKind) → (k : Mark) × (at_level level k ≡ Some make) → (a : Expr) → Fine a → (b : Expr) → Fine b → Fine (E.joined make a b)
joined_fine level make (k, picks) a g b h = spellable_as (said (make a b) (L.span a.at.from b.at.to)) (spellable_as ((infixed k level make picks).written a b) (g, (refl, h)))

prefix_fine : (make : Expr → ExprKind) → (k : Mark) × (prefix_of k ≡ Some make) → (a : Expr) → Fine a → Spellable (phrase (make a))
prefix_fine make (k, picks) a h = spellable_as ((prefixed k make picks).written a) (refl, h)

module _ {l : Language Expr} (h : Yields l Fine) where
  pub levels_yield : (d level : ℕ) → Yields (E.levels d level l) Fine
  levels_yield d zero = h
  levels_yield d (suc level) =
      behind (levels_yield d level) (λ first k. turned (λ a g. behind operator_yields (λ make chosen. made (E.joined make a) (joined_fine level make chosen a g) (levels_yield d level))) first k)

  -- ---- calls

  arguments_yield : (d : ℕ) → Yields (E.arguments d l) (λ es. Spellable (S.listed (map S.expression es)))
  arguments_yield d = either (given tt) (as_good (λ es. listed_spellable (map S.expression es)) (behind h (λ e k. commas_yield S.expression (λ _. h) d (e ∷ []) (k, tt))))

  place_yields : (d : ℕ) → Yields (E.place d l) (λ p. Spellable (S.placement p))
  unfolding S.at_owner
  place_yields d =
      either (given (spellable_as (tree.here_fold S.of_kind S.of_place S.of_call S.of_expression) tt))
      (behind token_yields (λ _ _.
      either (behind token_yields (λ _ _. made OwnerOf (λ e k. spellable_as (tree.owner_fold S.of_kind S.of_place S.of_call S.of_expression e) ((refl, refl), (refl, (k, refl)))) (bracketed_yields d h)))
      (either (behind token_yields (λ _ _. given (spellable_as (tree.home_fold S.of_kind S.of_place S.of_call S.of_expression) (refl, refl))))
      (either (behind token_yields (λ _ _. made Node (λ e k. spellable_as (tree.node_fold S.of_kind S.of_place S.of_call S.of_expression e) ((refl, refl), (refl, (k, refl)))) (bracketed_yields d h)))
      (behind token_yields (λ _ _. given (spellable_as (tree.anywhere_fold S.of_kind S.of_place S.of_call S.of_expression) (refl, refl))))))))

  -- a call, wherever it stands
  called_yields : (d : ℕ) → Yields (E.called d l) (λ make. (at : Span) → Spellable (S.call (make at)))
  called_yields d =
      behind some_name_yields (λ x n. behind (bracketed_yields d (arguments_yield (suc d))) (λ es g.
      made (λ p at. roll-Call (record { name = x; args = es; place = p; at = at })) (λ p k at. spellable_as (called_said x es p at) (n, ((refl, (g, refl)), k))) (place_yields d)))

  pub call_yields : (d : ℕ) → Yields (E.call d l) (λ c. Spellable (S.call c))
  call_yields d = placed_yields (λ make at. make at) (λ make at k. k at) (called_yields d)

  call_expression_yields : (d : ℕ) → Yields (L.placed (λ make at. E.expression (v.Call (make at)) at) (E.called d l)) Fine
  call_expression_yields d =
      placed_yields (λ make at. E.expression (v.Call (make at)) at)
      (λ make at k. spellable_as (said (v.Call (make at)) at) (spellable_as (tree.call_fold S.of_kind S.of_place S.of_call S.of_expression (make at)) (k at))) (called_yields d)

-- ---- allocations

new_spellable : (to : Option Ty) (count : Option Expr) (ty : Ty) → Spellable (S.optional S.cast to) → Spellable (S.optional S.expression count) → Spellable (S.type ty) → Spellable (phrase (v.New to count ty))
new_spellable to None ty h g k = spellable_as (tree.single_fold S.of_kind S.of_place S.of_call S.of_expression to ty) (h, (refl, (refl, ((tt, (refl, (refl, (k, refl)))), refl))))
new_spellable to (Some a) ty h g k = spellable_as (tree.counted_fold S.of_kind S.of_place S.of_call S.of_expression to a ty) (h, (refl, (refl, (((g, refl), (refl, (refl, (k, refl)))), refl))))

module _ {l : Language Expr} (h : Yields l Fine) (d : ℕ) where
  cast_yields : Yields (L.maybe (E.cast d)) (λ to. Spellable (S.optional S.cast to))
  cast_yields = perhaps (λ ty k. (refl, (k, refl))) tt (bracketed_yields d (pointer_yields token_yields (suc d)))

  count_yields : Yields (L.maybe (L.◌>>=◌ (E.levels (suc d) 1 l) (λ e. L.◌>>◌ (T.sign (suc d) m.Star) (L.give e)))) (λ count. Spellable (S.optional S.expression count))
  count_yields = perhaps (λ a k. k) tt (behind (levels_yield h (suc d) 1) (λ a k. behind token_yields (λ _ _. given k)))

  malloc_yields : Yields (E.malloc d l) (λ x. Spellable (phrase x))
  malloc_yields =
      behind cast_yields (λ to g. behind token_yields (λ _ _.
      made (λ c. v.New to c.0 c.1) (λ c k. new_spellable to c.0 c.1 g k.0 k.1)
      (bracketed_yields {good = λ c. Spellable (S.optional S.expression c.0) × Spellable (S.type c.1)} d
      (behind count_yields (λ count w. behind token_yields (λ _ _. made (λ ty. (count, ty)) (λ ty k. (w, k)) (bracketed_yields (suc d) (type_yields token_yields (suc (suc d))))))))))

  -- ---- operands

  inner_yields : Yields (E.expr_of (suc d) l) Fine
  inner_yields = levels_yield h (suc d) 10

  primary_yields : Yields (E.primary d l) Fine
  primary_yields =
      either (expression_yields (made v.Number (λ n k. spellable_as (tree.number_fold S.of_kind S.of_place S.of_call S.of_expression n) k) number_yields))
      (either (expression_yields (behind token_yields (λ _ _. given (spellable_as (tree.null_fold S.of_kind S.of_place S.of_call S.of_expression) refl))))
      (either (expression_yields (made (λ x. v.Var x.text) (λ x k. spellable_as (tree.var_fold S.of_kind S.of_place S.of_call S.of_expression x.text) k) some_name_yields))
      (either (call_expression_yields inner_yields d)
      (either (expression_yields (made v.Paren (λ e k. spellable_as (tree.paren_fold S.of_kind S.of_place S.of_call S.of_expression e) (refl, (k, refl))) (bracketed_yields d inner_yields)))
      (either (expression_yields malloc_yields)
      (expression_yields (behind token_yields (λ _ _. made v.ValueOf (λ e k. spellable_as (tree.valueof_fold S.of_kind S.of_place S.of_call S.of_expression e) (refl, (refl, (k, refl)))) (bracketed_yields d inner_yields)))))))))

  selected_yields : (a : Expr) → Fine a → Yields (E.selected d l a) Fine
  selected_yields a k =
      behind {good = λ x. Spellable (phrase x)}
      (either (behind token_yields (λ _ _. behind inner_yields (λ i g. behind token_yields (λ _ _. given (spellable_as (tree.index_fold S.of_kind S.of_place S.of_call S.of_expression a i) (k, (refl, (g, refl))))))))
      (either (behind token_yields (λ _ _. made (λ x. v.Arrow a x.text) (λ x g. spellable_as (tree.arrow_fold S.of_kind S.of_place S.of_call S.of_expression a x.text) (k, (refl, g))) some_name_yields))
      (behind token_yields (λ _ _. made (λ x. v.Dot a x.text) (λ x g. spellable_as (tree.dot_fold S.of_kind S.of_place S.of_call S.of_expression a x.text) (k, (refl, g))) some_name_yields))))
      (λ x g. behind (looked {good = anything} (λ _. tt)) (λ to _. given (spellable_as (said x (L.span a.at.from to)) g)))

  postfix_yields : Yields (E.postfix d l) Fine
  postfix_yields = behind primary_yields (λ a k. turned selected_yields a k)

-- ---- all together

pub unary_yields : (nested d : ℕ) → Yields (E.unary nested d) Fine
unary_yields zero d = never_yields
unary_yields (suc nested) d =
    either (expression_yields (behind operator_yields (λ make chosen. made make (prefix_fine make chosen) (unary_yields nested (suc d)))))
    (either (expression_yields (behind token_yields (λ _ _. made (λ x. v.Address x.text) (λ x k. spellable_as (tree.address_fold S.of_kind S.of_place S.of_call S.of_expression x.text) (refl, k)) some_name_yields)))
    (postfix_yields (unary_yields nested (suc d)) d))

pub expr_yields : (nested d : ℕ) → Yields (E.expr nested d) Fine
expr_yields nested d = levels_yield (unary_yields nested d) d 10
