-- Expressions stand where they are read.
use Rattle.std.proofs.Common.{◌≡◌, refl, sym, ◌∙◌, ap, subst, inl, inr, ℕ, zero, suc, true, false, Option, Some, None, codes}
use Rattle.ec_base.specs.declared.token.Mark.{Mark}
use Rattle.ec_base.specs.declared.token.Mark.TheVariants as m
use Rattle.ec_base.specs.declared.token.Span.{Span}
use Rattle.ec_syntax.specs.declared.expression.Expr.{Expr}
use Rattle.ec_syntax.specs.declared.expression.ExprKind.{ExprKind}
use Rattle.ec_syntax.specs.declared.expression.ExprKind.TheVariants as v
use Rattle.ec_syntax.specs.declared.name.Name.{Name}
use Rattle.ec_syntax.specs.declared.name.Ty.{Ty}
use Rattle.ec_syntax.specs.Grammar.Expressions as E
use Rattle.ec_syntax.specs.Grammar.Expressions.{at_level, prefix_of}
use Rattle.ec_syntax.specs.Grammar.Language as L
use Rattle.ec_syntax.specs.Grammar.Language.{Language, span}
use Rattle.ec_syntax.specs.Grammar.State.{State, limits}
use Rattle.ec_syntax.specs.Grammar.Tokens as T
use Rattle.ec_syntax.specs.Grammar.Types as Y
use Rattle.ec_syntax.specs.Parts as P
use Rattle.ec_syntax.specs.Parts.{Role, Parts, one, ◌ahead_of◌, joined}
use Rattle.ec_syntax.specs.Parts.Role.{Plain, Calling}
use Rattle.ec_syntax.proofs.Folds.Expressions as tree
use Rattle.ec_syntax.proofs.Places.Placing.{Enters, entered, enters_behind, enters_maybe, closed_lays}
use Rattle.ec_syntax.proofs.Places.Rules.{Lays, lays_behind, given, reads_as, behind, firstly, made, either, never_lays, perhaps, turned}
use Rattle.ec_syntax.proofs.Places.Standing.{ahead_of_nothing, ahead_of_assoc, gives_self, gives_same}
use Rattle.ec_syntax.proofs.Places.Tokens.{word_inside, mark_inside, number_inside, name_inside, word_lays, sign_lays, name_lays, enters_operator, gives_one, type_lays, pointer_lays, bracketed_lays, bracketed_enters, Adds}
use Rattle.ec_syntax.proofs.Places.Operators.{layer, stands_there, plain_at, inner, expression_lays, holds, levels_add}
use Rattle.ec_syntax.proofs.Places.Calls.{call_expression_adds}

-- ---- allocations

-- (term "*")?
abbrev count_of : ℕ → Language Expr → Language (Option Expr)
count_of d l = L.maybe (L.◌>>=◌ (E.levels d 1 l) (λ e. L.◌>>◌ (T.sign d m.Star) (L.give e)))

-- (term "*")? "sizeof" "(" base "*"* ")"
abbrev amount : ℕ → Language Expr → Language (Option Expr × Ty)
amount d l =
    L.◌>>=◌ (count_of d l) (λ count. L.◌>>◌ (T.word d (codes "sizeof"))
    (L.◌>>=◌ (E.bracketed d (Y.type_with (suc d) (T.sign (suc d) m.Star))) (λ element. L.give (count, element))))

new_within : (to : Option Ty) (count : Option Expr) (ty : Ty) →
    (layer (v.New to count ty)).1 ≡ P.optional P.expression count
new_within to None ty = ap (λ z. z.1) (tree.single_fold P.of_kind P.of_place P.of_call P.of_expression to ty)
new_within to (Some e) ty = ap (λ z. z.1) (tree.counted_fold P.of_kind P.of_place P.of_call P.of_expression to e ty)

module _ {l : Language Expr} (h : Adds true l P.expression) (d : ℕ) where
  cast_enters : Enters (E.cast d) (λ _. Parts.nothing)
  cast_enters = bracketed_enters d (pointer_lays (suc d) (sign_lays m.Star))

  count_lays : Lays false Parts.nothing (count_of (suc d) l) (P.optional P.expression)
  count_lays =
      perhaps (λ e. gives_self) gives_self (firstly (levels_add h (suc d) 1 Parts.nothing) (λ e. behind (sign_lays m.Star) (λ _. given gives_self)))

  amount_lays : Lays false Parts.nothing (amount (suc d) l) (λ c. P.optional P.expression c.0)
  amount_lays = behind count_lays (λ count. behind (word_lays (codes "sizeof")) (λ _. made (λ ty. (count, ty)) (λ ty. gives_self) (bracketed_lays (suc d) (type_lays (suc (suc d)) (sign_lays m.Star)))))

  malloc_enters : Enters (E.malloc d l) (λ x. (layer x).1)
  malloc_enters = enters_maybe cast_enters
      (λ to. behind (word_lays (codes "malloc")) (λ _. made (λ c. v.New to c.0 c.1) (λ c. gives_same (sym (new_within to c.0 c.1))) (bracketed_lays {f = λ c. P.optional P.expression c.0} d amount_lays)))
      (entered (word_inside (codes "malloc")) (λ _. made (λ c. v.New None c.0 c.1) (λ c. gives_same (sym (new_within None c.0 c.1))) (bracketed_lays {f = λ c. P.optional P.expression c.0} d amount_lays)))

  -- ---- operands

  inside : Adds true (E.expr_of (suc d) l) P.expression
  inside = levels_add h (suc d) 10

  primary_adds : Adds true (E.primary d l) P.expression
  primary_adds before =
      either (expression_lays (entered number_inside (λ n. given (inner (v.Number n) (tree.number_fold P.of_kind P.of_place P.of_call P.of_expression n)))) before)
      (either (expression_lays (entered (word_inside (codes "NULL")) (λ _. given (inner v.Null (tree.null_fold P.of_kind P.of_place P.of_call P.of_expression)))) before)
      (either (expression_lays (entered name_inside (λ n. given (inner (v.Var n.text) (tree.var_fold P.of_kind P.of_place P.of_call P.of_expression n.text)))) before)
      (either (call_expression_adds inside d before)
      (either (expression_lays (enters_behind (bracketed_enters d (inside Parts.nothing)) (λ e. given (inner (v.Paren e) (tree.paren_fold P.of_kind P.of_place P.of_call P.of_expression e)))) before)
      (either (expression_lays malloc_enters before)
      (expression_lays (entered (word_inside (codes "valueof")) (λ _. made v.ValueOf (λ e. inner (v.ValueOf e) (tree.valueof_fold P.of_kind P.of_place P.of_call P.of_expression e)) (bracketed_lays d (inside Parts.nothing)))) before))))))

  -- "[" expr "]", "->" id and "." id
  abbrev index : Language Expr
  index = L.◌>>◌ (T.sign d m.OpenBracket) (L.◌>>=◌ (E.expr_of (suc d) l) (λ i. L.◌>>◌ (T.sign (suc d) m.CloseBracket) (L.give i)))

  abbrev field : Mark → Language Name
  field k = L.◌>>◌ (T.sign d k) (L.◌>>=◌ (T.name d) (λ f. L.give f))

  -- what an expression goes on with, up to its end
  abbrev closed : {A : Type 0} → Expr → (A → Span → Expr) → Language A → Language Expr
  closed e make p = L.◌>>=◌ p (λ a. L.◌>>=◌ (L.look (λ s. s.end)) (λ to. L.give (make a (span e.at.from to))))

  abbrev selections : Expr → Language Expr
  selections e = L.◌or◌ (closed e (λ i. E.expression (v.Index e i)) index)
      (L.◌or◌ (closed e (λ f. E.expression (v.Arrow e f.text)) (field m.Arrow)) (closed e (λ f. E.expression (v.Dot e f.text)) (field m.Dot)))

  selected_as : (e : Expr) (s : State) (b : Expr) (n : State) → E.selected d l e limits s b n →
      selections e limits s b n
  selected_as e s b n (x, m, inl (u, m₁, r₁, (i, m₂, r₂, (w, m₃, r₃, (ex, es)))), (to, m₄, e₄, (eb, en))) =
      inl (i, m, (u, m₁, r₁, (i, m₂, r₂, (w, m₃, r₃, (refl, es)))), (to, m₄, e₄, (eb ∙ ap (λ z. E.expression z (span e.at.from to)) ex, en)))
  selected_as e s b n (x, m, inr (inl (u, m₁, r₁, (f, m₂, r₂, (ex, es)))), (to, m₄, e₄, (eb, en))) =
      inr (inl (f, m, (u, m₁, r₁, (f, m₂, r₂, (refl, es))), (to, m₄, e₄, (eb ∙ ap (λ z. E.expression z (span e.at.from to)) ex, en))))
  selected_as e s b n (x, m, inr (inr (u, m₁, r₁, (f, m₂, r₂, (ex, es)))), (to, m₄, e₄, (eb, en))) =
      inr (inr (f, m, (u, m₁, r₁, (f, m₂, r₂, (refl, es))), (to, m₄, e₄, (eb ∙ ap (λ z. E.expression z (span e.at.from to)) ex, en))))

  module _ (before : Parts) (e : Expr) where
    closed_adds : {A : Type 0} {p : Language A} (behind : A → Parts) (make : A → Span → Expr) →
        ((a : A) (at : Span) → P.expression (make a at) ≡ one Plain at (P.expression e ahead_of behind a)) →
        Lays true (before ahead_of P.expression e) p (λ a. before ahead_of (P.expression e ahead_of behind a)) →
        Lays true (before ahead_of P.expression e) (closed e make p) (λ b. before ahead_of P.expression b)
    closed_adds {p = p} behind make k h =
        let x = layer e.kind in
        lays_behind (ap (λ z. before ahead_of z) (sym (stands_there e)))
        (closed_lays before x.0 e.at x.1 behind make (λ a to. gives_one before (k a (span e.at.from to) ∙ ap (λ z. one Plain (span e.at.from to) (z ahead_of behind a)) (stands_there e)))
        (subst (λ z. Lays true (before ahead_of z) p (λ a. before ahead_of (z ahead_of behind a))) (stands_there e) h))

    field_adds : (k : Mark) → Lays true (before ahead_of P.expression e) (field k)
        (λ f. before ahead_of (P.expression e ahead_of Parts.nothing))
    field_adds k = firstly (sign_lays k) (λ _. behind name_lays (λ f. given (gives_same (ap (λ z. before ahead_of z) (sym (ahead_of_nothing (P.expression e)))))))

    alone : (x : ExprKind) → layer x ≡ P.plainly (P.expression e) → (at : Span) →
        P.expression (E.expression x at) ≡ one Plain at (P.expression e ahead_of Parts.nothing)
    alone x k at = plain_at x k at ∙ ap (λ z. one Plain at z) (sym (ahead_of_nothing (P.expression e)))

    selected_adds : Lays true (before ahead_of P.expression e) (E.selected d l e) (λ b. before ahead_of P.expression b)
    selected_adds =
        reads_as (selections e) (selected_as e)
        (either (closed_adds P.expression (λ i. E.expression (v.Index e i)) (λ i at. plain_at (v.Index e i) (tree.index_fold P.of_kind P.of_place P.of_call P.of_expression e i) at)
        (firstly (sign_lays m.OpenBracket) (λ _. behind (inside (before ahead_of P.expression e)) (λ i. behind (sign_lays m.CloseBracket) (λ _. given (gives_same (ahead_of_assoc before (P.expression e) (P.expression i))))))))
        (either (closed_adds (λ _. Parts.nothing) (λ f. E.expression (v.Arrow e f.text)) (λ f at. alone (v.Arrow e f.text) (tree.arrow_fold P.of_kind P.of_place P.of_call P.of_expression e f.text) at) (field_adds m.Arrow))
        (closed_adds (λ _. Parts.nothing) (λ f. E.expression (v.Dot e f.text)) (λ f at. alone (v.Dot e f.text) (tree.dot_fold P.of_kind P.of_place P.of_call P.of_expression e f.text) at) (field_adds m.Dot))))

  postfix_adds : Adds true (E.postfix d l) P.expression
  postfix_adds before = firstly (primary_adds before) (λ a. turned {takes = true} {f = λ a. before ahead_of P.expression a} (λ a. selected_adds before a) a)

-- ---- all together

pub unary_adds : (nested d : ℕ) → Adds true (E.unary nested d) P.expression
unary_adds zero d before = never_lays
unary_adds (suc nested) d before =
    either (expression_lays (enters_operator prefix_of (λ make k. made make (λ e. inner (make e) (holds k.0 make k.1 e)) (unary_adds nested (suc d) Parts.nothing))) before)
    (either (expression_lays (entered (mark_inside m.And) (λ _. behind name_lays (λ n. given (inner (v.Address n.text) (tree.address_fold P.of_kind P.of_place P.of_call P.of_expression n.text))))) before)
    (postfix_adds (unary_adds nested (suc d)) d before))

pub expr_adds : (nested d : ℕ) → Adds true (E.expr nested d) P.expression
expr_adds nested d = levels_add (unary_adds nested d) d 10
