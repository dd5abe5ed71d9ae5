-- What is said of expressions, and their images without places, case by case.
use Rattle.std.proofs.Common.{Bool, ◌≡◌, refl, sym, ◌∙◌, ap, ap₂, ℕ, List, map, Option, Some, None}
use Rattle.ec_base.specs.declared.operator.BinOp.{BinOp}
use Rattle.ec_base.specs.declared.operator.UnOp.{UnOp}
use Rattle.ec_base.specs.declared.token.Span.{Span}
use Rattle.ec_syntax.specs.Grammar.Expressions as L
use Rattle.ec_syntax.specs.Grammar.Language as L'
use Rattle.ec_syntax.specs.Grammar.Language.{Language}
use Rattle.ec_syntax.specs.Grammar.State.{State, limits}
use Rattle.ec_syntax.specs.declared.expression.Expr.{Expr, roll-Expr}
use Rattle.ec_syntax.specs.declared.expression.ExprKind.{ExprKind, roll-ExprKind}
use Rattle.ec_syntax.specs.declared.expression.ExprKind.TheOpen.{ExprKind-F, Placement-F}
use Rattle.ec_syntax.specs.declared.expression.ExprKind.TheVariants as v
use Rattle.ec_syntax.specs.declared.expression.Call.{Call, roll-Call}
use Rattle.ec_syntax.specs.declared.expression.Placement.{Placement, roll-Placement}
use Rattle.ec_syntax.specs.declared.expression.Placement.TheVariants as w
use Rattle.ec_syntax.specs.declared.name.Name.{Name}
use Rattle.ec_syntax.specs.declared.name.Ty.{Ty}
use Rattle.ec_print.specs.Phrase.{Phrase, tokens, ◌then◌}
use Rattle.ec_print.specs.Sentence as S
use Rattle.ec_print.specs.Unplaced as U
use Rattle.ec_print.proofs.Again.Readings.{as_kinds}
use Rattle.ec_print.proofs.Again.Rules.{Repeats, settled, placed_again, without_place}
use Rattle.ec_syntax.proofs.Folds.Expressions as tree

-- the phrase of what an expression is
abbrev pub phrase : ExprKind → Phrase
phrase = tree.kinds S.of_kind S.of_place S.of_call S.of_expression

pub said : (x : ExprKind) (at : Span) → S.expression (L.expression x at) ≡ phrase x
said = tree.expr_fold S.of_kind S.of_place S.of_call S.of_expression

pub image_of : (x : ExprKind) (at : Span) → U.expression (L.expression x at) ≡ roll-Expr (record { kind = U.kind x; at = U.nowhere })
image_of = tree.expr_fold U.of_kind roll-Placement U.of_call U.of_expression

pub seen : (x y : ExprKind) (at bt : Span) → U.kind x ≡ U.kind y → U.expression (L.expression x at) ≡ U.expression (L.expression y bt)
seen x y at bt h = image_of x at ∙ ap (λ z. roll-Expr (record { kind = z; at = U.nowhere })) h ∙ sym (image_of y bt)

-- an expression at a place, read again
pub expression_again : {tight : Bool} (p p' : Language ExprKind) → ((s : State) (x : ExprKind) (n : State) → p limits s x n → Repeats tight phrase U.kind p' s x n) →
    (s : State) (a : Expr) (n : State) → L'.placed L.expression p limits s a n → Repeats tight S.expression U.expression (L'.placed L.expression p') s a n
expression_again {tight = tight} p p' H s a n r =
    let (x, at, q, e) = without_place L.expression p s a n r in
    settled S.expression U.expression e refl
    (as_kinds (ap tokens (sym (said x at))) (placed_again L.expression (λ y bt k. seen y x bt at k) (H s x n q)))

-- ---- images of layers

module _ (a' a : Expr) (h : U.expression a' ≡ U.expression a) where
  pub paren_alike : U.kind (v.Paren a') ≡ U.kind (v.Paren a)
  paren_alike = tree.paren_fold U.of_kind roll-Placement U.of_call U.of_expression a' ∙ ap (λ z. roll-ExprKind (ExprKind-F.Paren z)) h ∙ sym (tree.paren_fold U.of_kind roll-Placement U.of_call U.of_expression a)

  pub unary_alike : (o : UnOp) → U.kind (v.Unary o a') ≡ U.kind (v.Unary o a)
  unary_alike o = tree.unary_fold U.of_kind roll-Placement U.of_call U.of_expression o a' ∙ ap (λ z. roll-ExprKind (ExprKind-F.Unary o z)) h ∙ sym (tree.unary_fold U.of_kind roll-Placement U.of_call U.of_expression o a)

  pub deref_alike : U.kind (v.Deref a') ≡ U.kind (v.Deref a)
  deref_alike = tree.deref_fold U.of_kind roll-Placement U.of_call U.of_expression a' ∙ ap (λ z. roll-ExprKind (ExprKind-F.Deref z)) h ∙ sym (tree.deref_fold U.of_kind roll-Placement U.of_call U.of_expression a)

  pub valueof_alike : U.kind (v.ValueOf a') ≡ U.kind (v.ValueOf a)
  valueof_alike = tree.valueof_fold U.of_kind roll-Placement U.of_call U.of_expression a' ∙ ap (λ z. roll-ExprKind (ExprKind-F.ValueOf z)) h ∙ sym (tree.valueof_fold U.of_kind roll-Placement U.of_call U.of_expression a)

  pub arrow_alike : (x : List ℕ) → U.kind (v.Arrow a' x) ≡ U.kind (v.Arrow a x)
  arrow_alike x = tree.arrow_fold U.of_kind roll-Placement U.of_call U.of_expression a' x ∙ ap (λ z. roll-ExprKind (ExprKind-F.Arrow z x)) h ∙ sym (tree.arrow_fold U.of_kind roll-Placement U.of_call U.of_expression a x)

  pub dot_alike : (x : List ℕ) → U.kind (v.Dot a' x) ≡ U.kind (v.Dot a x)
  dot_alike x = tree.dot_fold U.of_kind roll-Placement U.of_call U.of_expression a' x ∙ ap (λ z. roll-ExprKind (ExprKind-F.Dot z x)) h ∙ sym (tree.dot_fold U.of_kind roll-Placement U.of_call U.of_expression a x)

  pub owner_alike : U.placement (w.OwnerOf a') ≡ U.placement (w.OwnerOf a)
  owner_alike = tree.owner_fold U.of_kind roll-Placement U.of_call U.of_expression a' ∙ ap (λ z. roll-Placement (Placement-F.OwnerOf z)) h ∙ sym (tree.owner_fold U.of_kind roll-Placement U.of_call U.of_expression a)

  pub node_alike : U.placement (w.Node a') ≡ U.placement (w.Node a)
  node_alike = tree.node_fold U.of_kind roll-Placement U.of_call U.of_expression a' ∙ ap (λ z. roll-Placement (Placement-F.Node z)) h ∙ sym (tree.node_fold U.of_kind roll-Placement U.of_call U.of_expression a)

  module _ (b' b : Expr) (g : U.expression b' ≡ U.expression b) where
    pub binary_alike : (o : BinOp) → U.kind (v.Binary o a' b') ≡ U.kind (v.Binary o a b)
    binary_alike o = tree.binary_fold U.of_kind roll-Placement U.of_call U.of_expression o a' b' ∙ ap₂ (λ y z. roll-ExprKind (ExprKind-F.Binary o y z)) h g ∙ sym (tree.binary_fold U.of_kind roll-Placement U.of_call U.of_expression o a b)

    pub and_alike : U.kind (v.And a' b') ≡ U.kind (v.And a b)
    and_alike = tree.and_fold U.of_kind roll-Placement U.of_call U.of_expression a' b' ∙ ap₂ (λ y z. roll-ExprKind (ExprKind-F.And y z)) h g ∙ sym (tree.and_fold U.of_kind roll-Placement U.of_call U.of_expression a b)

    pub or_alike : U.kind (v.Or a' b') ≡ U.kind (v.Or a b)
    or_alike = tree.or_fold U.of_kind roll-Placement U.of_call U.of_expression a' b' ∙ ap₂ (λ y z. roll-ExprKind (ExprKind-F.Or y z)) h g ∙ sym (tree.or_fold U.of_kind roll-Placement U.of_call U.of_expression a b)

    pub index_alike : U.kind (v.Index a' b') ≡ U.kind (v.Index a b)
    index_alike = tree.index_fold U.of_kind roll-Placement U.of_call U.of_expression a' b' ∙ ap₂ (λ y z. roll-ExprKind (ExprKind-F.Index y z)) h g ∙ sym (tree.index_fold U.of_kind roll-Placement U.of_call U.of_expression a b)

pub call_alike : (c c' : Call) → U.call c' ≡ U.call c → U.kind (v.Call c') ≡ U.kind (v.Call c)
call_alike c c' h = tree.call_fold U.of_kind roll-Placement U.of_call U.of_expression c' ∙ ap (λ z. roll-ExprKind (ExprKind-F.Call z)) h ∙ sym (tree.call_fold U.of_kind roll-Placement U.of_call U.of_expression c)

pub new_image : (to : Option Ty) (count : Option Expr) (ty : Ty) → U.kind (v.New to count ty) ≡ v.New (U.optional U.type to) (U.optional U.expression count) (U.type ty)
new_image to (Some a) ty = tree.counted_fold U.of_kind roll-Placement U.of_call U.of_expression to a ty
new_image to None ty = tree.single_fold U.of_kind roll-Placement U.of_call U.of_expression to ty

pub called_image : (n : Name) (es : List Expr) (q : Placement) (at : Span) → U.call (roll-Call (record { name = n; args = es; place = q; at = at })) ≡ roll-Call (record { name = U.name n; args = map U.expression es; place = U.placement q; at = U.nowhere })
called_image = tree.call_of_fold U.of_kind roll-Placement U.of_call U.of_expression

pub called_said : (n : Name) (es : List Expr) (q : Placement) (at : Span) → S.call (roll-Call (record { name = n; args = es; place = q; at = at })) ≡ (S.word n.text then S.bracketed (S.listed (map S.expression es)) then S.placement q)
called_said = tree.call_of_fold S.of_kind S.of_place S.of_call S.of_expression
