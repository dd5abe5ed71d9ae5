-- Folds over expressions, at trees that are rolled up from a layer: what judges them, and what resolves them.
use Rattle.std.proofs.Common.{◌≡◌, sym, subst}
use Rattle.ec_base.specs.declared.token.Span.{Span}
use Rattle.ec_syntax.specs.declared.expression.Call.{Call, roll-Call}
use Rattle.ec_syntax.specs.declared.expression.Expr.{Expr}
use Rattle.ec_syntax.specs.declared.expression.ExprKind.{ExprKind, fold-ExprKind, roll-ExprKind}
use Rattle.ec_syntax.specs.declared.expression.ExprKind.TheFolds.{map-ExprKind, map-Placement, map-Call, map-Expr, fold-roll-ExprKind, fold-roll-Placement, fold-roll-Call, fold-roll-Expr}
use Rattle.ec_syntax.specs.declared.expression.ExprKind.TheOpen.{ExprKind-F, Placement-F, Call-F, Expr-F}
use Rattle.ec_syntax.specs.declared.expression.ExprKind.TheViews.{roll-Placement, roll-Expr}
use Rattle.ec_syntax.specs.declared.expression.Placement.{Placement}
use Rattle.ec_types.specs.Context.{Context}
use Rattle.ec_types.specs.declared.value_type.ExprType.{ExprType}
use Rattle.ec_types.specs.Expressions as typing
use Rattle.ec_types.specs.Expressions.{Placed}
use Rattle.ec_types.specs.Judged.{Judged}
use Rattle.ec_types.specs.Meaning.Resolution as resolution
use Rattle.ec_types.specs.Meaning.Resolution.{Resolved, Calling}
use Rattle.ec_types.specs.Meaning.Tree.{Placing}
use Rattle.ec_types.specs.Parts.{Part}

-- what is said of two things is said of two that are the same
pub of_both :
    {A B : Type 0} (R : A → B → Type 0) (a a' : A) (b b' : B) → a ≡ a' → b ≡ b' → R a' b' → R a b
of_both R a a' b b' p q h = subst (λ x. R x b) (sym p) (subst (λ y. R a' y) (sym q) h)

-- ---- judged

module _ (x : Context) where
  abbrev pub judged_kind : ExprKind → Span → Part
  judged_kind =
      fold-ExprKind (Span → Part) Placed (Judged ExprType) Part
      (typing.of_kind x) (typing.of_place x) (typing.of_call x) (typing.of_expression x)

  abbrev pub kind_parts :
      ExprKind-F ExprKind Placement Call Expr → ExprKind-F (Span → Part) Placed (Judged ExprType) Part
  kind_parts y =
      map-ExprKind ExprKind Placement Call Expr (Span → Part) Placed (Judged ExprType) Part
      judged_kind (typing.placed x) (typing.judged_call x) (typing.judged x) y

  pub rolled_kind_parts :
      (z : ExprKind-F ExprKind Placement Call Expr) → judged_kind (roll-ExprKind z) ≡ typing.of_kind x (kind_parts z)
  rolled_kind_parts z =
      fold-roll-ExprKind (Span → Part) Placed (Judged ExprType) Part
      (typing.of_kind x) (typing.of_place x) (typing.of_call x) (typing.of_expression x) z

  abbrev pub place_parts :
      Placement-F ExprKind Placement Call Expr → Placement-F (Span → Part) Placed (Judged ExprType) Part
  place_parts y =
      map-Placement ExprKind Placement Call Expr (Span → Part) Placed (Judged ExprType) Part
      judged_kind (typing.placed x) (typing.judged_call x) (typing.judged x) y

  pub rolled_place_parts :
      (z : Placement-F ExprKind Placement Call Expr) →
      typing.placed x (roll-Placement z) ≡ typing.of_place x (place_parts z)
  rolled_place_parts z =
      fold-roll-Placement (Span → Part) Placed (Judged ExprType) Part
      (typing.of_kind x) (typing.of_place x) (typing.of_call x) (typing.of_expression x) z

  abbrev pub call_parts : Call-F ExprKind Placement Call Expr → Call-F (Span → Part) Placed (Judged ExprType) Part
  call_parts y =
      map-Call ExprKind Placement Call Expr (Span → Part) Placed (Judged ExprType) Part
      judged_kind (typing.placed x) (typing.judged_call x) (typing.judged x) y

  pub rolled_call_parts :
      (z : Call-F ExprKind Placement Call Expr) → typing.judged_call x (roll-Call z) ≡ typing.of_call x (call_parts z)
  rolled_call_parts z =
      fold-roll-Call (Span → Part) Placed (Judged ExprType) Part
      (typing.of_kind x) (typing.of_place x) (typing.of_call x) (typing.of_expression x) z

  abbrev pub expr_parts : Expr-F ExprKind Placement Call Expr → Expr-F (Span → Part) Placed (Judged ExprType) Part
  expr_parts y =
      map-Expr ExprKind Placement Call Expr (Span → Part) Placed (Judged ExprType) Part
      judged_kind (typing.placed x) (typing.judged_call x) (typing.judged x) y

  pub rolled_expr_parts :
      (z : Expr-F ExprKind Placement Call Expr) → typing.judged x (roll-Expr z) ≡ typing.of_expression x (expr_parts z)
  rolled_expr_parts z =
      fold-roll-Expr (Span → Part) Placed (Judged ExprType) Part
      (typing.of_kind x) (typing.of_place x) (typing.of_call x) (typing.of_expression x) z

-- ---- resolved

module _ (s : resolution.Scope) where
  abbrev pub resolved_kind : ExprKind → Span → Resolved
  resolved_kind =
      fold-ExprKind (Span → Resolved) Placing Calling Resolved
      (resolution.of_kind s) (resolution.of_place s) (resolution.of_call s) (resolution.of_expression s)

  abbrev pub kind_values :
      ExprKind-F ExprKind Placement Call Expr → ExprKind-F (Span → Resolved) Placing Calling Resolved
  kind_values y =
      map-ExprKind ExprKind Placement Call Expr (Span → Resolved) Placing Calling Resolved
      resolved_kind (resolution.placed s) (resolution.resolved_call s) (resolution.resolved s) y

  pub rolled_kind_values :
      (z : ExprKind-F ExprKind Placement Call Expr) →
      resolved_kind (roll-ExprKind z) ≡ resolution.of_kind s (kind_values z)
  rolled_kind_values z =
      fold-roll-ExprKind (Span → Resolved) Placing Calling Resolved
      (resolution.of_kind s) (resolution.of_place s) (resolution.of_call s) (resolution.of_expression s) z

  abbrev pub place_values :
      Placement-F ExprKind Placement Call Expr → Placement-F (Span → Resolved) Placing Calling Resolved
  place_values y =
      map-Placement ExprKind Placement Call Expr (Span → Resolved) Placing Calling Resolved
      resolved_kind (resolution.placed s) (resolution.resolved_call s) (resolution.resolved s) y

  pub rolled_place_values :
      (z : Placement-F ExprKind Placement Call Expr) →
      resolution.placed s (roll-Placement z) ≡ resolution.of_place s (place_values z)
  rolled_place_values z =
      fold-roll-Placement (Span → Resolved) Placing Calling Resolved
      (resolution.of_kind s) (resolution.of_place s) (resolution.of_call s) (resolution.of_expression s) z

  abbrev pub call_values : Call-F ExprKind Placement Call Expr → Call-F (Span → Resolved) Placing Calling Resolved
  call_values y =
      map-Call ExprKind Placement Call Expr (Span → Resolved) Placing Calling Resolved
      resolved_kind (resolution.placed s) (resolution.resolved_call s) (resolution.resolved s) y

  pub rolled_call_values :
      (z : Call-F ExprKind Placement Call Expr) →
      resolution.resolved_call s (roll-Call z) ≡ resolution.of_call s (call_values z)
  rolled_call_values z =
      fold-roll-Call (Span → Resolved) Placing Calling Resolved
      (resolution.of_kind s) (resolution.of_place s) (resolution.of_call s) (resolution.of_expression s) z

  abbrev pub expr_values : Expr-F ExprKind Placement Call Expr → Expr-F (Span → Resolved) Placing Calling Resolved
  expr_values y =
      map-Expr ExprKind Placement Call Expr (Span → Resolved) Placing Calling Resolved
      resolved_kind (resolution.placed s) (resolution.resolved_call s) (resolution.resolved s) y

  pub rolled_expr_values :
      (z : Expr-F ExprKind Placement Call Expr) →
      resolution.resolved s (roll-Expr z) ≡ resolution.of_expression s (expr_values z)
  rolled_expr_values z =
      fold-roll-Expr (Span → Resolved) Placing Calling Resolved
      (resolution.of_kind s) (resolution.of_place s) (resolution.of_call s) (resolution.of_expression s) z
