-- Folds over expressions, case by case.
use Rattle.std.proofs.Common.{◌≡◌, ℕ, ℤ, List, map, Option, Some, None}
use Rattle.ec_base.specs.declared.operator.BinOp.{BinOp}
use Rattle.ec_base.specs.declared.operator.UnOp.{UnOp}
use Rattle.ec_base.specs.declared.token.Span.{Span}
use Rattle.ec_syntax.specs.Grammar.Expressions as L
use Rattle.ec_syntax.specs.declared.expression.Call.{Call, fold-Call, roll-Call}
use Rattle.ec_syntax.specs.declared.expression.Expr.{Expr, fold-Expr}
use Rattle.ec_syntax.specs.declared.expression.ExprKind.{ExprKind, fold-ExprKind}
use Rattle.ec_syntax.specs.declared.expression.ExprKind.TheFolds.{the_lemmas as folds}
use Rattle.ec_syntax.specs.declared.expression.ExprKind.TheOpen.{ExprKind-F, Placement-F, Call-F, Expr-F}
use Rattle.ec_syntax.specs.declared.expression.ExprKind.TheVariants as v
use Rattle.ec_syntax.specs.declared.expression.Placement.{Placement, fold-Placement}
use Rattle.ec_syntax.specs.declared.expression.Placement.TheVariants as w
use Rattle.ec_syntax.specs.declared.name.Name.{Name}
use Rattle.ec_syntax.specs.declared.name.Ty.{Ty}

module _ {A B C D : Type 0} (k : ExprKind-F A B C D → A) (p : Placement-F A B C D → B) (c : Call-F A B C D → C) (e : Expr-F A B C D → D) where
  abbrev pub kinds : ExprKind → A
  kinds = fold-ExprKind A B C D k p c e

  abbrev pub exprs : Expr → D
  exprs = fold-Expr A B C D k p c e

  abbrev pub calls : Call → C
  calls = fold-Call A B C D k p c e

  abbrev pub places : Placement → B
  places = fold-Placement A B C D k p c e

  pub expr_fold : (x : ExprKind) (at : Span) → exprs (L.expression x at) ≡ e (record { kind = kinds x; at = at })
  expr_fold x at = search folds

  pub number_fold : (n : ℤ) → kinds (v.Number n) ≡ k (ExprKind-F.Number n)
  number_fold n = search folds

  pub null_fold : kinds v.Null ≡ k ExprKind-F.Null
  null_fold = search folds

  pub var_fold : (x : List ℕ) → kinds (v.Var x) ≡ k (ExprKind-F.Var x)
  var_fold x = search folds

  pub paren_fold : (a : Expr) → kinds (v.Paren a) ≡ k (ExprKind-F.Paren (exprs a))
  paren_fold a = search folds

  pub unary_fold : (o : UnOp) (a : Expr) → kinds (v.Unary o a) ≡ k (ExprKind-F.Unary o (exprs a))
  unary_fold o a = search folds

  pub binary_fold : (o : BinOp) (a : Expr) (b : Expr) → kinds (v.Binary o a b) ≡ k (ExprKind-F.Binary o (exprs a) (exprs b))
  binary_fold o a b = search folds

  pub and_fold : (a : Expr) (b : Expr) → kinds (v.And a b) ≡ k (ExprKind-F.And (exprs a) (exprs b))
  and_fold a b = search folds

  pub or_fold : (a : Expr) (b : Expr) → kinds (v.Or a b) ≡ k (ExprKind-F.Or (exprs a) (exprs b))
  or_fold a b = search folds

  pub deref_fold : (a : Expr) → kinds (v.Deref a) ≡ k (ExprKind-F.Deref (exprs a))
  deref_fold a = search folds

  pub index_fold : (a : Expr) (b : Expr) → kinds (v.Index a b) ≡ k (ExprKind-F.Index (exprs a) (exprs b))
  index_fold a b = search folds

  pub arrow_fold : (a : Expr) (x : List ℕ) → kinds (v.Arrow a x) ≡ k (ExprKind-F.Arrow (exprs a) x)
  arrow_fold a x = search folds

  pub dot_fold : (a : Expr) (x : List ℕ) → kinds (v.Dot a x) ≡ k (ExprKind-F.Dot (exprs a) x)
  dot_fold a x = search folds

  pub call_fold : (d : Call) → kinds (v.Call d) ≡ k (ExprKind-F.Call (calls d))
  call_fold d = search folds

  pub counted_fold : (to : Option Ty) (a : Expr) (ty : Ty) → kinds (v.New to (Some a) ty) ≡ k (ExprKind-F.New to (Some (exprs a)) ty)
  counted_fold to a ty = search folds

  pub single_fold : (to : Option Ty) (ty : Ty) → kinds (v.New to None ty) ≡ k (ExprKind-F.New to None ty)
  single_fold to ty = search folds

  pub valueof_fold : (a : Expr) → kinds (v.ValueOf a) ≡ k (ExprKind-F.ValueOf (exprs a))
  valueof_fold a = search folds

  pub address_fold : (x : List ℕ) → kinds (v.Address x) ≡ k (ExprKind-F.Address x)
  address_fold x = search folds

  pub call_of_fold : (n : Name) (es : List Expr) (q : Placement) (at : Span) → calls (roll-Call (record { name = n; args = es; place = q; at = at })) ≡ c (record { name = n; args = map exprs es; place = places q; at = at })
  call_of_fold n es q at = search folds

  pub here_fold : places w.Here ≡ p Placement-F.Here
  here_fold = search folds

  pub owner_fold : (a : Expr) → places (w.OwnerOf a) ≡ p (Placement-F.OwnerOf (exprs a))
  owner_fold a = search folds

  pub home_fold : places w.Home ≡ p Placement-F.Home
  home_fold = search folds

  pub node_fold : (a : Expr) → places (w.Node a) ≡ p (Placement-F.Node (exprs a))
  node_fold a = search folds

  pub anywhere_fold : places w.Anywhere ≡ p Placement-F.Anywhere
  anywhere_fold = search folds
