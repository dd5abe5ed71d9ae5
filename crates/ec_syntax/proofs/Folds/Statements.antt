-- Folds over statements, case by case.
use Rattle.std.proofs.Common.{◌≡◌, ℕ, List, map, Option, Some, None}
use Rattle.ec_base.specs.declared.token.Span.{Span}
use Rattle.ec_syntax.specs.Grammar.Statements as L
use Rattle.ec_syntax.specs.declared.expression.Call.{Call}
use Rattle.ec_syntax.specs.declared.expression.Expr.{Expr}
use Rattle.ec_syntax.specs.declared.statement.Assign.{Assign}
use Rattle.ec_syntax.specs.declared.statement.Body.{Body, fold-Body, roll-Body}
use Rattle.ec_syntax.specs.declared.statement.Decl.{Decl}
use Rattle.ec_syntax.specs.declared.statement.Stmt.{Stmt, fold-Stmt}
use Rattle.ec_syntax.specs.declared.statement.StmtKind.{StmtKind, fold-StmtKind}
use Rattle.ec_syntax.specs.declared.statement.StmtKind.TheFolds.{the_lemmas as folds}
use Rattle.ec_syntax.specs.declared.statement.StmtKind.TheOpen.{StmtKind-F, Body-F, Stmt-F}
use Rattle.ec_syntax.specs.declared.statement.StmtKind.TheVariants as v

module _ {A B C : Type 0} (k : StmtKind-F A B C → A) (b : Body-F A B C → B) (c : Stmt-F A B C → C) where
  abbrev pub kinds : StmtKind → A
  kinds = fold-StmtKind A B C k b c

  abbrev pub bodies : Body → B
  bodies = fold-Body A B C k b c

  abbrev pub stmts : Stmt → C
  stmts = fold-Stmt A B C k b c

  pub stmt_fold : (x : StmtKind) (at : Span) → stmts (L.statement x at) ≡ c (record { kind = kinds x; at = at })
  stmt_fold x at = search folds

  pub body_fold : (ds : List Decl) (ss : List Stmt) → bodies (roll-Body (record { decls = ds; stmts = ss })) ≡ b (record { decls = ds; stmts = map stmts ss })
  body_fold ds ss = search folds

  pub empty_fold : kinds v.Empty ≡ k StmtKind-F.Empty
  empty_fold = search folds

  pub block_fold : (x : Body) → kinds (v.Body x) ≡ k (StmtKind-F.Body (bodies x))
  block_fold x = search folds

  pub par_fold : (ss : List Stmt) → kinds (v.Par ss) ≡ k (StmtKind-F.Par (map stmts ss))
  par_fold ss = search folds

  pub if_else_fold : (x : Expr) (y : Stmt) (z : Stmt) → kinds (v.If x y (Some z)) ≡ k (StmtKind-F.If x (stmts y) (Some (stmts z)))
  if_else_fold x y z = search folds

  pub only_if_fold : (x : Expr) (y : Stmt) → kinds (v.If x y None) ≡ k (StmtKind-F.If x (stmts y) None)
  only_if_fold x y = search folds

  pub while_fold : (x : Expr) (s : Stmt) → kinds (v.While x s) ≡ k (StmtKind-F.While x (stmts s))
  while_fold x s = search folds

  pub for_fold : (i : Option Assign) (x : Option Expr) (e : Option Assign) (s : Stmt) → kinds (v.For i x e s) ≡ k (StmtKind-F.For i x e (stmts s))
  for_fold i x e s = search folds

  pub forall_fold : (i : Assign) (x : Expr) (e : Assign) (s : Stmt) → kinds (v.Forall i x e s) ≡ k (StmtKind-F.Forall i x e (stmts s))
  forall_fold i x e s = search folds

  pub set_fold : (a : Assign) → kinds (v.Set a) ≡ k (StmtKind-F.Set a)
  set_fold a = search folds

  pub eval_fold : (x : Call) → kinds (v.Eval x) ≡ k (StmtKind-F.Eval x)
  eval_fold x = search folds

  pub write_to_fold : (x : Expr) (y : Expr) → kinds (v.WriteTo x y) ≡ k (StmtKind-F.WriteTo x y)
  write_to_fold x y = search folds

  pub add_to_fold : (x : Expr) (y : Expr) → kinds (v.AddTo x y) ≡ k (StmtKind-F.AddTo x y)
  add_to_fold x y = search folds

  pub print_fold : (x : List ℕ) (es : List Expr) → kinds (v.Print x es) ≡ k (StmtKind-F.Print x es)
  print_fold x es = search folds

  pub return_fold : (x : Option Expr) → kinds (v.Return x) ≡ k (StmtKind-F.Return x)
  return_fold x = search folds
