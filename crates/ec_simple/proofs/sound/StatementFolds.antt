-- Folds over statements, at trees that are rolled up from a layer: what judges them, what resolves them, and what tells
-- their variables and what they do.
use Rattle.std.proofs.Common.{◌≡◌, sym, subst, List}
use Rattle.ec_base.specs.declared.token.Span.{Span}
use Rattle.ec_calls.specs.Effects as doing
use Rattle.ec_calls.specs.Effects.{Doing}
use Rattle.ec_syntax.specs.declared.statement.Body.{Body, roll-Body}
use Rattle.ec_syntax.specs.declared.statement.Decl.{Decl}
use Rattle.ec_syntax.specs.declared.statement.Stmt.{Stmt, fold-Stmt}
use Rattle.ec_syntax.specs.declared.statement.StmtKind.{StmtKind, fold-StmtKind, roll-StmtKind}
use Rattle.ec_syntax.specs.declared.statement.StmtKind.TheFolds.{map-StmtKind, map-Body, map-Stmt, fold-roll-StmtKind, fold-roll-Body, fold-roll-Stmt}
use Rattle.ec_syntax.specs.declared.statement.StmtKind.TheOpen.{StmtKind-F, Body-F, Stmt-F}
use Rattle.ec_syntax.specs.declared.statement.StmtKind.TheViews.{roll-Stmt}
use Rattle.ec_types.specs.Meaning.Resolution as resolution
use Rattle.ec_types.specs.Meaning.Tree as t
use Rattle.ec_types.specs.Meaning.Tree.{Stmts}
use Rattle.ec_types.specs.Statements as typing
use Rattle.ec_types.specs.Statements.{There}

-- what is said of four things is said of four that are the same
pub of_four :
    {A B C D : Type 0} (R : A → B → C → D → Type 0) (a a' : A) (b b' : B) (c c' : C) (d d' : D) →
    a ≡ a' → b ≡ b' → c ≡ c' → d ≡ d' → R a' b' c' d' → R a b c d
of_four R a a' b b' c c' d d' p q r s h =
    subst (λ x. R x b c d) (sym p)
    (subst (λ x. R a' x c d) (sym q) (subst (λ x. R a' b' x d) (sym r) (subst (λ x. R a' b' c' x) (sym s) h)))

-- the variables that a statement declares
abbrev pub declared_statement : Stmt → List Decl
declared_statement =
    fold-Stmt (Span → List Decl) (List Decl) (List Decl)
    resolution.declared_by_kind resolution.declared_by_body resolution.declared_by_statement

-- ---- judged

abbrev pub judged_kind : StmtKind → Span → There
judged_kind =
    fold-StmtKind (Span → There) There There
    typing.of_kind typing.of_body typing.of_statement

abbrev pub kind_judged : StmtKind-F StmtKind Body Stmt → StmtKind-F (Span → There) There There
kind_judged y =
    map-StmtKind StmtKind Body Stmt (Span → There) There There
    judged_kind typing.body typing.statement y

pub rolled_kind_judged :
    (z : StmtKind-F StmtKind Body Stmt) → judged_kind (roll-StmtKind z) ≡ typing.of_kind (kind_judged z)
rolled_kind_judged z =
    fold-roll-StmtKind (Span → There) There There
    typing.of_kind typing.of_body typing.of_statement z

abbrev pub body_judged : Body-F StmtKind Body Stmt → Body-F (Span → There) There There
body_judged y =
    map-Body StmtKind Body Stmt (Span → There) There There
    judged_kind typing.body typing.statement y

pub rolled_body_judged :
    (z : Body-F StmtKind Body Stmt) → typing.body (roll-Body z) ≡ typing.of_body (body_judged z)
rolled_body_judged z =
    fold-roll-Body (Span → There) There There
    typing.of_kind typing.of_body typing.of_statement z

abbrev pub stmt_judged : Stmt-F StmtKind Body Stmt → Stmt-F (Span → There) There There
stmt_judged y =
    map-Stmt StmtKind Body Stmt (Span → There) There There
    judged_kind typing.body typing.statement y

pub rolled_stmt_judged :
    (z : Stmt-F StmtKind Body Stmt) → typing.statement (roll-Stmt z) ≡ typing.of_statement (stmt_judged z)
rolled_stmt_judged z =
    fold-roll-Stmt (Span → There) There There
    typing.of_kind typing.of_body typing.of_statement z

-- ---- resolved

module _ (s : resolution.Scope) where
  abbrev pub resolved_kind : StmtKind → Span → t.Stmt
  resolved_kind =
      fold-StmtKind (Span → t.Stmt) (List t.Decl × Stmts) t.Stmt
      (resolution.of_statement_kind s) (resolution.of_body s) (resolution.of_statement s)

  abbrev pub kind_resolved : StmtKind-F StmtKind Body Stmt → StmtKind-F (Span → t.Stmt) (List t.Decl × Stmts) t.Stmt
  kind_resolved y =
      map-StmtKind StmtKind Body Stmt (Span → t.Stmt) (List t.Decl × Stmts) t.Stmt
      resolved_kind (resolution.body s) (resolution.statement s) y

  pub rolled_kind_resolved :
      (z : StmtKind-F StmtKind Body Stmt) →
      resolved_kind (roll-StmtKind z) ≡ resolution.of_statement_kind s (kind_resolved z)
  rolled_kind_resolved z =
      fold-roll-StmtKind (Span → t.Stmt) (List t.Decl × Stmts) t.Stmt
      (resolution.of_statement_kind s) (resolution.of_body s) (resolution.of_statement s) z

  abbrev pub body_resolved : Body-F StmtKind Body Stmt → Body-F (Span → t.Stmt) (List t.Decl × Stmts) t.Stmt
  body_resolved y =
      map-Body StmtKind Body Stmt (Span → t.Stmt) (List t.Decl × Stmts) t.Stmt
      resolved_kind (resolution.body s) (resolution.statement s) y

  pub rolled_body_resolved :
      (z : Body-F StmtKind Body Stmt) → resolution.body s (roll-Body z) ≡ resolution.of_body s (body_resolved z)
  rolled_body_resolved z =
      fold-roll-Body (Span → t.Stmt) (List t.Decl × Stmts) t.Stmt
      (resolution.of_statement_kind s) (resolution.of_body s) (resolution.of_statement s) z

  abbrev pub stmt_resolved : Stmt-F StmtKind Body Stmt → Stmt-F (Span → t.Stmt) (List t.Decl × Stmts) t.Stmt
  stmt_resolved y =
      map-Stmt StmtKind Body Stmt (Span → t.Stmt) (List t.Decl × Stmts) t.Stmt
      resolved_kind (resolution.body s) (resolution.statement s) y

  pub rolled_stmt_resolved :
      (z : Stmt-F StmtKind Body Stmt) →
      resolution.statement s (roll-Stmt z) ≡ resolution.of_statement s (stmt_resolved z)
  rolled_stmt_resolved z =
      fold-roll-Stmt (Span → t.Stmt) (List t.Decl × Stmts) t.Stmt
      (resolution.of_statement_kind s) (resolution.of_body s) (resolution.of_statement s) z

-- ---- declared

abbrev pub declared_kind : StmtKind → Span → List Decl
declared_kind =
    fold-StmtKind (Span → List Decl) (List Decl) (List Decl)
    resolution.declared_by_kind resolution.declared_by_body resolution.declared_by_statement

abbrev pub kind_declared : StmtKind-F StmtKind Body Stmt → StmtKind-F (Span → List Decl) (List Decl) (List Decl)
kind_declared y =
    map-StmtKind StmtKind Body Stmt (Span → List Decl) (List Decl) (List Decl)
    declared_kind resolution.declared_in declared_statement y

pub rolled_kind_declared :
    (z : StmtKind-F StmtKind Body Stmt) →
    declared_kind (roll-StmtKind z) ≡ resolution.declared_by_kind (kind_declared z)
rolled_kind_declared z =
    fold-roll-StmtKind (Span → List Decl) (List Decl) (List Decl)
    resolution.declared_by_kind resolution.declared_by_body resolution.declared_by_statement z

abbrev pub body_declared : Body-F StmtKind Body Stmt → Body-F (Span → List Decl) (List Decl) (List Decl)
body_declared y =
    map-Body StmtKind Body Stmt (Span → List Decl) (List Decl) (List Decl)
    declared_kind resolution.declared_in declared_statement y

pub rolled_body_declared :
    (z : Body-F StmtKind Body Stmt) →
    resolution.declared_in (roll-Body z) ≡ resolution.declared_by_body (body_declared z)
rolled_body_declared z =
    fold-roll-Body (Span → List Decl) (List Decl) (List Decl)
    resolution.declared_by_kind resolution.declared_by_body resolution.declared_by_statement z

abbrev pub stmt_declared : Stmt-F StmtKind Body Stmt → Stmt-F (Span → List Decl) (List Decl) (List Decl)
stmt_declared y =
    map-Stmt StmtKind Body Stmt (Span → List Decl) (List Decl) (List Decl)
    declared_kind resolution.declared_in declared_statement y

pub rolled_stmt_declared :
    (z : Stmt-F StmtKind Body Stmt) →
    declared_statement (roll-Stmt z) ≡ resolution.declared_by_statement (stmt_declared z)
rolled_stmt_declared z =
    fold-roll-Stmt (Span → List Decl) (List Decl) (List Decl)
    resolution.declared_by_kind resolution.declared_by_body resolution.declared_by_statement z

-- ---- done

abbrev pub doing_kind : StmtKind → Span → Doing
doing_kind =
    fold-StmtKind (Span → Doing) Doing Doing
    doing.of_statement_kind doing.of_body doing.of_statement

abbrev pub kind_doing : StmtKind-F StmtKind Body Stmt → StmtKind-F (Span → Doing) Doing Doing
kind_doing y =
    map-StmtKind StmtKind Body Stmt (Span → Doing) Doing Doing
    doing_kind doing.doing doing.statement_doing y

pub rolled_kind_doing :
    (z : StmtKind-F StmtKind Body Stmt) → doing_kind (roll-StmtKind z) ≡ doing.of_statement_kind (kind_doing z)
rolled_kind_doing z =
    fold-roll-StmtKind (Span → Doing) Doing Doing
    doing.of_statement_kind doing.of_body doing.of_statement z

abbrev pub body_doing : Body-F StmtKind Body Stmt → Body-F (Span → Doing) Doing Doing
body_doing y =
    map-Body StmtKind Body Stmt (Span → Doing) Doing Doing
    doing_kind doing.doing doing.statement_doing y

pub rolled_body_doing :
    (z : Body-F StmtKind Body Stmt) → doing.doing (roll-Body z) ≡ doing.of_body (body_doing z)
rolled_body_doing z =
    fold-roll-Body (Span → Doing) Doing Doing
    doing.of_statement_kind doing.of_body doing.of_statement z

abbrev pub stmt_doing : Stmt-F StmtKind Body Stmt → Stmt-F (Span → Doing) Doing Doing
stmt_doing y =
    map-Stmt StmtKind Body Stmt (Span → Doing) Doing Doing
    doing_kind doing.doing doing.statement_doing y

pub rolled_stmt_doing :
    (z : Stmt-F StmtKind Body Stmt) → doing.statement_doing (roll-Stmt z) ≡ doing.of_statement (stmt_doing z)
rolled_stmt_doing z =
    fold-roll-Stmt (Span → Doing) Doing Doing
    doing.of_statement_kind doing.of_body doing.of_statement z
