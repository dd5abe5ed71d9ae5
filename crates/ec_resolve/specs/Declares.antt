-- The variables that a statement declares, in source order and at any depth.
use Rattle.std.specs.Prelude.{List}
use Rattle.ec_base.specs.declared.token.Span.{Span}
use Rattle.ec_syntax.specs.declared.statement.Decl.{Decl}
use Rattle.ec_syntax.specs.declared.statement.Stmt.{Stmt, fold-Stmt}
use Rattle.ec_types.specs.Meaning.Resolution.{declared_by_kind, declared_by_body, declared_by_statement}

abbrev pub declared_by : Stmt → List Decl
declared_by = fold-Stmt (Span → List Decl) (List Decl) (List Decl) declared_by_kind declared_by_body declared_by_statement
