-- The resolved trees of right statements, by one induction over the statement.
use Rattle.std.proofs.Common.{◌≡◌, refl, sym, ◌∙◌, ap, ap₂, subst, ℕ, true, List, [], ◌∷◌, ◌++◌, map, Option, Some, None}
use Rattle.std.proofs.lemmas.List.{map-append}
use Rattle.ec_base.specs.declared.text.Text.{Text}
use Rattle.ec_base.specs.declared.token.Span.{Span}
use Rattle.ec_calls.specs.Effects as doing
use Rattle.ec_calls.specs.Effects.{Doing, ◌with◌, joined, all_of, of_declaration}
use Rattle.ec_simple.specs.Expressions.{Scope}
use Rattle.ec_simple.specs.Uses.{declared, declares, else_declares, all_declare}
use Rattle.ec_syntax.specs.declared.expression.Expr.{Expr}
use Rattle.ec_syntax.specs.declared.item.Func.{Func}
use Rattle.ec_syntax.specs.declared.item.StructDef.{StructDef}
use Rattle.ec_syntax.specs.declared.statement.Body.{Body, roll-Body}
use Rattle.ec_syntax.specs.declared.statement.Decl.{Decl}
use Rattle.ec_syntax.specs.declared.statement.Stmt.{Stmt}
use Rattle.ec_syntax.specs.declared.statement.StmtKind.{StmtKind, roll-StmtKind}
use Rattle.ec_syntax.specs.declared.statement.StmtKind.TheFolds.{ind-Body, map-StmtKind, map-Body, map-Stmt}
use Rattle.ec_syntax.specs.declared.statement.StmtKind.TheOpen.{StmtKind-F, Body-F, Stmt-F}
use Rattle.ec_syntax.specs.declared.statement.StmtKind.TheViews.{roll-Stmt}
use Rattle.ec_types.specs.Assignments.{assigned, condition}
use Rattle.ec_types.specs.declared.value_type.ValueType.{ValueType}
use Rattle.ec_types.specs.Declarations.{is_result}
use Rattle.ec_types.specs.Judged.{fine, ◌also◌}
use Rattle.ec_types.specs.Meaning.Resolution as resolution
use Rattle.ec_types.specs.Meaning.Tree as t
use Rattle.ec_types.specs.Meaning.Tree.{Stmts, stmts}
use Rattle.ec_types.specs.Statements as typing
use Rattle.ec_types.specs.Statements.{There}
use Rattle.ec_simple.proofs.sound.Declarations.{declared_is}
use Rattle.ec_simple.proofs.sound.Expressions.{Program, resolving}
use Rattle.ec_simple.proofs.sound.StatementLayers.{Shows, ElseShows, AllShow, BodyShows, of_empty, no_else, of_set, of_eval, of_write, of_add, of_print, of_return, of_if, of_while, of_for, of_forall, of_par, of_body, none_shown, more_shown}
use Rattle.ec_simple.proofs.sound.Numbers.{number}
use Rattle.ec_simple.proofs.sound.StatementFolds.{of_four, declared_statement, judged_kind, resolved_kind, declared_kind, doing_kind, kind_judged, body_judged, stmt_judged, kind_resolved, body_resolved, stmt_resolved, kind_declared, body_declared, stmt_declared, kind_doing, body_doing, stmt_doing, rolled_kind_judged, rolled_body_judged, rolled_stmt_judged, rolled_kind_resolved, rolled_body_resolved, rolled_stmt_resolved, rolled_kind_declared, rolled_body_declared, rolled_stmt_declared, rolled_kind_doing, rolled_body_doing, rolled_stmt_doing}
use Rattle.ec_simple.proofs.sound.Variables.{name_of}

abbrev pub numbers : List Decl → List Decl → List ℕ
numbers vs ds = map (λ d. number name_of vs (name_of d)) ds

module _ (ss : List StructDef) (fs : List Func) (vs : List Decl) (c : Scope) (program : Program ss fs vs c)
    (prints : Text → Option Span) (result : ValueType) (right : is_result result ≡ true) where
  abbrev s : resolution.Scope
  s = resolving ss fs vs

  -- a statement as it is judged, as it became, and what it declares, as variables and by names
  record Fact (j : There) (q : t.Stmt) (ds : List Decl) (n : Doing) : Type 0 where
    shown : Shows ss fs vs c program prints result j q ds
    declares : declares q ≡ numbers vs ds
    names : n.variables ≡ map (λ d. d.name) ds

  record AllFact (js : List There) (q : Stmts) (ds : List Decl) (n : Doing) : Type 0 where
    shown : AllShow ss fs vs c program prints result js q ds
    declares : all_declare q ≡ numbers vs ds
    names : n.variables ≡ map (λ d. d.name) ds

  pub record BodyFact (j : There) (b : List t.Decl × Stmts) (ds : List Decl) (n : Doing) : Type 0 where
    pub shown : BodyShows ss fs vs c program prints result j b ds
    pub declares : map declared b.0 ++ all_declare b.1 ≡ numbers vs ds
    pub names : n.variables ≡ map (λ d. d.name) ds

  -- ---- what is shown of each part

  abbrev Kind : StmtKind → Type 0
  Kind k = (at : Span) → Fact (judged_kind k at) (resolved_kind s k at) (declared_kind k at) (doing_kind k at)

  abbrev Between : Body → Type 0
  Between b = BodyFact (typing.body b) (resolution.body s b) (resolution.declared_in b) (doing.doing b)

  abbrev Whole : Stmt → Type 0
  Whole x = Fact (typing.statement x) (resolution.statement s x) (declared_statement x) (doing.statement_doing x)

  -- ---- layers of children of which it is known

  abbrev SuchKind : Type 0
  SuchKind = (k : StmtKind) × Kind k

  abbrev SuchBody : Type 0
  SuchBody = (b : Body) × Between b

  abbrev SuchStmt : Type 0
  SuchStmt = (x : Stmt) × Whole x

  abbrev kind_trees : StmtKind-F SuchKind SuchBody SuchStmt → StmtKind-F StmtKind Body Stmt
  kind_trees y = map-StmtKind SuchKind SuchBody SuchStmt StmtKind Body Stmt (λ e. e.0) (λ e. e.0) (λ e. e.0) y

  abbrev body_trees : Body-F SuchKind SuchBody SuchStmt → Body-F StmtKind Body Stmt
  body_trees y = map-Body SuchKind SuchBody SuchStmt StmtKind Body Stmt (λ e. e.0) (λ e. e.0) (λ e. e.0) y

  abbrev stmt_trees : Stmt-F SuchKind SuchBody SuchStmt → Stmt-F StmtKind Body Stmt
  stmt_trees y = map-Stmt SuchKind SuchBody SuchStmt StmtKind Body Stmt (λ e. e.0) (λ e. e.0) (λ e. e.0) y

  -- ---- lists

  abbrev trees : List SuchStmt → List Stmt
  trees xs = map (λ e. e.0) xs

  AllOf : List SuchStmt → Type 0
  AllOf xs =
      AllFact (map typing.statement (trees xs)) (stmts (map (resolution.statement s) (trees xs)))
      (joined (map declared_statement (trees xs))) (all_of (map doing.statement_doing (trees xs)))

  all_facts : (xs : List SuchStmt) → AllOf xs
  unfolding AllOf
  all_facts [] = record { shown = none_shown ss fs vs c program prints result; declares = refl; names = refl }
  all_facts (x ∷ xs) =
      let rest = all_facts xs in
      let ds = declared_statement x.0 in
      let es = joined (map declared_statement (trees xs)) in
      record {
        shown =
            more_shown ss fs vs c program prints result (typing.statement x.0) (map typing.statement (trees xs))
            (resolution.statement s x.0)
            (stmts (map (resolution.statement s) (trees xs))) ds es x.1.shown rest.shown;
        declares =
            ap₂ (λ a b. a ++ b) x.1.declares rest.declares ∙ sym
            (map-append (λ d. number name_of vs (name_of d)) ds es);
        names = ap₂ (λ a b. a ++ b) x.1.names rest.names ∙ sym (map-append (λ d. d.name) ds es);
      }

  -- ---- the layers

  leaf :
      (j : There) (q : t.Stmt) (n : Doing) → Shows ss fs vs c program prints result j q [] → declares q ≡ [] →
      n.variables ≡ [] → Fact j q [] n
  leaf j q n shown d v = record { shown = shown; declares = d; names = v }

  if_layer :
      (at : Span) (e : Expr) (j : There) (q : t.Stmt) (ds : List Decl) (m : Doing) (o : Option There) (z : t.Else)
      (es : List Decl) (n : Doing) →
      Fact j q ds m → ElseShows ss fs vs c program prints result o z es → else_declares z ≡ numbers vs es →
      n.variables ≡ map (λ d. d.name) es →
      Fact (λ x. condition x at e also j x also typing.otherwise o x) (t.If (resolution.valued_as s e) q z) (ds ++ es)
      (doing.only (doing.effects e) with m with n)
  if_layer at e j q ds m o z es n a b d v = record {
    shown = of_if ss fs vs c program prints result at e j q ds o z es a.shown b;
    declares = ap₂ (λ k l. k ++ l) a.declares d ∙ sym (map-append (λ x. number name_of vs (name_of x)) ds es);
    names = ap₂ (λ k l. k ++ l) a.names v ∙ sym (map-append (λ x. x.name) ds es);
  }

  kind_layer :
      (y : StmtKind-F SuchKind SuchBody SuchStmt) (at : Span) →
      Fact (typing.of_kind (kind_judged (kind_trees y)) at)
      (resolution.of_statement_kind s (kind_resolved s (kind_trees y)) at)
      (resolution.declared_by_kind (kind_declared (kind_trees y)) at)
      (doing.of_statement_kind (kind_doing (kind_trees y)) at)
  unfolding AllOf
  kind_layer StmtKind-F.Empty at =
      leaf (λ x. fine) t.Skip doing.nothing (of_empty ss fs vs c program prints result) refl refl
  kind_layer (StmtKind-F.Body b) at = record { shown = b.1.shown; declares = b.1.declares; names = b.1.names }
  kind_layer (StmtKind-F.Par xs) at =
      let all = all_facts xs in
      record {
        shown =
            of_par ss fs vs c program prints result at (map typing.statement (trees xs))
            (stmts (map (resolution.statement s) (trees xs)))
            (joined (map declared_statement (trees xs))) all.shown;
        declares = all.declares;
        names = all.names;
      }
  kind_layer (StmtKind-F.If e a None) at =
      if_layer at e (typing.statement a.0) (resolution.statement s a.0) (declared_statement a.0)
      (doing.statement_doing a.0) None t.NoElse [] doing.nothing
      a.1 (no_else ss fs vs c program prints result) refl refl
  kind_layer (StmtKind-F.If e a (Some b)) at =
      if_layer at e (typing.statement a.0) (resolution.statement s a.0) (declared_statement a.0)
      (doing.statement_doing a.0)
      (Some (typing.statement b.0)) (t.Otherwise (resolution.statement s b.0)) (declared_statement b.0)
      (doing.statement_doing b.0)
      a.1 b.1.shown b.1.declares b.1.names
  kind_layer (StmtKind-F.While e a) at = record {
    shown =
        of_while ss fs vs c program prints result at e (typing.statement a.0) (resolution.statement s a.0)
        (declared_statement a.0) a.1.shown;
    declares = a.1.declares;
    names = a.1.names;
  }
  kind_layer (StmtKind-F.For i e n a) at = record {
    shown =
        of_for ss fs vs c program prints result at i e n (typing.statement a.0) (resolution.statement s a.0)
        (declared_statement a.0) a.1.shown;
    declares = a.1.declares;
    names = a.1.names;
  }
  kind_layer (StmtKind-F.Forall i e n a) at = record {
    shown =
        of_forall ss fs vs c program prints result at i e n (typing.statement a.0) (resolution.statement s a.0)
        (declared_statement a.0) a.1.shown;
    declares = a.1.declares;
    names = a.1.names;
  }
  kind_layer (StmtKind-F.Set a) at =
      leaf (λ x. assigned x at a) (t.Set (resolution.assignment s a)) (doing.only (doing.assign_effects a))
      (of_set ss fs vs c program prints result at a) refl refl
  kind_layer (StmtKind-F.Eval k) at =
      leaf (λ x. typing.evaluated x k) (t.Eval (resolution.resolved_call s k).0) (doing.only (doing.call_effects k))
      (of_eval ss fs vs c program prints result k) refl refl
  kind_layer (StmtKind-F.WriteTo a b) at =
      leaf (λ x. typing.sends x at a b) (t.WriteTo at (resolution.valued_as s a) (resolution.valued_as s b))
      (doing.only (doing.effects a ++ doing.effects b)) (of_write ss fs vs c program prints result at a b) refl refl
  kind_layer (StmtKind-F.AddTo a b) at =
      leaf (λ x. typing.sends x at a b) (t.AddTo at (resolution.valued_as s a) (resolution.valued_as s b))
      (doing.only (doing.effects a ++ doing.effects b)) (of_add ss fs vs c program prints result at a b) refl refl
  kind_layer (StmtKind-F.Print string es) at =
      leaf (λ x. typing.prints x at string es) (t.Print string (resolution.value_list s es))
      (record { effects = joined (map doing.effects es); prints = at ∷ []; variables = [] })
      (of_print ss fs vs c program prints result at string es) refl refl
  kind_layer (StmtKind-F.Return e) at =
      leaf (λ x. typing.returns x at e) (t.Return (resolution.initial s e))
      (doing.only (doing.of_option doing.effects e))
      (of_return ss fs vs c program prints result right at e) refl refl

  declared_numbers : (ds : List Decl) → map declared (map (resolution.declaration s) ds) ≡ numbers vs ds
  declared_numbers [] = refl
  declared_numbers (d ∷ ds) = ap₂ (λ n l. n ∷ l) (declared_is s d) (declared_numbers ds)

  declared_names : (ds : List Decl) → (all_of (map of_declaration ds)).variables ≡ map (λ d. d.name) ds
  declared_names [] = refl
  declared_names (d ∷ ds) = ap (λ l. d.name ∷ l) (declared_names ds)

  body_layer :
      (y : Body-F SuchKind SuchBody SuchStmt) →
      BodyFact (typing.of_body (body_judged (body_trees y))) (resolution.of_body s (body_resolved s (body_trees y)))
      (resolution.declared_by_body (body_declared (body_trees y))) (doing.of_body (body_doing (body_trees y)))
  unfolding AllOf
  body_layer y =
      let all = all_facts y.stmts in
      let es = joined (map declared_statement (trees y.stmts)) in
      record {
        shown =
            of_body ss fs vs c program prints result y.decls (map typing.statement (trees y.stmts))
            (stmts (map (resolution.statement s) (trees y.stmts))) es all.shown;
        declares =
            ap₂ (λ a b. a ++ b) (declared_numbers y.decls) all.declares
            ∙ sym (map-append (λ d. number name_of vs (name_of d)) y.decls es);
        names = ap₂ (λ a b. a ++ b) (declared_names y.decls) all.names ∙ sym (map-append (λ d. d.name) y.decls es);
      }

  -- ---- the layers rolled into trees

  abbrev KindLayer : StmtKind-F StmtKind Body Stmt → Type 0
  KindLayer z =
      (at : Span) →
      Fact (typing.of_kind (kind_judged z) at) (resolution.of_statement_kind s (kind_resolved s z) at)
      (resolution.declared_by_kind (kind_declared z) at) (doing.of_statement_kind (kind_doing z) at)

  rolled_kind : (z : StmtKind-F StmtKind Body Stmt) → KindLayer z → Kind (roll-StmtKind z)
  rolled_kind z h =
      of_four (λ j q d n. (at : Span) → Fact (j at) (q at) (d at) (n at))
      (judged_kind (roll-StmtKind z)) (typing.of_kind (kind_judged z))
      (resolved_kind s (roll-StmtKind z)) (resolution.of_statement_kind s (kind_resolved s z))
      (declared_kind (roll-StmtKind z)) (resolution.declared_by_kind (kind_declared z))
      (doing_kind (roll-StmtKind z)) (doing.of_statement_kind (kind_doing z))
      (rolled_kind_judged z) (rolled_kind_resolved s z) (rolled_kind_declared z) (rolled_kind_doing z) h

  abbrev BodyLayer : Body-F StmtKind Body Stmt → Type 0
  BodyLayer z =
      BodyFact (typing.of_body (body_judged z)) (resolution.of_body s (body_resolved s z))
      (resolution.declared_by_body (body_declared z)) (doing.of_body (body_doing z))

  rolled_body : (z : Body-F StmtKind Body Stmt) → BodyLayer z → Between (roll-Body z)
  rolled_body z h =
      of_four BodyFact
      (typing.body (roll-Body z)) (typing.of_body (body_judged z))
      (resolution.body s (roll-Body z)) (resolution.of_body s (body_resolved s z))
      (resolution.declared_in (roll-Body z)) (resolution.declared_by_body (body_declared z))
      (doing.doing (roll-Body z)) (doing.of_body (body_doing z))
      (rolled_body_judged z) (rolled_body_resolved s z) (rolled_body_declared z) (rolled_body_doing z) h

  abbrev StmtLayer : Stmt-F StmtKind Body Stmt → Type 0
  StmtLayer z =
      Fact (typing.of_statement (stmt_judged z)) (resolution.of_statement s (stmt_resolved s z))
      (resolution.declared_by_statement (stmt_declared z)) (doing.of_statement (stmt_doing z))

  rolled_stmt : (z : Stmt-F StmtKind Body Stmt) → StmtLayer z → Whole (roll-Stmt z)
  rolled_stmt z h =
      of_four Fact
      (typing.statement (roll-Stmt z)) (typing.of_statement (stmt_judged z))
      (resolution.statement s (roll-Stmt z)) (resolution.of_statement s (stmt_resolved s z))
      (declared_statement (roll-Stmt z)) (resolution.declared_by_statement (stmt_declared z))
      (doing.statement_doing (roll-Stmt z)) (doing.of_statement (stmt_doing z))
      (rolled_stmt_judged z) (rolled_stmt_resolved s z) (rolled_stmt_declared z) (rolled_stmt_doing z) h

  pub body_fact : (b : Body) → BodyFact (typing.body b) (resolution.body s b) (resolution.declared_in b) (doing.doing b)
  body_fact =
      ind-Body Kind Between Whole
      (λ z y is. subst (λ w. Kind (roll-StmtKind w)) is (rolled_kind (kind_trees y) (kind_layer y)))
      (λ z y is. subst (λ w. Between (roll-Body w)) is (rolled_body (body_trees y) (body_layer y)))
      (λ z y is. subst (λ w. Whole (roll-Stmt w)) is (rolled_stmt (stmt_trees y) (y.kind.1 y.at)))
