-- What resolved trees weigh, and whether they keep to counts: lists of statements, and statements of each kind.
use Rattle.std.proofs.Common.{◌≡◌, refl, ◌∙◌, ap, ℕ, suc, ◌+◌, ◌≤◌, true, List, [], ◌∷◌, ◌++◌, map, length, Option, Some, None, arith}
use Rattle.std.proofs.lemmas.Bool.{and_parts, and_from, le-leb}
use Rattle.std.proofs.lemmas.List.{length-map, map-append}
use Rattle.ec_base.specs.declared.limits.TheConstants.{MAX_BRANCHES, MAX_PRINT_ARGUMENTS, MAX_STRING}
use Rattle.ec_base.specs.declared.token.Span.{Span}
use Rattle.ec_simple.specs.Counts.{few_arguments, branches_in, stmt_keeps, stmts_keep, size, sizes}
use Rattle.ec_syntax.proofs.Folds.Statements as fold
use Rattle.ec_syntax.specs.declared.expression.Call.{Call}
use Rattle.ec_syntax.specs.declared.expression.Expr.{Expr}
use Rattle.ec_syntax.specs.declared.statement.Assign.{Assign}
use Rattle.ec_syntax.specs.declared.statement.Body.{Body, roll-Body}
use Rattle.ec_syntax.specs.declared.statement.Decl.{Decl}
use Rattle.ec_syntax.specs.declared.statement.Stmt.{Stmt}
use Rattle.ec_syntax.specs.declared.statement.StmtKind.{StmtKind}
use Rattle.ec_syntax.specs.declared.statement.StmtKind.TheOpen.{StmtKind-F}
use Rattle.ec_syntax.specs.declared.statement.StmtKind.TheVariants as v
use Rattle.ec_syntax.specs.Grammar.Statements as S
use Rattle.ec_types.specs.Meaning.Resolution as resolution
use Rattle.ec_types.specs.Meaning.Resolution.{Scope}
use Rattle.ec_types.specs.Meaning.Tree as t
use Rattle.ec_simple.proofs.sound.StatementFolds.{resolved_kind}

-- ---- lists

sizes_behind : (xs : List t.Stmt) (y : t.Stmt) → sizes (t.stmts (xs ++ y ∷ [])) ≡ sizes (t.stmts xs) + size y
sizes_behind [] y = omega arith
sizes_behind (x ∷ xs) y = let h = sizes_behind xs y in omega (arith, h)

keep_behind :
    (xs : List t.Stmt) (y : t.Stmt) → stmts_keep (t.stmts xs) ≡ true → stmt_keeps y ≡ true →
    stmts_keep (t.stmts (xs ++ y ∷ [])) ≡ true
keep_behind [] y h k = and_from (stmt_keeps y) true k refl
keep_behind (x ∷ xs) y h k =
    let parts = and_parts (stmt_keeps x) (stmts_keep (t.stmts xs)) h in
    and_from (stmt_keeps x) (stmts_keep (t.stmts (xs ++ y ∷ []))) parts.0 (keep_behind xs y parts.1 k)

branches_are : (xs : List t.Stmt) → branches_in (t.stmts xs) ≡ length xs
branches_are [] = refl
branches_are (x ∷ xs) = ap suc (branches_are xs)

arguments_are : (xs : List t.Expr) → few_arguments (t.exprs xs) ≡ length xs
arguments_are [] = refl
arguments_are (x ∷ xs) = ap suc (arguments_are xs)

module _ (c : Scope) where
  abbrev pub tree : Stmt → t.Stmt
  tree = resolution.statement c

  abbrev pub trees : List Stmt → t.Stmts
  trees ss = t.stmts (map tree ss)

  abbrev pub inside : Body → t.Stmts
  inside b = (resolution.body c b).1

  abbrev pub kind : StmtKind → Span → t.Stmt
  kind = resolved_kind c

  pub sizes_more : (ss : List Stmt) (x : Stmt) → sizes (trees (ss ++ x ∷ [])) ≡ sizes (trees ss) + size (tree x)
  sizes_more ss x = ap (λ l. sizes (t.stmts l)) (map-append tree ss (x ∷ [])) ∙ sizes_behind (map tree ss) (tree x)

  pub keep_more :
      (ss : List Stmt) (x : Stmt) → stmts_keep (trees ss) ≡ true → stmt_keeps (tree x) ≡ true →
      stmts_keep (trees (ss ++ x ∷ [])) ≡ true
  keep_more ss x h k =
      ap (λ l. stmts_keep (t.stmts l)) (map-append tree ss (x ∷ [])) ∙ keep_behind (map tree ss) (tree x) h k

  -- ---- statements that hold no others

  abbrev pub Light : StmtKind → Type 0
  Light x = (at : Span) → (size (kind x at) ≡ 1) × (stmt_keeps (kind x at) ≡ true)

  abbrev Layer : Type 0
  Layer = StmtKind-F (Span → t.Stmt) (List t.Decl × t.Stmts) t.Stmt

  light :
      (x : StmtKind) (y : Layer) → kind x ≡ resolution.of_statement_kind c y →
      ((at : Span) →
      (size (resolution.of_statement_kind c y at) ≡ 1) × (stmt_keeps (resolution.of_statement_kind c y at) ≡ true)) →
      Light x
  light x y e h at = (ap (λ f. size (f at)) e ∙ (h at).0, ap (λ f. stmt_keeps (f at)) e ∙ (h at).1)

  pub empty_light : Light v.Empty
  empty_light =
      light v.Empty StmtKind-F.Empty
      (fold.empty_fold (resolution.of_statement_kind c) (resolution.of_body c) (resolution.of_statement c))
      (λ at. (refl, refl))

  pub set_light : (a : Assign) → Light (v.Set a)
  set_light a =
      light (v.Set a) (StmtKind-F.Set a)
      (fold.set_fold (resolution.of_statement_kind c) (resolution.of_body c) (resolution.of_statement c) a)
      (λ at. (refl, refl))

  pub eval_light : (x : Call) → Light (v.Eval x)
  eval_light x =
      light (v.Eval x) (StmtKind-F.Eval x)
      (fold.eval_fold (resolution.of_statement_kind c) (resolution.of_body c) (resolution.of_statement c) x)
      (λ at. (refl, refl))

  pub write_to_light : (a b : Expr) → Light (v.WriteTo a b)
  write_to_light a b =
      light (v.WriteTo a b) (StmtKind-F.WriteTo a b)
      (fold.write_to_fold (resolution.of_statement_kind c) (resolution.of_body c) (resolution.of_statement c) a b)
      (λ at. (refl, refl))

  pub add_to_light : (a b : Expr) → Light (v.AddTo a b)
  add_to_light a b =
      light (v.AddTo a b) (StmtKind-F.AddTo a b)
      (fold.add_to_fold (resolution.of_statement_kind c) (resolution.of_body c) (resolution.of_statement c) a b)
      (λ at. (refl, refl))

  pub return_light : (e : Option Expr) → Light (v.Return e)
  return_light e =
      light (v.Return e) (StmtKind-F.Return e)
      (fold.return_fold (resolution.of_statement_kind c) (resolution.of_body c) (resolution.of_statement c) e)
      (λ at. (refl, refl))

  few_values : (es : List Expr) → few_arguments (resolution.value_list c es) ≡ length es
  few_values es =
      arguments_are (map resolution.value (map (resolution.resolved c) es))
      ∙ length-map (map (resolution.resolved c) es) resolution.value
      ∙ length-map es (resolution.resolved c)

  pub print_light :
      (s : List ℕ) (es : List Expr) → length s ≤ MAX_STRING → length es ≤ MAX_PRINT_ARGUMENTS → Light (v.Print s es)
  print_light s es h k =
      let n = few_values es in
      let few : few_arguments (resolution.value_list c es) ≤ MAX_PRINT_ARGUMENTS = omega (arith, n, k) in
      light (v.Print s es) (StmtKind-F.Print s es)
      (fold.print_fold (resolution.of_statement_kind c) (resolution.of_body c) (resolution.of_statement c) s es)
      (λ at. (
        refl,
        and_from _ _ (le-leb (length s) MAX_STRING h)
            (le-leb (few_arguments (resolution.value_list c es)) MAX_PRINT_ARGUMENTS few),
      ))

  -- ---- statements that hold others

  pub stmt_is : (x : StmtKind) (at : Span) → tree (S.statement x at) ≡ kind x at
  stmt_is = fold.stmt_fold (resolution.of_statement_kind c) (resolution.of_body c) (resolution.of_statement c)

  pub body_is : (ds : List Decl) (ss : List Stmt) → inside (roll-Body (record { decls = ds; stmts = ss })) ≡ trees ss
  body_is ds ss =
      ap (λ b. b.1)
      (fold.body_fold (resolution.of_statement_kind c) (resolution.of_body c) (resolution.of_statement c) ds ss)

  -- what a statement weighs, and that it keeps to counts
  abbrev pub Is : StmtKind → ℕ → Type 0
  Is x n = (at : Span) → (size (kind x at) ≡ n) × (stmt_keeps (kind x at) ≡ true)

  pub block_is : (b : Body) → stmts_keep (inside b) ≡ true → Is (v.Body b) (suc (sizes (inside b)))
  block_is b h at =
      let e = fold.block_fold (resolution.of_statement_kind c) (resolution.of_body c) (resolution.of_statement c) b in
      (ap (λ f. size (f at)) e, ap (λ f. stmt_keeps (f at)) e ∙ h)

  pub par_is :
      (ss : List Stmt) → length ss ≤ MAX_BRANCHES → stmts_keep (trees ss) ≡ true →
      Is (v.Par ss) (suc (sizes (trees ss)))
  par_is ss h k at =
      let e = fold.par_fold (resolution.of_statement_kind c) (resolution.of_body c) (resolution.of_statement c) ss in
      let n : branches_in (trees ss) ≡ length ss = branches_are (map tree ss) ∙ length-map ss tree in
      let few : branches_in (trees ss) ≤ MAX_BRANCHES = omega (arith, n, h) in (
        ap (λ f. size (f at)) e,
        ap (λ f. stmt_keeps (f at)) e ∙ and_from _ _ (le-leb (branches_in (trees ss)) MAX_BRANCHES few) k,
      )

  pub if_else_is :
      (x : Expr) (a b : Stmt) → stmt_keeps (tree a) ≡ true → stmt_keeps (tree b) ≡ true →
      Is (v.If x a (Some b)) (suc (size (tree a) + size (tree b)))
  if_else_is x a b h k at =
      let e =
      fold.if_else_fold (resolution.of_statement_kind c) (resolution.of_body c) (resolution.of_statement c) x a b in (
        ap (λ f. size (f at)) e,
        ap (λ f. stmt_keeps (f at)) e ∙ and_from (stmt_keeps (tree a)) (stmt_keeps (tree b)) h k,
      )

  pub only_if_is :
      (x : Expr) (a : Stmt) → stmt_keeps (tree a) ≡ true → Is (v.If x a None) (suc (size (tree a) + 0))
  only_if_is x a h at =
      let e =
      fold.only_if_fold (resolution.of_statement_kind c) (resolution.of_body c) (resolution.of_statement c) x a in
      (ap (λ f. size (f at)) e, ap (λ f. stmt_keeps (f at)) e ∙ and_from (stmt_keeps (tree a)) true h refl)

  -- what is made of one statement that it holds
  abbrev pub Holding : (Stmt → StmtKind) → Type 0
  Holding make = (b : Stmt) → stmt_keeps (tree b) ≡ true → Is (make b) (suc (size (tree b)))

  pub while_holds : (x : Expr) → Holding (v.While x)
  while_holds x b h at =
      let e =
      fold.while_fold (resolution.of_statement_kind c) (resolution.of_body c) (resolution.of_statement c) x b in
      (ap (λ f. size (f at)) e, ap (λ f. stmt_keeps (f at)) e ∙ h)

  pub for_holds : (i : Option Assign) (x : Option Expr) (n : Option Assign) → Holding (λ b. v.For i x n b)
  for_holds i x n b h at =
      let e =
      fold.for_fold (resolution.of_statement_kind c) (resolution.of_body c) (resolution.of_statement c) i x n b in
      (ap (λ f. size (f at)) e, ap (λ f. stmt_keeps (f at)) e ∙ h)

  pub forall_holds : (i : Assign) (x : Expr) (n : Assign) → Holding (λ b. v.Forall i x n b)
  forall_holds i x n b h at =
      let e =
      fold.forall_fold (resolution.of_statement_kind c) (resolution.of_body c) (resolution.of_statement c) i x n b in
      (ap (λ f. size (f at)) e, ap (λ f. stmt_keeps (f at)) e ∙ h)
