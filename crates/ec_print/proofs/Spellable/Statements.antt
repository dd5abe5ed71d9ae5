-- Declarations and statements: what is read of them is spellable.
use Rattle.std.proofs.Common.{refl, ℕ, zero, suc, List, [], ◌∷◌, ◌++◌, map, length, codes, pos, Some}
use Rattle.ec_base.specs.declared.operator.BinOp.{BinOp}
use Rattle.ec_base.specs.declared.operator.BinOp.TheVariants.{Add, Sub}
use Rattle.ec_syntax.specs.Grammar.Expressions as E
use Rattle.ec_syntax.specs.Grammar.Language as L
use Rattle.ec_syntax.specs.Grammar.Language.{Language}
use Rattle.ec_syntax.specs.Grammar.Statements as Z
use Rattle.ec_syntax.specs.Grammar.Statements.Form.{Braced, Bare}
use Rattle.ec_syntax.specs.Grammar.Tokens.{is_word}
use Rattle.ec_syntax.specs.Grammar.Types as Y
use Rattle.ec_syntax.specs.declared.expression.Expr.{Expr}
use Rattle.ec_syntax.specs.declared.expression.ExprKind.TheVariants.{Number, Var, Binary}
use Rattle.ec_syntax.specs.declared.name.Base.{Base}
use Rattle.ec_syntax.specs.declared.name.Mode.{Mode}
use Rattle.ec_syntax.specs.declared.name.Name.{Name}
use Rattle.ec_syntax.specs.declared.quantity.Quantity.TheVariants.{Arguments, Branches}
use Rattle.ec_syntax.specs.declared.statement.Assign.{Assign}
use Rattle.ec_syntax.specs.declared.statement.Body.{roll-Body}
use Rattle.ec_syntax.specs.declared.statement.Decl.{Decl}
use Rattle.ec_syntax.specs.declared.statement.Stmt.{Stmt}
use Rattle.ec_syntax.specs.declared.statement.StmtKind.{StmtKind}
use Rattle.ec_syntax.specs.declared.statement.StmtKind.TheVariants as v
use Rattle.ec_print.specs.Sentence as S
use Rattle.ec_print.proofs.Again.Assignments.{var_said, one_said}
use Rattle.ec_print.proofs.Again.Folds.{said as expression_said}
use Rattle.ec_print.proofs.Again.Simple.{phrase, said}
use Rattle.ec_syntax.proofs.Folds.Statements as tree
use Rattle.ec_syntax.proofs.Folds.Expressions as expression_tree
use Rattle.ec_print.proofs.Spellable.Rules.{Spellable, AllSpellable, spellable_as, one_more, further_spellable, Yields, given, behind, made, either, never_yields, perhaps, part_yields, kth_yields, lacks_yields, placed_yields, turned, token_yields}
use Rattle.ec_print.proofs.Spellable.Tokens.{Named, string_yields, some_name_yields, value_base_yields, mode_yields, stars_spellable, stars_yield, bracketed_yields, commas_yield, sequence_yields}
use Rattle.ec_print.proofs.Spellable.Expressions.{Fine, call_yields, unary_yields, expr_yields}

-- ---- declarations

module _ (d : ℕ) {l : Language Expr} (h : Yields l Fine) where
  declarator_yields : (how : Mode) (b : Base) → Spellable (S.mode how) → Spellable (S.base b) → Yields (Z.declarator d l how b) (λ x. Spellable (S.declaration x))
  declarator_yields how b k g =
      behind (stars_yield token_yields 0) (λ n _. behind some_name_yields (λ x w.
      made (λ init. let decl : Decl = record { name = x; mode = how; ty = Y.typed b n; init = init } in decl) (λ init i. ((k, ((g, stars_spellable n), w)), (i, refl)))
      (perhaps {good' = λ init. Spellable (S.optional S.initialiser init)} (λ e i. (refl, i)) tt (behind token_yields (λ _ _. part_yields h)))))

  declaration_yields : (before : List Decl) → AllSpellable S.declaration before → Yields (Z.declaration d l before) (AllSpellable S.declaration)
  declaration_yields before all =
      behind (mode_yields d) (λ how k. behind (value_base_yields d) (λ b g. behind (declarator_yields how b k g) (λ first f.
      behind (commas_yield S.declaration (λ _. declarator_yields how b k g) d (before ++ first ∷ []) (one_more S.declaration before first all f)) (λ ds w. behind token_yields (λ _ _. given w)))))

-- ---- assignments

step_spellable : (o : BinOp) (x : Name) → Named x → Spellable (S.assignment (Z.stepped o x))
step_spellable o x h =
    let var = E.expression (Var x.text) x.at in
    let one = E.expression (Number (pos 1)) x.at in
    let named : Fine var = spellable_as (var_said x.text x.at) h in
    let sum : Fine (E.expression (Binary o var one) x.at) =
    spellable_as (expression_said (Binary o var one) x.at) (spellable_as (expression_tree.binary_fold S.of_kind S.of_place S.of_call S.of_expression o var one) (named, (refl, spellable_as (one_said x.at) refl))) in
    (named, (refl, sum))

assignment_yields : (nested d : ℕ) → Yields (Z.assignment nested d) (λ a. Spellable (S.assignment a))
assignment_yields nested d =
    either (behind (unary_yields nested d) (λ x g. behind token_yields (λ _ _. made (λ y. let a : Assign = record { left = x; right = y } in a) (λ y k. (g, (refl, k))) (expr_yields nested d))))
    (either (behind some_name_yields (λ x k. behind token_yields (λ _ _. given (step_spellable Add x k))))
    (behind some_name_yields (λ x k. behind token_yields (λ _ _. given (step_spellable Sub x k)))))

-- ---- simple statements

abbrev pub Fit : Stmt → Type 0
Fit s = Spellable (S.statement s)

-- a statement at its place
statement_yields : {p : Language StmtKind} → Yields p (λ x. Spellable (phrase x)) → Yields (L.placed Z.statement p) Fit
statement_yields h = placed_yields Z.statement (λ x at k. spellable_as (said x at) k) h

module _ {d : ℕ} {p : Language StmtKind} (h : Yields p (λ x. Spellable (phrase x))) where
  ended_yields : Yields (Z.ended d p) Fit
  ended_yields = statement_yields (behind h (λ x k. behind token_yields (λ _ _. given k)))

  closed_yields : Yields (Z.closed d p) Fit
  closed_yields = behind (statement_yields h) (λ s k. behind token_yields (λ _ _. given k))

module _ (nested d : ℕ) {l : Language Expr} (h : Yields l Fine) where
  pair_yields : Yields (Z.pair (suc d) l) (λ p. Fine p.0 × Fine p.1)
  pair_yields = behind h (λ a k. behind token_yields (λ _ _. made (λ b. (a, b)) (λ b g. (k, g)) h))

  printed_yields : Yields (Z.printed (suc d) l) (λ x. Spellable (phrase x))
  printed_yields =
      behind string_yields (λ w k.
      made (v.Print w)
      (λ es g. spellable_as (tree.print_fold S.of_statement_kind S.of_body S.of_statement w es) (refl, ((refl, ((k, further_spellable (map S.expression es) g), refl)), refl)))
      (commas_yield S.expression (λ es. kth_yields Arguments (suc (length es)) h) (suc d) [] tt))

  simple_yields : Yields (Z.simple nested d l) Fit
  simple_yields =
      either (ended_yields (given (spellable_as (tree.empty_fold S.of_statement_kind S.of_body S.of_statement) refl)))
      (either (ended_yields (made v.Set (λ a k. spellable_as (tree.set_fold S.of_statement_kind S.of_body S.of_statement a) (k, refl)) (part_yields (assignment_yields nested d))))
      (either (ended_yields (made v.Eval (λ c k. spellable_as (tree.eval_fold S.of_statement_kind S.of_body S.of_statement c) (k, refl)) (part_yields (call_yields h d))))
      (either
      (closed_yields
      (made (λ p. v.WriteTo p.0 p.1) (λ p k. spellable_as (tree.write_to_fold S.of_statement_kind S.of_body S.of_statement p.0 p.1) (refl, ((refl, ((k.0, (refl, k.1)), refl)), refl)))
      (part_yields (behind token_yields (λ _ _. bracketed_yields d pair_yields)))))
      (either
      (closed_yields
      (made (λ p. v.AddTo p.0 p.1) (λ p k. spellable_as (tree.add_to_fold S.of_statement_kind S.of_body S.of_statement p.0 p.1) (refl, ((refl, ((k.0, (refl, k.1)), refl)), refl)))
      (part_yields (behind token_yields (λ _ _. bracketed_yields d pair_yields)))))
      (either (closed_yields (part_yields (behind token_yields (λ _ _. bracketed_yields d printed_yields))))
      (ended_yields
      (made v.Return (λ e k. spellable_as (tree.return_fold S.of_statement_kind S.of_body S.of_statement e) (refl, (k, refl)))
      (part_yields (behind token_yields (λ _ _. perhaps {good' = λ e. Spellable (S.optional S.expression e)} (λ a k. k) tt (expr_yields nested d)))))))))))

-- ---- statements that hold others

header_yields : {A : Type 0} {l : Language A} {good : A → Type 0} (d : ℕ) → Yields l good → Yields (Z.header d l) good
header_yields d h = behind token_yields (λ _ _. behind h (λ a k. behind token_yields (λ _ _. given k)))

module _ (d : ℕ) {l : Language Expr} (h : Yields l Fine) {inner : Language Stmt} (g : Yields inner Fit) where
  pub braces_yields : Yields (Z.braces d l inner) (λ b. Spellable (S.body b))
  braces_yields =
      behind token_yields (λ _ _.
      behind
      (behind (turned (declaration_yields (suc d) h) [] tt) (λ ds k.
      made (λ ss. roll-Body (record { decls = ds; stmts = ss })) (λ ss w. spellable_as (tree.body_fold S.of_statement_kind S.of_body S.of_statement ds ss) (refl, (k, (w, refl)))) (sequence_yields S.statement (λ _. g))))
      (λ b k. behind token_yields (λ _ _. given k)))

  block_yields : Yields (Z.block d l inner) Fit
  block_yields = statement_yields (made v.Body (λ b k. spellable_as (tree.block_fold S.of_statement_kind S.of_body S.of_statement b) k) braces_yields)

  parallel_yields : Yields (Z.parallel d inner) (λ x. Spellable (phrase x))
  parallel_yields =
      behind token_yields (λ _ _. behind (sequence_yields S.statement (λ ss. kth_yields Branches (suc (length ss)) g)) (λ ss k.
      behind token_yields (λ _ _. given (spellable_as (tree.par_fold S.of_statement_kind S.of_body S.of_statement ss) (refl, (k, refl))))))

  choice_yields : Yields (Z.choice d l inner) (λ x. Spellable (phrase x))
  choice_yields =
      behind token_yields (λ _ _. behind (header_yields d (part_yields h)) (λ c k. behind g (λ a w.
      either (behind token_yields (λ _ _. made (λ b. v.If c a (Some b)) (λ b o. spellable_as (tree.if_else_fold S.of_statement_kind S.of_body S.of_statement c a b) (refl, ((refl, (k, refl)), (w, (refl, o))))) g))
      (behind (lacks_yields (is_word (codes "else"))) (λ _ _. given (spellable_as (tree.only_if_fold S.of_statement_kind S.of_body S.of_statement c a) (refl, ((refl, (k, refl)), (w, tt)))))))))

  loop_yields : Yields (Z.loop d l inner) (λ x. Spellable (phrase x))
  loop_yields =
      behind token_yields (λ _ _. behind (header_yields d (part_yields h)) (λ c k.
      made (v.While c) (λ b w. spellable_as (tree.while_fold S.of_statement_kind S.of_body S.of_statement c b) (refl, ((refl, (k, refl)), w))) g))

  -- what the header of a loop makes of a body
  Makes : (Stmt → StmtKind) → Type 0
  Makes make = (b : Stmt) → Fit b → Spellable (phrase (make b))

  module _ {set : Language Assign} (a : Yields set (λ x. Spellable (S.assignment x))) where
    optional_set : Yields (L.maybe (L.part set)) (λ x. Spellable (S.optional S.assignment x))
    optional_set = perhaps (λ x k. k) tt (part_yields a)

    for_yields : Yields (Z.for_loop d set l inner) (λ x. Spellable (phrase x))
    unfolding Makes
    for_yields =
        behind token_yields (λ _ _. behind {good = Makes}
        (header_yields d
        (behind optional_set (λ i k. behind token_yields (λ _ _. behind (perhaps {good' = λ c. Spellable (S.optional S.expression c)} (λ c w. w) tt (part_yields h)) (λ c w. behind token_yields (λ _ _.
        made (λ e. λ b. v.For i c e b) (λ e o b f. spellable_as (tree.for_fold S.of_statement_kind S.of_body S.of_statement i c e b) (refl, ((refl, ((k, (refl, (w, (refl, o)))), refl)), f))) optional_set))))))
        (λ make k. made make k g))

    forall_yields : Yields (Z.forall_loop d set l inner) (λ x. Spellable (phrase x))
    unfolding Makes
    forall_yields =
        behind token_yields (λ _ _. behind {good = Makes}
        (header_yields d
        (behind (part_yields a) (λ i k. behind token_yields (λ _ _. behind (part_yields h) (λ c w. behind token_yields (λ _ _.
        made (λ e. λ b. v.Forall i c e b) (λ e o b f. spellable_as (tree.forall_fold S.of_statement_kind S.of_body S.of_statement i c e b) (refl, ((refl, ((k, (refl, (w, (refl, o)))), refl)), f))) (part_yields a)))))))
        (λ make k. made make k g))

-- ---- all together

module _ (nested d : ℕ) {inner body : Language Stmt} (g : Yields inner Fit) (k : Yields body Fit) where
  below_yields : Yields (E.expr nested (suc d)) Fine
  below_yields = expr_yields nested (suc d)

  bare_yields : Yields (Z.bare nested d inner body) Fit
  bare_yields =
      either (simple_yields (suc nested) d below_yields)
      (either (statement_yields (parallel_yields d below_yields g))
      (either (statement_yields (choice_yields d below_yields k))
      (either (statement_yields (loop_yields d below_yields k))
      (either (statement_yields (for_yields d below_yields k (assignment_yields nested (suc d))))
      (statement_yields (forall_yields d below_yields k (assignment_yields nested (suc d))))))))

formed_yields : (nested : ℕ) (form : Z.Form) (d : ℕ) → Yields (Z.formed nested form d) Fit
formed_yields zero form d = never_yields
formed_yields (suc nested) Braced d = block_yields d (expr_yields nested (suc d)) (either (formed_yields nested Braced (suc d)) (formed_yields nested Bare (suc d)))
formed_yields (suc nested) Bare d =
    let inner = either (formed_yields nested Braced (suc d)) (formed_yields nested Bare (suc d)) in
    bare_yields nested d inner (either (block_yields d (expr_yields nested (suc d)) inner) (formed_yields nested Bare (suc d)))

pub stmt_yields : (nested d : ℕ) → Yields (Z.stmt nested d) Fit
stmt_yields nested d = either (formed_yields nested Braced d) (formed_yields nested Bare d)
