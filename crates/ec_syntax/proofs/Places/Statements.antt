-- Statements stand where they are read.
use Rattle.std.proofs.Common.{◌≡◌, refl, sym, ◌∙◌, ap, subst, ℕ, zero, suc, Bool, true, false, List, [], map, length, Option, Some, None, codes}
use Rattle.ec_base.specs.declared.token.Mark.TheVariants as m
use Rattle.ec_base.specs.declared.token.Span.{Span}
use Rattle.ec_syntax.specs.declared.expression.Expr.{Expr}
use Rattle.ec_syntax.specs.declared.quantity.Quantity.TheVariants.{Arguments, Branches}
use Rattle.ec_syntax.specs.declared.statement.Assign.{Assign}
use Rattle.ec_syntax.specs.declared.statement.Body.{roll-Body}
use Rattle.ec_syntax.specs.declared.statement.Stmt.{Stmt}
use Rattle.ec_syntax.specs.declared.statement.StmtKind.{StmtKind}
use Rattle.ec_syntax.specs.declared.statement.StmtKind.TheVariants as v
use Rattle.ec_syntax.specs.Grammar.Expressions as E
use Rattle.ec_syntax.specs.Grammar.Language as L
use Rattle.ec_syntax.specs.Grammar.Language.{Language, span}
use Rattle.ec_syntax.specs.Grammar.State.{State, limits}
use Rattle.ec_syntax.specs.Grammar.Statements as S
use Rattle.ec_syntax.specs.Grammar.Statements.Form.{Braced, Bare}
use Rattle.ec_syntax.specs.Grammar.Tokens as T
use Rattle.ec_syntax.specs.Grammar.Tokens.{is_word}
use Rattle.ec_syntax.specs.Parts as P
use Rattle.ec_syntax.specs.Parts.{Role, Parts, one, ◌ahead_of◌, joined}
use Rattle.ec_syntax.specs.Parts.Role.{Plain}
use Rattle.ec_syntax.proofs.Folds.Statements as tree
use Rattle.ec_syntax.proofs.Places.Declarations.{declaration_lays, assignment_adds}
use Rattle.ec_syntax.proofs.Places.Calls.{call_adds}
use Rattle.ec_syntax.proofs.Places.Expressions.{expr_adds}
use Rattle.ec_syntax.proofs.Places.Placing.{Enters, strictly, plainly, entered, enters_as, enters_behind, enters_given, enters_part, placed_lays}
use Rattle.ec_syntax.proofs.Places.Rules.{Lays, lays_behind, given, reads_as, behind, firstly, made, either, never_lays, perhaps, part_lays, kth_lays, lacks_lays, turned}
use Rattle.ec_syntax.proofs.Places.Standing.{ahead_of_nothing, ahead_of_assoc, Gives, gives_self, gives_same}
use Rattle.ec_syntax.proofs.Places.Tokens.{word_inside, mark_inside, word_lays, mark_lays, string_lays, gives_none, gives_one, gives_two, bracketed_lays, Adds, sequence_lays, commas_lay}

-- ---- parts of statements

-- what a statement is, and the parts within it
abbrev layer : StmtKind → P.Layer
layer = tree.kinds P.of_statement_kind P.of_body P.of_statement

stands_at : (x : StmtKind) (at : Span) → P.statement (S.statement x at) ≡ one (layer x).0 at (layer x).1
stands_at x at = tree.stmt_fold P.of_statement_kind P.of_body P.of_statement x at

inner : (x : StmtKind) {parts within : Parts} {role : Role} → parts ≡ within → layer x ≡ (role, within) →
    Gives parts (layer x).1
inner x same e = gives_same (same ∙ ap (λ z. z.1) (sym e))

-- a statement at its place
statement_adds : {p : Language StmtKind} → Enters p (λ x. (layer x).1) → Adds true (L.placed S.statement p) P.statement
statement_adds h before = placed_lays (λ x. (layer x).0) S.statement (λ x at. gives_one before (stands_at x at)) (strictly (λ x. (layer x).0) h)

-- ---- simple statements

-- one that ends with its `;`
ended_adds : {p : Language StmtKind} (d : ℕ) → Enters p (λ x. (layer x).1) → Adds true (S.ended d p) P.statement
ended_adds d h = statement_adds (enters_behind h (λ x. behind (mark_lays m.Semicolon) (λ _. given gives_self)))

closed_adds : {p : Language StmtKind} (d : ℕ) → Enters p (λ x. (layer x).1) → Adds true (S.closed d p) P.statement
closed_adds d h before = firstly (statement_adds h before) (λ s. behind (mark_lays m.Semicolon) (λ _. given gives_self))

-- one that begins where its only part does
abbrev alone : {A : Type 0} → ℕ → (A → StmtKind) → Language A → Language Stmt
alone d make q = L.placed (λ a at. S.statement (make a) at) (L.◌>>=◌ q (λ a. L.◌>>◌ (T.mark d m.Semicolon) (L.give a)))

alone_as : {A : Type 0} (d : ℕ) (make : A → StmtKind) (q : Language A) (s : State) (b : Stmt) (n : State) →
    S.ended d (L.◌>>=◌ q (λ a. L.give (make a))) limits s b n → alone d make q limits s b n
alone_as d make q s b n (from, s₁, e, (x, i, (y, m₁, (a, m₂, r, (ey, es)), (u, m₃, k, (ex, en))), (to, m₄, e₄, (eb, eo)))) =
    (from, s₁, e, (a, i, (a, m₂, r, (u, m₃, subst (λ z. T.mark d m.Semicolon limits z u m₃) es k, (refl, en))), (to, m₄, e₄, (eb ∙ ap (λ z. S.statement z (span from to)) (ex ∙ ey), eo))))

alone_adds : {A : Type 0} (d : ℕ) (make : A → StmtKind) {q : Language A} {parts : A → Parts} →
    ((a : A) → layer (make a) ≡ P.plainly (parts a)) → Lays true Parts.nothing q parts →
    Adds true (S.ended d (L.◌>>=◌ q (λ a. L.give (make a)))) P.statement
alone_adds d make {q} e h before =
    reads_as (alone d make q) (alone_as d make q)
    (placed_lays (λ _. Plain) (λ a at. S.statement (make a) at) (λ a at. gives_one before (stands_at (make a) at ∙ ap (λ z. one z.0 at z.1) (e a)))
    (plainly (firstly h (λ a. behind (mark_lays m.Semicolon) (λ _. given gives_self)))))

module _ (nested d : ℕ) {l : Language Expr} (h : Adds true l P.expression) where
  pair_lays : Lays true Parts.nothing (S.pair (suc d) l) (λ p. P.expression p.0 ahead_of P.expression p.1)
  pair_lays = firstly (h Parts.nothing) (λ a. behind (mark_lays m.Comma) (λ _. made (λ b. (a, b)) (λ b. gives_self) (h (P.expression a))))

  printed_lays : Lays false Parts.nothing (S.printed (suc d) l) (λ x. (layer x).1)
  printed_lays =
      behind string_lays (λ w. made (v.Print w) (λ es. inner (v.Print w es) refl (tree.print_fold P.of_statement_kind P.of_body P.of_statement w es))
      (commas_lay P.expression (λ es us. kth_lays Arguments (suc (length es)) (h us)) (suc d) Parts.nothing []))

  simple_adds : Adds true (S.simple nested d l) P.statement
  simple_adds before =
      either (statement_adds (enters_given v.Empty (entered (mark_inside m.Semicolon) (λ _. given (inner v.Empty refl (tree.empty_fold P.of_statement_kind P.of_body P.of_statement))))) before)
      (either (alone_adds d v.Set (tree.set_fold P.of_statement_kind P.of_body P.of_statement) (part_lays (assignment_adds nested d Parts.nothing)) before)
      (either (alone_adds d v.Eval (tree.eval_fold P.of_statement_kind P.of_body P.of_statement) (part_lays (call_adds h d Parts.nothing)) before)
      (either (closed_adds d (enters_behind (enters_part (entered (word_inside (codes "writeto")) (λ _. bracketed_lays d pair_lays))) (λ p.
      given (inner (v.WriteTo p.0 p.1) refl (tree.write_to_fold P.of_statement_kind P.of_body P.of_statement p.0 p.1)))) before)
      (either (closed_adds d (enters_behind (enters_part (entered (word_inside (codes "addto")) (λ _. bracketed_lays d pair_lays))) (λ p.
      given (inner (v.AddTo p.0 p.1) refl (tree.add_to_fold P.of_statement_kind P.of_body P.of_statement p.0 p.1)))) before)
      (either (closed_adds d (enters_part (entered (word_inside (codes "printf")) (λ _. bracketed_lays d printed_lays))) before)
      (ended_adds d (enters_behind (enters_part (entered (word_inside (codes "return")) (λ _. perhaps {g = P.optional P.expression} (λ e. gives_self) gives_self (expr_adds nested d Parts.nothing)))) (λ e.
      given (inner (v.Return e) refl (tree.return_fold P.of_statement_kind P.of_body P.of_statement e)))) before))))))

-- ---- statements that hold others

header_lays : {A : Type 0} {takes : Bool} {before : Parts} {l : Language A} {f : A → Parts} (d : ℕ) →
    Lays takes before l f → Lays false before (S.header d l) f
header_lays d h = behind (mark_lays m.OpenParen) (λ _. behind h (λ a. behind (mark_lays m.CloseParen) (λ _. given gives_self)))

module _ (d : ℕ) {l : Language Expr} (h : Adds true l P.expression) {stmt : Language Stmt}
    (g : Adds true stmt P.statement) where
  contents_add : Adds false (S.contents d l stmt) P.body
  contents_add before =
      behind (lays_behind (ahead_of_nothing before) (turned (declaration_lays d h before) [])) (λ ds.
      made (λ ss. roll-Body (record { decls = ds; stmts = ss })) (λ ss. gives_two before (joined (map P.declaration ds)) (joined (map P.statement ss)) (tree.body_fold P.of_statement_kind P.of_body P.of_statement ds ss))
      (sequence_lays P.statement (λ _. g) (before ahead_of joined (map P.declaration ds))))

module _ (d : ℕ) {l : Language Expr} (h : Adds true l P.expression) {stmt : Language Stmt}
    (g : Adds true stmt P.statement) where
  pub braces_add : Adds false (S.braces d l stmt) P.body
  braces_add before = behind (mark_lays m.OpenBrace) (λ _. behind (contents_add (suc d) h g before) (λ b. behind (mark_lays m.CloseBrace) (λ _. given gives_self)))

  braces_enter : Enters (S.braces d l stmt) P.body
  braces_enter = entered (mark_inside m.OpenBrace) (λ _. behind (contents_add (suc d) h g Parts.nothing) (λ b. behind (mark_lays m.CloseBrace) (λ _. given gives_self)))

  block_adds : Adds true (S.block d l stmt) P.statement
  block_adds = statement_adds (enters_behind braces_enter (λ b. given (inner (v.Body b) refl (tree.block_fold P.of_statement_kind P.of_body P.of_statement b))))

  parallel_enters : Enters (S.parallel d stmt) (λ x. (layer x).1)
  parallel_enters =
      entered (mark_inside m.OpenPar) (λ _. behind (sequence_lays P.statement (λ ss us. kth_lays Branches (suc (length ss)) (g us)) Parts.nothing) (λ ss. behind (mark_lays m.ClosePar) (λ _.
      given (inner (v.Par ss) refl (tree.par_fold P.of_statement_kind P.of_body P.of_statement ss)))))

  choice_enters : Enters (S.choice d l stmt) (λ x. (layer x).1)
  choice_enters =
      entered (word_inside (codes "if")) (λ _. behind (header_lays d (part_lays (h Parts.nothing))) (λ c. behind (g (P.expression c)) (λ a.
      either (behind (word_lays (codes "else")) (λ _. made (λ b. v.If c a (Some b)) (λ b. inner (v.If c a (Some b)) (ahead_of_assoc (P.expression c) (P.statement a) (P.statement b)) (tree.if_else_fold P.of_statement_kind P.of_body P.of_statement c a b))
      (g (P.expression c ahead_of P.statement a))))
      (behind (lacks_lays (is_word (codes "else"))) (λ _. given (inner (v.If c a None) (ap (λ z. P.expression c ahead_of z) (sym (ahead_of_nothing (P.statement a)))) (tree.only_if_fold P.of_statement_kind P.of_body P.of_statement c a)))))))

  loop_enters : Enters (S.loop d l stmt) (λ x. (layer x).1)
  loop_enters =
      entered (word_inside (codes "while")) (λ _. behind (header_lays d (part_lays (h Parts.nothing))) (λ c.
      made (v.While c) (λ b. inner (v.While c b) refl (tree.while_fold P.of_statement_kind P.of_body P.of_statement c b)) (g (P.expression c))))

-- ---- loops with a header

-- "for" "(" set? ";" expr? ";" set? ")" and a body, and "forall" with all three
abbrev For : Type 0
For = Option Assign × (Option Expr × Option Assign)

abbrev Forall : Type 0
Forall = Assign × (Expr × Assign)

abbrev for_of : For → Stmt → StmtKind
for_of t b = v.For t.0 t.1.0 t.1.1 b

abbrev forall_of : Forall → Stmt → StmtKind
forall_of t b = v.Forall t.0 t.1.0 t.1.1 b

abbrev looped : {A : Type 0} → ℕ → List ℕ → (A → Stmt → StmtKind) → Language A → Language Stmt → Language StmtKind
looped d w make head body = L.◌>>◌ (T.word d w) (L.◌>>=◌ (S.header d head) (λ t. L.◌>>=◌ body (λ b. L.give (make t b))))

-- what stands in the header of a `for`
abbrev for_parts : For → Parts
for_parts t = (P.optional P.assignment t.0 ahead_of P.optional P.expression t.1.0) ahead_of P.optional P.assignment t.1.1

abbrev forall_parts : Forall → Parts
forall_parts t = (P.assignment t.0 ahead_of P.expression t.1.0) ahead_of P.assignment t.1.1

-- four lists of parts, taken one by one or as one
four : (x y z w : Parts) → ((x ahead_of y) ahead_of z) ahead_of w ≡ x ahead_of (y ahead_of (z ahead_of w))
four x y z w = ahead_of_assoc (x ahead_of y) z w ∙ ahead_of_assoc x y (z ahead_of w)

for_inner : (t : For) (b : Stmt) → Gives (for_parts t ahead_of P.statement b) (layer (for_of t b)).1
for_inner t b =
    inner (for_of t b)
    (four (P.optional P.assignment t.0) (P.optional P.expression t.1.0) (P.optional P.assignment t.1.1) (P.statement b))
    (tree.for_fold P.of_statement_kind P.of_body P.of_statement t.0 t.1.0 t.1.1 b)

forall_inner : (t : Forall) (b : Stmt) → Gives (forall_parts t ahead_of P.statement b) (layer (forall_of t b)).1
forall_inner t b =
    inner (forall_of t b) (four (P.assignment t.0) (P.expression t.1.0) (P.assignment t.1.1) (P.statement b))
    (tree.forall_fold P.of_statement_kind P.of_body P.of_statement t.0 t.1.0 t.1.1 b)

module _ (d : ℕ) {set : Language Assign} (a : Adds true set P.assignment) {l : Language Expr}
    (h : Adds true l P.expression) {stmt : Language Stmt} (g : Adds true stmt P.statement) where
  abbrev for_head : Language For
  for_head =
      L.◌>>=◌ (L.maybe (L.part set)) (λ i. L.◌>>◌ (T.mark (suc d) m.Semicolon)
      (L.◌>>=◌ (L.maybe (L.part l)) (λ c. L.◌>>◌ (T.mark (suc d) m.Semicolon)
      (L.◌>>=◌ (L.maybe (L.part set)) (λ e. L.give (i, (c, e)))))))

  abbrev forall_head : Language Forall
  forall_head =
      L.◌>>=◌ (L.part set) (λ i. L.◌>>◌ (T.mark (suc d) m.Semicolon)
      (L.◌>>=◌ (L.part l) (λ c. L.◌>>◌ (T.mark (suc d) m.Semicolon)
      (L.◌>>=◌ (L.part set) (λ e. L.give (i, (c, e)))))))

  for_as : (s : State) (x : StmtKind) (n : State) → S.for_loop d set l stmt limits s x n →
      looped d (codes "for") for_of for_head stmt limits s x n
  for_as s x n (u, m₁, p, (f, m₂, (w, m₃, o, (f', m₄, (i, m₅, ri, (y, m₆, k, (c, m₇, rc, (z, m₈, j, (e, m₉, re, (ef, es)))))), (q, m₀, r, (eg, et)))), (b, m₁₀, rb, (ex, ey)))) =
      (u, m₁, p, ((i, (c, e)), m₂, (w, m₃, o, ((i, (c, e)), m₄, (i, m₅, ri, (y, m₆, k, (c, m₇, rc, (z, m₈, j, (e, m₉, re, (refl, es)))))), (q, m₀, r, (refl, et)))), (b, m₁₀, rb, (ex ∙ ap (λ z. z b) (eg ∙ ef), ey))))

  forall_as : (s : State) (x : StmtKind) (n : State) → S.forall_loop d set l stmt limits s x n →
      looped d (codes "forall") forall_of forall_head stmt limits s x n
  forall_as s x n (u, m₁, p, (f, m₂, (w, m₃, o, (f', m₄, (i, m₅, ri, (y, m₆, k, (c, m₇, rc, (z, m₈, j, (e, m₉, re, (ef, es)))))), (q, m₀, r, (eg, et)))), (b, m₁₀, rb, (ex, ey)))) =
      (u, m₁, p, ((i, (c, e)), m₂, (w, m₃, o, ((i, (c, e)), m₄, (i, m₅, ri, (y, m₆, k, (c, m₇, rc, (z, m₈, j, (e, m₉, re, (refl, es)))))), (q, m₀, r, (refl, et)))), (b, m₁₀, rb, (ex ∙ ap (λ z. z b) (eg ∙ ef), ey))))

  optional_set : Adds false (L.maybe (L.part set)) (P.optional P.assignment)
  optional_set before = perhaps {f = λ e. before ahead_of P.assignment e} {g = λ e. before ahead_of P.optional P.assignment e} (λ e. gives_self) (gives_none before refl) (part_lays (a before))

  optional_test : Adds false (L.maybe (L.part l)) (P.optional P.expression)
  optional_test before = perhaps {f = λ e. before ahead_of P.expression e} {g = λ e. before ahead_of P.optional P.expression e} (λ e. gives_self) (gives_none before refl) (part_lays (h before))

  for_head_lays : Lays false Parts.nothing for_head for_parts
  for_head_lays =
      behind (optional_set Parts.nothing) (λ i. behind (mark_lays m.Semicolon) (λ _. behind (optional_test (P.optional P.assignment i)) (λ c. behind (mark_lays m.Semicolon) (λ _.
      made (λ e. let t : For = (i, (c, e)) in t) (λ e. gives_self) (optional_set (P.optional P.assignment i ahead_of P.optional P.expression c))))))

  forall_head_lays : Lays false Parts.nothing forall_head forall_parts
  forall_head_lays =
      behind (part_lays (a Parts.nothing)) (λ i. behind (mark_lays m.Semicolon) (λ _. behind (part_lays (h (P.assignment i))) (λ c. behind (mark_lays m.Semicolon) (λ _.
      made (λ e. let t : Forall = (i, (c, e)) in t) (λ e. gives_self) (part_lays (a (P.assignment i ahead_of P.expression c)))))))

  looped_enters : {A : Type 0} (w : List ℕ) (make : A → Stmt → StmtKind) (parts : A → Parts) {head : Language A} →
      ((t : A) (b : Stmt) → Gives (parts t ahead_of P.statement b) (layer (make t b)).1) →
      Lays false Parts.nothing head parts → Enters (looped d w make head stmt) (λ x. (layer x).1)
  looped_enters w make parts k h =
      entered (word_inside w) (λ _. behind (header_lays d h) (λ t. made (make t) (k t) (g (parts t))))

  for_adds : Adds true (L.placed S.statement (S.for_loop d set l stmt)) P.statement
  for_adds =
      statement_adds (enters_as (looped d (codes "for") for_of for_head stmt) for_as
      (looped_enters (codes "for") for_of for_parts for_inner for_head_lays))

  forall_adds : Adds true (L.placed S.statement (S.forall_loop d set l stmt)) P.statement
  forall_adds =
      statement_adds (enters_as (looped d (codes "forall") forall_of forall_head stmt) forall_as
      (looped_enters (codes "forall") forall_of forall_parts forall_inner forall_head_lays))

-- ---- all together

module _ (nested d : ℕ) {stmt body : Language Stmt} (g : Adds true stmt P.statement)
    (k : Adds true body P.statement) where
  below : Adds true (E.expr nested (suc d)) P.expression
  below = expr_adds nested (suc d)

  bare_adds : Adds true (S.bare nested d stmt body) P.statement
  bare_adds before =
      either (simple_adds (suc nested) d below before)
      (either (statement_adds (parallel_enters d below g) before)
      (either (statement_adds (choice_enters d below k) before)
      (either (statement_adds (loop_enters d below k) before)
      (either (for_adds d (assignment_adds nested (suc d)) below k before)
      (forall_adds d (assignment_adds nested (suc d)) below k before)))))

or_adds : {A : Type 0} {p q : Language A} {parts : A → Parts} → Adds true p parts → Adds true q parts →
    Adds true (L.◌or◌ p q) parts
or_adds h k before = either (h before) (k before)

formed_adds : (nested : ℕ) (form : S.Form) (d : ℕ) → Adds true (S.formed nested form d) P.statement
formed_adds zero form d before = never_lays
formed_adds (suc nested) Braced d before = block_adds d (expr_adds nested (suc d)) (or_adds (formed_adds nested Braced (suc d)) (formed_adds nested Bare (suc d))) before
formed_adds (suc nested) Bare d before =
    let inside = or_adds (formed_adds nested Braced (suc d)) (formed_adds nested Bare (suc d)) in
    bare_adds nested d inside (or_adds (block_adds d (expr_adds nested (suc d)) inside) (formed_adds nested Bare (suc d))) before

pub stmt_adds : (nested d : ℕ) → Adds true (S.stmt nested d) P.statement
stmt_adds nested d = or_adds (formed_adds nested Braced d) (formed_adds nested Bare d)
