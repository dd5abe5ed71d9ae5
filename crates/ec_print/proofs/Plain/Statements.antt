-- Declarations and statements: the plain tokens of which they are read are those of their phrases.
use Rattle.std.proofs.Common.{◌≡◌, refl, sym, ◌∙◌, ap, ap₂, ℕ, zero, suc, List, [], ◌∷◌, ◌++◌, map, length, append_assoc, codes, Some}
use Rattle.ec_base.specs.declared.token.Mark.TheVariants as m
use Rattle.ec_base.specs.declared.token.TokenKind.TheVariants as t
use Rattle.ec_syntax.specs.Grammar.Expressions as E
use Rattle.ec_syntax.specs.Grammar.Language as L
use Rattle.ec_syntax.specs.Grammar.Language.{Language}
use Rattle.ec_syntax.specs.Grammar.Statements as Z
use Rattle.ec_syntax.specs.Grammar.Statements.Form.{Braced, Bare}
use Rattle.ec_syntax.specs.Grammar.Tokens as T
use Rattle.ec_syntax.specs.Grammar.Tokens.{is_word}
use Rattle.ec_syntax.specs.Grammar.Types as Y
use Rattle.ec_syntax.specs.declared.expression.Expr.{Expr}
use Rattle.ec_syntax.specs.declared.name.Base.{Base}
use Rattle.ec_syntax.specs.declared.name.Mode.{Mode}
use Rattle.ec_syntax.specs.declared.quantity.Quantity.TheVariants.{Arguments, Branches}
use Rattle.ec_syntax.specs.declared.statement.Assign.{Assign}
use Rattle.ec_syntax.specs.declared.statement.Body.{roll-Body}
use Rattle.ec_syntax.specs.declared.statement.Decl.{Decl}
use Rattle.ec_syntax.specs.declared.statement.Stmt.{Stmt}
use Rattle.ec_syntax.specs.declared.statement.StmtKind.{StmtKind}
use Rattle.ec_syntax.specs.declared.statement.StmtKind.TheVariants as v
use Rattle.ec_print.specs.Phrase.{Phrase, tokens, ◌then◌}
use Rattle.ec_print.specs.Sentence as S
use Rattle.ec_print.proofs.Again.Readings.{Kinds}
use Rattle.ec_print.proofs.Again.Lists.{joins-snoc}
use Rattle.ec_print.proofs.Again.Simple.{phrase, said}
use Rattle.ec_syntax.proofs.Folds.Statements as tree
use Rattle.ec_print.proofs.Plain.Rules.{Spelt, Spells, weaker, spelt, either, never_spelt, behind, ends, given, perhaps, part_spelt, kth_spelt, lacks_spelt, placed_spelt, turned, no_comma, no_increment, no_decrement}
use Rattle.ec_print.proofs.Plain.Tokens.{mark_spelt, word_spelt, no_mark, name_spelt, string_spelt, value_base_spelt, mode_spelt, stars_spelt, brackets_spelt, header_spelt, bracketed_spelt, sequence_spelt, commas_spelt}
use Rattle.ec_print.proofs.Plain.Expressions.{Fine, call_spelt, unary_spelt, expr_spelt}

-- ---- declarations

-- the tokens of a declaration, as its parts are read
declared_said : (how ty star name init : Kinds) → how ++ (ty ++ ((star ++ (name ++ init)) ++ t.Mark m.Semicolon ∷ [])) ≡ (how ++ ((ty ++ star) ++ name)) ++ (init ++ t.Mark m.Semicolon ∷ [])
declared_said how ty star name init = simp append_assoc refl

module _ (d : ℕ) {l : Language Expr} (h : Fine l) where
  -- behind a mode and a base, and before a semicolon
  Declares : Mode → Base → Decl → Kinds → Type 0
  Declares how b x ks = tokens (S.mode how) ++ (tokens (S.base b) ++ (ks ++ t.Mark m.Semicolon ∷ [])) ≡ tokens (S.declaration x)

  initialiser_spelt : Spells 0 (S.optional S.initialiser) (L.maybe (L.◌>>◌ (T.mark d m.Assign) (L.part l)))
  initialiser_spelt = perhaps (behind (mark_spelt m.Assign (part_spelt (spelt S.expression (h 0) (λ e. refl))))) refl

  declarator_spelt : (how : Mode) (b : Base) → Spelt 0 0 (Z.declarator d l how b) (Declares how b)
  unfolding Declares
  declarator_spelt how b =
      behind (spelt S.stars (stars_spelt (mark_spelt m.Star refl)) (λ k. behind (name_spelt (λ x.
      ends (λ init. let decl : Decl = record { name = x; mode = how; ty = Y.typed b k; init = init } in decl)
      (spelt (S.optional S.initialiser) initialiser_spelt (λ init.
      declared_said (tokens (S.mode how)) (tokens (S.base b)) (tokens (S.stars k)) (t.Word x.text ∷ []) (tokens (S.optional S.initialiser init))))))))

  one_more : (before : List Decl) (ks : Kinds) → ks ≡ tokens (S.joined (map S.declaration before)) → (x : Decl) (ls : Kinds) → ls ≡ tokens (S.declaration x) →
      ks ++ ls ≡ tokens (S.joined (map S.declaration (before ++ x ∷ [])))
  one_more before ks e x ls f = ap₂ (λ y z. y ++ z) e f ∙ sym (joins-snoc S.declaration (λ z. z) before x)

  declaration_spelt : (before : List Decl) (ks : Kinds) → ks ≡ tokens (S.joined (map S.declaration before)) → Spelt 0 0 (Z.declaration d l before) (λ ds ls. ks ++ ls ≡ tokens (S.joined (map S.declaration ds)))
  unfolding Declares
  declaration_spelt before ks e =
      behind (spelt S.mode (mode_spelt d) (λ how. behind (spelt S.base (value_base_spelt d) (λ b. behind (weaker (λ x ls f.
      behind (turned (λ _ _ _. behind {p = 0} (no_mark m.Comma no_comma)) (before ++ x ∷ []) [] (behind (mark_spelt m.Semicolon (given
      (one_more before ks e x (tokens (S.mode how) ++ (tokens (S.base b) ++ (ls ++ t.Mark m.Semicolon ∷ []))) f))))))
      (declarator_spelt how b))))))

-- ---- assignments

assignment_spelt : (nested d o : ℕ) → Spells o S.assignment (Z.assignment nested d)
assignment_spelt nested d o =
    either (behind (spelt S.expression (unary_spelt nested d o) (λ x. behind (mark_spelt m.Assign
    (ends (λ y. let a : Assign = record { left = x; right = y } in a) (spelt S.expression (expr_spelt nested d o) (λ y. refl)))))))
    (either (behind (name_spelt (λ x. behind {p = o} (no_mark m.Increment (no_increment o)))))
    (behind (name_spelt (λ x. behind {p = o} (no_mark m.Decrement (no_decrement o))))))

-- ---- simple statements

-- outside parentheses
abbrev pub Fit : Language Stmt → Type 0
Fit l = Spells 0 S.statement l

-- a statement at its place
statement_spelt : {p : Language StmtKind} → Spells 0 phrase p → Fit (L.placed Z.statement p)
statement_spelt h = placed_spelt Z.statement (weaker (λ x ks e at. e ∙ ap tokens (sym (said x at))) h)

-- one that a semicolon ends
module _ {d : ℕ} {p : Language StmtKind} (h : Spelt 0 0 p (λ x ks. ks ++ t.Mark m.Semicolon ∷ [] ≡ tokens (phrase x))) where
  ended_spelt : Fit (Z.ended d p)
  ended_spelt = statement_spelt (behind (weaker (λ x ks f. behind (mark_spelt m.Semicolon (given f))) h))

  closed_spelt : Fit (Z.closed d p)
  closed_spelt = behind (placed_spelt Z.statement (weaker (λ x ks f at. behind (mark_spelt m.Semicolon (given (f ∙ ap tokens (sym (said x at)))))) h))

module _ (nested d : ℕ) {l : Language Expr} (h : Fine l) where
  abbrev pair_said : Expr × Expr → Phrase
  pair_said p = S.expression p.0 then S.mark m.Comma then S.expression p.1

  pair_spelt : Spells 1 pair_said (Z.pair (suc d) l)
  pair_spelt = behind (spelt S.expression (h 1) (λ a. behind (mark_spelt m.Comma (ends (λ b. (a, b)) (spelt S.expression (h 1) (λ b. refl))))))

  pairs_spelt : Spells 0 (λ p. S.bracketed (pair_said p)) (E.bracketed d (Z.pair (suc d) l))
  pairs_spelt = bracketed_spelt d pair_said pair_spelt

  simple_spelt : Fit (Z.simple nested d l)
  simple_spelt =
      either (ended_spelt (given (ap tokens (sym (tree.empty_fold S.of_statement_kind S.of_body S.of_statement)))))
      (either (ended_spelt (ends v.Set (part_spelt (spelt S.assignment (assignment_spelt nested d 0) (λ a. ap tokens (sym (tree.set_fold S.of_statement_kind S.of_body S.of_statement a)))))))
      (either (ended_spelt (ends v.Eval (part_spelt (spelt S.call (call_spelt h d 0) (λ c. ap tokens (sym (tree.eval_fold S.of_statement_kind S.of_body S.of_statement c)))))))
      (either
      (closed_spelt (ends (λ p. v.WriteTo p.0 p.1) (part_spelt (behind (word_spelt (codes "writeto")
      (spelt (λ p. S.bracketed (pair_said p)) pairs_spelt (λ p. ap tokens (sym (tree.write_to_fold S.of_statement_kind S.of_body S.of_statement p.0 p.1)))))))))
      (either
      (closed_spelt (ends (λ p. v.AddTo p.0 p.1) (part_spelt (behind (word_spelt (codes "addto")
      (spelt (λ p. S.bracketed (pair_said p)) pairs_spelt (λ p. ap tokens (sym (tree.add_to_fold S.of_statement_kind S.of_body S.of_statement p.0 p.1)))))))))
      (either
      (closed_spelt (part_spelt (behind (word_spelt (codes "printf") (brackets_spelt (behind (string_spelt (λ w.
      ends (v.Print w) (weaker (λ es ks e. print_spelt w es ks e) (commas_spelt S.expression (λ es. kth_spelt Arguments (suc (length es)) (h 1)) (suc d) [] [] [] refl))))))))))
      (ended_spelt (ends v.Return (part_spelt (behind (word_spelt (codes "return")
      (spelt (S.optional S.expression) (perhaps (expr_spelt nested d 0) refl) (λ e. ap tokens (sym (tree.return_fold S.of_statement_kind S.of_body S.of_statement e))))))))))))))
    where
      print_spelt : (w : List ℕ) (es : List Expr) (ks : Kinds) → ks ≡ tokens (S.further (map S.expression es)) →
          (t.Word (codes "printf") ∷ (t.Mark m.OpenParen ∷ ((t.Str w ∷ ks) ++ t.Mark m.CloseParen ∷ []))) ++ t.Mark m.Semicolon ∷ [] ≡ tokens (phrase (v.Print w es))
      print_spelt w es ks e =
          ap (λ z. (t.Word (codes "printf") ∷ (t.Mark m.OpenParen ∷ ((t.Str w ∷ z) ++ t.Mark m.CloseParen ∷ []))) ++ t.Mark m.Semicolon ∷ []) e
          ∙ ap tokens (sym (tree.print_fold S.of_statement_kind S.of_body S.of_statement w es))

-- ---- statements that hold others

module _ (d : ℕ) {l : Language Expr} (h : Fine l) {inner : Language Stmt} (g : Fit inner) where
  contents_spelt : Spelt 0 0 (Z.contents (suc d) l inner) (λ b ks. t.Mark m.OpenBrace ∷ (ks ++ t.Mark m.CloseBrace ∷ []) ≡ tokens (S.body b))
  contents_spelt =
      behind (spelt (λ ds. S.joined (map S.declaration ds)) (turned (declaration_spelt (suc d) h) [] [] refl) (λ ds.
      ends (λ ss. roll-Body (record { decls = ds; stmts = ss })) (spelt (λ ss. S.joined (map S.statement ss)) (sequence_spelt S.statement (λ _. g)) (λ ss.
      ap (λ z. t.Mark m.OpenBrace ∷ z) (append_assoc (tokens (S.joined (map S.declaration ds))) (tokens (S.joined (map S.statement ss))) (t.Mark m.CloseBrace ∷ []))
      ∙ ap tokens (sym (tree.body_fold S.of_statement_kind S.of_body S.of_statement ds ss))))))

  pub braces_spelt : Spells 0 S.body (Z.braces d l inner)
  braces_spelt = behind (mark_spelt m.OpenBrace (behind (weaker (λ b ks f. behind (mark_spelt m.CloseBrace (given f))) contents_spelt)))

  block_spelt : Fit (Z.block d l inner)
  block_spelt = statement_spelt (ends v.Body (spelt S.body braces_spelt (λ b. ap tokens (sym (tree.block_fold S.of_statement_kind S.of_body S.of_statement b)))))

  parallel_spelt : Spells 0 phrase (Z.parallel d inner)
  parallel_spelt =
      behind (mark_spelt m.OpenPar (behind (spelt (λ ss. S.joined (map S.statement ss)) (sequence_spelt S.statement (λ ss. kth_spelt Branches (suc (length ss)) g)) (λ ss.
      behind (mark_spelt m.ClosePar (given (ap tokens (sym (tree.par_fold S.of_statement_kind S.of_body S.of_statement ss)))))))))

  -- a condition in parentheses
  test_spelt : Spells 0 (λ c. S.bracketed (S.expression c)) (Z.header d (L.part l))
  test_spelt = header_spelt (part_spelt (spelt S.expression (h 1) (λ c. refl)))

  choice_spelt : Spells 0 phrase (Z.choice d l inner)
  choice_spelt =
      behind (word_spelt (codes "if") (behind (spelt (λ c. S.bracketed (S.expression c)) test_spelt (λ c. behind (spelt S.statement g (λ a.
      either (behind (word_spelt (codes "else") (ends (λ b. v.If c a (Some b)) (spelt S.statement g (λ b. ap tokens (sym (tree.if_else_fold S.of_statement_kind S.of_body S.of_statement c a b)))))))
      (behind (lacks_spelt (is_word (codes "else")) (given (ap tokens (sym (tree.only_if_fold S.of_statement_kind S.of_body S.of_statement c a))))))))))))

  loop_spelt : Spells 0 phrase (Z.loop d l inner)
  loop_spelt =
      behind (word_spelt (codes "while") (behind (spelt (λ c. S.bracketed (S.expression c)) test_spelt (λ c.
      ends (v.While c) (spelt S.statement g (λ b. ap tokens (sym (tree.while_fold S.of_statement_kind S.of_body S.of_statement c b))))))))

  module _ {set : Language Assign} (a : Spells 1 S.assignment set) where
    set_spelt : Spells 1 (S.optional S.assignment) (L.maybe (L.part set))
    set_spelt = perhaps (part_spelt a) refl

    for_spelt : Spells 0 phrase (Z.for_loop d set l inner)
    for_spelt =
        behind (word_spelt (codes "for") (behind (header_spelt (behind (spelt (S.optional S.assignment) set_spelt (λ i. behind (mark_spelt m.Semicolon
        (behind (spelt (S.optional S.expression) (perhaps (part_spelt (h 1)) refl) (λ c. behind (mark_spelt m.Semicolon
        (ends (λ e. λ b. v.For i c e b) (spelt (S.optional S.assignment) set_spelt (λ e.
        ends (λ b. v.For i c e b) (spelt S.statement g (λ b. ap tokens (sym (tree.for_fold S.of_statement_kind S.of_body S.of_statement i c e b))))))))))))))))))

    forall_spelt : Spells 0 phrase (Z.forall_loop d set l inner)
    forall_spelt =
        behind (word_spelt (codes "forall") (behind (header_spelt (behind (spelt S.assignment (part_spelt a) (λ i. behind (mark_spelt m.Semicolon
        (behind (spelt S.expression (part_spelt (h 1)) (λ c. behind (mark_spelt m.Semicolon
        (ends (λ e. λ b. v.Forall i c e b) (spelt S.assignment (part_spelt a) (λ e.
        ends (λ b. v.Forall i c e b) (spelt S.statement g (λ b. ap tokens (sym (tree.forall_fold S.of_statement_kind S.of_body S.of_statement i c e b))))))))))))))))))

-- ---- all together

module _ (nested d : ℕ) {inner body : Language Stmt} (g : Fit inner) (k : Fit body) where
  below_spelt : Fine (E.expr nested (suc d))
  below_spelt = expr_spelt nested (suc d)

  bare_spelt : Fit (Z.bare nested d inner body)
  bare_spelt =
      either (simple_spelt (suc nested) d below_spelt)
      (either (statement_spelt (parallel_spelt d below_spelt g))
      (either (statement_spelt (choice_spelt d below_spelt k))
      (either (statement_spelt (loop_spelt d below_spelt k))
      (either (statement_spelt (for_spelt d below_spelt k (assignment_spelt nested (suc d) 1)))
      (statement_spelt (forall_spelt d below_spelt k (assignment_spelt nested (suc d) 1)))))))

formed_spelt : (nested : ℕ) (form : Z.Form) (d : ℕ) → Fit (Z.formed nested form d)
formed_spelt zero form d = never_spelt
formed_spelt (suc nested) Braced d = block_spelt d (expr_spelt nested (suc d)) (either (formed_spelt nested Braced (suc d)) (formed_spelt nested Bare (suc d)))
formed_spelt (suc nested) Bare d =
    let inner = either (formed_spelt nested Braced (suc d)) (formed_spelt nested Bare (suc d)) in
    bare_spelt nested d inner (either (block_spelt d (expr_spelt nested (suc d)) inner) (formed_spelt nested Bare (suc d)))

pub stmt_spelt : (nested d : ℕ) → Fit (Z.stmt nested d)
stmt_spelt nested d = either (formed_spelt nested Braced d) (formed_spelt nested Bare d)
