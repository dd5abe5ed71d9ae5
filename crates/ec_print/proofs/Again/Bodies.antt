-- Bodies and statements that hold others, read again, given that what they hold is.
use Rattle.std.proofs.Common.{◌≡◌, refl, sym, ◌∙◌, ap, ap₂, subst, inl, inr, ◌≤◌, ℕ, suc, false, List, [], ◌∷◌, ◌++◌, map, length, append_assoc, codes, Some, None}
use Rattle.ec_base.specs.declared.token.Mark.TheVariants as m
use Rattle.ec_base.specs.declared.token.TokenKind.TheVariants as t
use Rattle.ec_syntax.specs.Grammar.Language as L
use Rattle.ec_syntax.specs.Grammar.Language.{Language}
use Rattle.ec_syntax.specs.Grammar.State.{State, limits}
use Rattle.ec_syntax.specs.Grammar.Statements as Z
use Rattle.ec_syntax.specs.Grammar.Tokens as T
use Rattle.ec_syntax.specs.declared.expression.Expr.{Expr}
use Rattle.ec_syntax.specs.declared.quantity.Quantity.TheVariants.{Branches}
use Rattle.ec_syntax.specs.declared.statement.Body.{Body, roll-Body}
use Rattle.ec_syntax.specs.declared.statement.Decl.{Decl}
use Rattle.ec_syntax.specs.declared.statement.Stmt.{Stmt}
use Rattle.ec_syntax.specs.declared.statement.StmtKind.{StmtKind, roll-StmtKind}
use Rattle.ec_syntax.specs.declared.statement.StmtKind.TheOpen.{StmtKind-F}
use Rattle.ec_syntax.specs.declared.statement.StmtKind.TheVariants as v
use Rattle.ec_print.specs.Phrase.{Phrase, tokens, ◌then◌}
use Rattle.ec_print.specs.Sentence as S
use Rattle.ec_print.specs.Unplaced as U
use Rattle.ec_print.proofs.Again.Readings.{Again, Kinds, as_kinds, as_language, to_state, behind, is_else}
use Rattle.ec_print.proofs.Again.Marks.{mark_again, word_again}
use Rattle.ec_print.proofs.Again.Rules.{settled, made, part_again, kth_again, lacks_again}
use Rattle.ec_print.proofs.Again.Levels.{Operands}
use Rattle.ec_print.proofs.Again.Lists.{Each, joined_again}
use Rattle.ec_print.proofs.Again.Calls.{Mirrors}
use Rattle.ec_print.proofs.Again.Declarations.{declarations_again}
use Rattle.ec_print.proofs.Again.Simple.{phrase, statement_again, same_length}
use Rattle.ec_syntax.proofs.Folds.Statements as tree

abbrev pub Statements : Language Stmt → Language Stmt → Type 0
Statements l l' = Mirrors false S.statement U.statement l l'

-- ---- bodies

body_said : (ds : List Decl) (ss : List Stmt) → S.body (roll-Body (record { decls = ds; stmts = ss })) ≡ (S.mark m.OpenBrace then S.joined (map S.declaration ds) then S.joined (map S.statement ss) then S.mark m.CloseBrace)
body_said = tree.body_fold S.of_statement_kind S.of_body S.of_statement

rolled : List Decl → List Stmt → Body
rolled ds ss = roll-Body (record { decls = ds; stmts = ss })

body_alike : (ds ds' : List Decl) (ss ss' : List Stmt) → map U.declaration ds' ≡ map U.declaration ds → map U.statement ss' ≡ map U.statement ss →
    U.body (roll-Body (record { decls = ds'; stmts = ss' })) ≡ U.body (roll-Body (record { decls = ds; stmts = ss }))
unfolding rolled
body_alike ds ds' ss ss' h g =
    tree.body_fold U.of_statement_kind U.of_body U.of_statement ds' ss' ∙ ap₂ rolled h g ∙ sym (tree.body_fold U.of_statement_kind U.of_body U.of_statement ds ss)

abbrev inside : List Decl → List Stmt → Phrase
inside ds ss = S.joined (map S.declaration ds) then S.joined (map S.statement ss)

braced : (ds ss : Kinds) → t.Mark m.OpenBrace ∷ (ds ++ (ss ++ (t.Mark m.CloseBrace ∷ []))) ≡ t.Mark m.OpenBrace ∷ ((ds ++ ss) ++ (t.Mark m.CloseBrace ∷ []))
braced ds ss = ap (λ z. t.Mark m.OpenBrace ∷ z) (sym (append_assoc ds ss (t.Mark m.CloseBrace ∷ [])))

module _ (d : ℕ) (l l' : Language Expr) (H : Operands l l') (st st' : Language Stmt) (G : Statements st st') where
  each_again : Each S.statement U.statement false (λ _. st) (λ _. st')
  each_again s xs a n r ys h = G s a n r

  pub braces_again : Mirrors false S.body U.body (Z.braces d l st) (Z.braces d l' st')
  braces_again s b n (u, i, r, (c, j, (ds, k, rd, (ss, o, rs, (e', f'))), (u', p, r', (e, f)))) =
      settled S.body U.body (e ∙ e') f
      (as_kinds (sym (ap tokens (body_said ds ss) ∙ braced (tokens (S.joined (map S.declaration ds))) (tokens (S.joined (map S.statement ss)))))
      (behind tt tt (mark_again m.OpenBrace r) (λ _ _.
      behind (roll-Body (record { decls = ds; stmts = ss })) refl
      (to_state f' (behind ds refl (declarations_again (suc d) l l' H i ds k rd) (λ ds' h.
      made (λ ss'. roll-Body (record { decls = ds'; stmts = ss' })) (λ ss' g. body_alike ds ds' ss ss' h g)
      (joined_again S.statement U.statement (λ _. st) (λ _. st') each_again k ss o rs))))
      (λ b' h. made (λ _. b') (λ _ _. h) (mark_again m.CloseBrace r')))))

  block_alike : (b' b : Body) → U.body b' ≡ U.body b → U.statement_kind (v.Body b') ≡ U.statement_kind (v.Body b)
  block_alike b' b h = tree.block_fold U.of_statement_kind U.of_body U.of_statement b' ∙ ap (λ z. roll-StmtKind (StmtKind-F.Body z)) h ∙ sym (tree.block_fold U.of_statement_kind U.of_body U.of_statement b)

  abbrev blocks : Language Expr → Language Stmt → Language StmtKind
  blocks z y = L.◌>>=◌ (Z.braces d z y) (λ b. L.give (v.Body b))

  block_kind : Mirrors false phrase U.statement_kind (blocks l st) (blocks l' st')
  block_kind s x n (b, i, r, (e, f)) =
      settled phrase U.statement_kind e f
      (as_kinds (sym (ap tokens (tree.block_fold S.of_statement_kind S.of_body S.of_statement b))) (made v.Body (λ b' h. block_alike b' b h) (braces_again s b i r)))

  pub block_again : Statements (Z.block d l st) (Z.block d l' st')
  block_again = statement_again (blocks l st) (blocks l' st') block_kind

-- ---- parallel sequences

abbrev branch : Language Stmt → List Stmt → Language Stmt
branch z ss = L.kth Branches (suc (length ss)) z

par_alike : (ss ss' : List Stmt) → map U.statement ss' ≡ map U.statement ss → U.statement_kind (v.Par ss') ≡ U.statement_kind (v.Par ss)
par_alike ss ss' h = tree.par_fold U.of_statement_kind U.of_body U.of_statement ss' ∙ ap (λ z. roll-StmtKind (StmtKind-F.Par z)) h ∙ sym (tree.par_fold U.of_statement_kind U.of_body U.of_statement ss)

branch_again : (st st' : Language Stmt) → Statements st st' → Each S.statement U.statement false (branch st) (branch st')
branch_again st st' G s xs a n (within, r) ys h = kth_again Branches (suc (length ys)) (subst (λ k. suc k ≤ 64) (sym (same_length U.statement xs ys h)) within) (G s a n r)

pub parallel_again : (d : ℕ) (st st' : Language Stmt) → Statements st st' → Mirrors false phrase U.statement_kind (Z.parallel d st) (Z.parallel d st')
parallel_again d st st' G s x n (u, i, r, (ss, j, q, (u', k, r', (e, f)))) =
    settled phrase U.statement_kind e f
    (as_kinds (sym (ap tokens (tree.par_fold S.of_statement_kind S.of_body S.of_statement ss)))
    (behind tt tt (mark_again m.OpenPar r) (λ _ _. behind ss refl (joined_again S.statement U.statement (branch st) (branch st') (branch_again st st' G) i ss j q) (λ ss' h.
    made (λ _. v.Par ss') (λ _ _. par_alike ss ss' h) (mark_again m.ClosePar r')))))

-- ---- headers

pub header_again : {A C : Type 0} (d : ℕ) (written : A → Phrase) (image : A → C) (l l' : Language A) → Mirrors false written image l l' → Mirrors false (λ a. S.bracketed (written a)) image (Z.header d l) (Z.header d l')
header_again d written image l l' H s b n (u, i, r, (a, j, q, (w, k, p, (e, f)))) =
    settled (λ a. S.bracketed (written a)) image e f
    (behind tt tt (mark_again m.OpenParen r) (λ _ _. behind a refl (H i a j q) (λ a' h. made (λ _. a') (λ _ _. h) (mark_again m.CloseParen p))))

pub test_again : (l l' : Language Expr) → Operands l l' → Mirrors false S.expression U.expression (L.part l) (L.part l')
test_again l l' H s a n r = part_again (H (record s { marks = 0 }) a n r)

-- ---- choices

if_else_alike : (c c' : Expr) (a a' b b' : Stmt) → U.expression c' ≡ U.expression c → U.statement a' ≡ U.statement a → U.statement b' ≡ U.statement b → U.statement_kind (v.If c' a' (Some b')) ≡ U.statement_kind (v.If c a (Some b))
if_else_alike c c' a a' b b' h g k =
    tree.if_else_fold U.of_statement_kind U.of_body U.of_statement c' a' b' ∙ ap (λ z. roll-StmtKind (StmtKind-F.If z (U.statement a') (Some (U.statement b')))) h
    ∙ ap₂ (λ y z. roll-StmtKind (StmtKind-F.If (U.expression c) y (Some z))) g k ∙ sym (tree.if_else_fold U.of_statement_kind U.of_body U.of_statement c a b)

if_alike : (c c' : Expr) (a a' : Stmt) → U.expression c' ≡ U.expression c → U.statement a' ≡ U.statement a → U.statement_kind (v.If c' a' None) ≡ U.statement_kind (v.If c a None)
if_alike c c' a a' h g =
    tree.only_if_fold U.of_statement_kind U.of_body U.of_statement c' a' ∙ ap₂ (λ y z. roll-StmtKind (StmtKind-F.If y z None)) h g ∙ sym (tree.only_if_fold U.of_statement_kind U.of_body U.of_statement c a)

module _ (d : ℕ) (l l' : Language Expr) (H : Operands l l') (body body' : Language Stmt) (G : Statements body body') where
  abbrev other : Language Stmt → Expr → Stmt → Language StmtKind
  other z c a = L.◌or◌ (L.◌>>◌ (T.word d (codes "else")) (L.◌>>=◌ z (λ b. L.give (v.If c a (Some b))))) (L.◌>>◌ (L.lacks is_else) (L.give (v.If c a None)))

  -- what stands behind the first body, and the kinds of the whole
  Others : Expr → Stmt → State → StmtKind → State → Type 0
  Others c a s x n =
      (ks : Kinds) × (tokens (phrase x) ≡ t.Word (codes "if") ∷ (tokens (S.bracketed (S.expression c)) ++ (tokens (S.statement a) ++ ks)))
      × ((c' : Expr) (a' : Stmt) → U.expression c' ≡ U.expression c → U.statement a' ≡ U.statement a → Again false s n (other body' c' a') ks (λ y. U.statement_kind y ≡ U.statement_kind x))

  other_again : (c : Expr) (a : Stmt) (s : State) (x : StmtKind) (n : State) → other body c a limits s x n → Others c a s x n
  unfolding Others
  other_again c a s x n (inl (u, i, r, (b, j, q, (e, f)))) = (
    t.Word (codes "else") ∷ tokens (S.statement b),
    ap (λ z. tokens (phrase z)) e ∙ ap tokens (tree.if_else_fold S.of_statement_kind S.of_body S.of_statement c a b),
    λ c' a' h g. as_language (λ t b n r. inl r)
        (settled {C = StmtKind} (λ _. S.otherwise (S.statement b)) U.statement_kind e f
        (behind tt tt (word_again (codes "else") r) (λ _ _. made (λ b'. v.If c' a' (Some b')) (λ b' k. if_else_alike c c' a a' b b' h g k) (G i b j q)))),
  )
  other_again c a s x n (inr (u, i, (quiet, k), (e, f))) = (
    [],
    ap (λ z. tokens (phrase z)) e ∙ ap tokens (tree.only_if_fold S.of_statement_kind S.of_body S.of_statement c a),
    λ c' a' h g. as_language (λ t b n r. inr r)
        (settled {C = StmtKind} (λ _. Phrase.nothing) U.statement_kind e (f ∙ k) (made (λ _. v.If c' a' None) (λ _ _. if_alike c c' a a' h g) (lacks_again quiet))),
  )

  pub choice_again : Mirrors false phrase U.statement_kind (Z.choice d l body) (Z.choice d l' body')
  unfolding Others
  choice_again s x n (u, i, r, (c, j, q, (a, k, p, alt))) =
      let (ks, w, again) = other_again c a k x n alt in
      as_kinds (sym w)
      (behind tt tt (word_again (codes "if") r) (λ _ _. behind c refl (header_again d S.expression U.expression (L.part l) (L.part l') (test_again l l' H) i c j q) (λ c' h.
      behind a refl (G j a k p) (λ a' g. again c' a' h g))))
