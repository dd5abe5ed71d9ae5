-- Loops, read again.
use Rattle.std.proofs.Common.{◌≡◌, refl, sym, ◌∙◌, ap, ap₂, ℕ, suc, false, List, codes, Option}
use Rattle.ec_base.specs.declared.token.Mark.TheVariants as m
use Rattle.ec_syntax.specs.Grammar.Language as L
use Rattle.ec_syntax.specs.Grammar.Language.{Language}
use Rattle.ec_syntax.specs.Grammar.State.{State, limits}
use Rattle.ec_syntax.specs.Grammar.Statements as Z
use Rattle.ec_syntax.specs.Grammar.Tokens as T
use Rattle.ec_syntax.specs.declared.expression.Expr.{Expr}
use Rattle.ec_syntax.specs.declared.statement.Assign.{Assign}
use Rattle.ec_syntax.specs.declared.statement.Stmt.{Stmt}
use Rattle.ec_syntax.specs.declared.statement.StmtKind.{StmtKind, roll-StmtKind}
use Rattle.ec_syntax.specs.declared.statement.StmtKind.TheOpen.{StmtKind-F}
use Rattle.ec_syntax.specs.declared.statement.StmtKind.TheVariants as v
use Rattle.ec_print.specs.Phrase.{Phrase, tokens, ◌then◌}
use Rattle.ec_print.specs.Sentence as S
use Rattle.ec_print.specs.Unplaced as U
use Rattle.ec_print.proofs.Again.Readings.{Again, as_kinds, to_state, behind}
use Rattle.ec_print.proofs.Again.Marks.{mark_again, word_again}
use Rattle.ec_print.proofs.Again.Rules.{settled, made, maybe_again}
use Rattle.ec_print.proofs.Again.Levels.{Operands}
use Rattle.ec_print.proofs.Again.Calls.{Mirrors}
use Rattle.ec_print.proofs.Again.Bodies.{Statements, header_again, test_again}
use Rattle.ec_print.proofs.Again.Simple.{phrase}
use Rattle.ec_syntax.proofs.Folds.Statements as tree

-- ---- while

while_alike : (c c' : Expr) (b b' : Stmt) → U.expression c' ≡ U.expression c → U.statement b' ≡ U.statement b → U.statement_kind (v.While c' b') ≡ U.statement_kind (v.While c b)
while_alike c c' b b' h g =
    tree.while_fold U.of_statement_kind U.of_body U.of_statement c' b' ∙ ap₂ (λ y z. roll-StmtKind (StmtKind-F.While y z)) h g ∙ sym (tree.while_fold U.of_statement_kind U.of_body U.of_statement c b)

pub while_again : (d : ℕ) (l l' : Language Expr) → Operands l l' → (body body' : Language Stmt) → Statements body body' → Mirrors false phrase U.statement_kind (Z.loop d l body) (Z.loop d l' body')
while_again d l l' H body body' G s x n (u, i, r, (c, j, q, (b, k, p, (e, f)))) =
    settled phrase U.statement_kind e f
    (as_kinds (sym (ap tokens (tree.while_fold S.of_statement_kind S.of_body S.of_statement c b)))
    (behind tt tt (word_again (codes "while") r) (λ _ _. behind c refl (header_again d S.expression U.expression (L.part l) (L.part l') (test_again l l' H) i c j q) (λ c' h.
    made (v.While c') (λ b' g. while_alike c c' b b' h g) (G j b k p)))))

-- ---- headers of loops

-- what a header and a body make is like what these make
abbrev Makes : (Stmt → StmtKind) → (Stmt → StmtKind) → Type 0
Makes make' make = (b' b : Stmt) → U.statement b' ≡ U.statement b → U.statement_kind (make' b') ≡ U.statement_kind (make b)

record HeadAgain (w : List ℕ) (head' : Language (Stmt → StmtKind)) (s : State) (make : Stmt → StmtKind) (n : State) : Type 0 where
  inside : Phrase
  written : (b : Stmt) → tokens (phrase (make b)) ≡ tokens (S.word w then S.bracketed inside then S.statement b)
  known : Makes make make
  again : Again false s n head' (tokens inside) (λ make'. Makes make' make)

abbrev loops : ℕ → List ℕ → Language (Stmt → StmtKind) → Language Stmt → Language StmtKind
loops d w head body = L.◌>>◌ (T.word d w) (L.◌>>=◌ (Z.header d head) (λ make. L.◌>>=◌ body (λ b. L.give (make b))))

loop_again : (d : ℕ) (w : List ℕ) (head head' : Language (Stmt → StmtKind)) → ((s : State) (make : Stmt → StmtKind) (n : State) → head limits s make n → HeadAgain w head' s make n) →
    (body body' : Language Stmt) → Statements body body' → Mirrors false phrase U.statement_kind (loops d w head body) (loops d w head' body')
loop_again d w head head' H body body' G s x n (u, i, r, (made_by, j, (u1, i1, r1, (make, j1, q, (u2, k1, r2, (e1, f1)))), (b, o, p, (e, f)))) =
    let fact = H i1 make j1 q in
    settled phrase U.statement_kind (e ∙ ap (λ z. z b) e1) f
    (as_kinds (sym (fact.written b))
    (behind tt tt (word_again w r) (λ _ _.
    behind make fact.known
    (to_state f1 (behind tt tt (mark_again m.OpenParen r1) (λ _ _. behind make fact.known fact.again (λ make' h. made (λ _. make') (λ _ _. h) (mark_again m.CloseParen r2)))))
    (λ make' h. made make' (λ b' g. h b' b g) (G j b o p)))))

-- ---- for

for_alike : (i i' : Option Assign) (c c' : Option Expr) (e e' : Option Assign) (b b' : Stmt) → U.optional U.assignment i' ≡ U.optional U.assignment i → U.optional U.expression c' ≡ U.optional U.expression c →
    U.optional U.assignment e' ≡ U.optional U.assignment e → U.statement b' ≡ U.statement b → U.statement_kind (v.For i' c' e' b') ≡ U.statement_kind (v.For i c e b)
for_alike i i' c c' e e' b b' h g k w =
    tree.for_fold U.of_statement_kind U.of_body U.of_statement i' c' e' b'
    ∙ ap₂ (λ y z. roll-StmtKind (StmtKind-F.For y z (U.optional U.assignment e') (U.statement b'))) h g
    ∙ ap₂ (λ y z. roll-StmtKind (StmtKind-F.For (U.optional U.assignment i) (U.optional U.expression c) y z)) k w
    ∙ sym (tree.for_fold U.of_statement_kind U.of_body U.of_statement i c e b)

forall_alike : (i i' : Assign) (c c' : Expr) (e e' : Assign) (b b' : Stmt) → U.assignment i' ≡ U.assignment i → U.expression c' ≡ U.expression c →
    U.assignment e' ≡ U.assignment e → U.statement b' ≡ U.statement b → U.statement_kind (v.Forall i' c' e' b') ≡ U.statement_kind (v.Forall i c e b)
forall_alike i i' c c' e e' b b' h g k w =
    tree.forall_fold U.of_statement_kind U.of_body U.of_statement i' c' e' b'
    ∙ ap₂ (λ y z. roll-StmtKind (StmtKind-F.Forall y z (U.assignment e') (U.statement b'))) h g
    ∙ ap₂ (λ y z. roll-StmtKind (StmtKind-F.Forall (U.assignment i) (U.expression c) y z)) k w
    ∙ sym (tree.forall_fold U.of_statement_kind U.of_body U.of_statement i c e b)

abbrev for_head : ℕ → Language Assign → Language Expr → Language (Stmt → StmtKind)
for_head d set test = L.◌>>=◌ (L.maybe (L.part set)) (λ i. L.◌>>◌ (T.mark (suc d) m.Semicolon) (L.◌>>=◌ (L.maybe (L.part test)) (λ c. L.◌>>◌ (T.mark (suc d) m.Semicolon) (L.◌>>=◌ (L.maybe (L.part set)) (λ e. L.give (λ b. v.For i c e b))))))

abbrev forall_head : ℕ → Language Assign → Language Expr → Language (Stmt → StmtKind)
forall_head d set test = L.◌>>=◌ (L.part set) (λ i. L.◌>>◌ (T.mark (suc d) m.Semicolon) (L.◌>>=◌ (L.part test) (λ c. L.◌>>◌ (T.mark (suc d) m.Semicolon) (L.◌>>=◌ (L.part set) (λ e. L.give (λ b. v.Forall i c e b))))))

module _ (d : ℕ) (set set' : Language Assign) (K : Mirrors false S.assignment U.assignment (L.part set) (L.part set')) (l l' : Language Expr) (H : Operands l l') where
  for_head_again : (s : State) (make : Stmt → StmtKind) (n : State) → for_head d set l limits s make n → HeadAgain (codes "for") (for_head d set' l') s make n
  for_head_again s make n (i, s1, r1, (u, s2, r2, (c, s3, r3, (u', s4, r4, (a, s5, r5, (e, f)))))) =
      record {
        inside = S.optional S.assignment i then S.mark m.Semicolon then S.optional S.expression c then S.mark m.Semicolon then S.optional S.assignment a;
        written = λ b. ap (λ z. tokens (phrase (z b))) e ∙ ap tokens (tree.for_fold S.of_statement_kind S.of_body S.of_statement i c a b);
        known = λ b' b h. ap (λ z. U.statement_kind (z b')) e ∙ for_alike i i c c a a b b' refl refl refl h ∙ ap (λ z. U.statement_kind (z b)) (sym e);
        again = to_state f
            (behind i refl (maybe_again S.assignment U.assignment (L.part set) K s i s1 r1) (λ i' h1. behind tt tt (mark_again m.Semicolon r2) (λ _ _.
            behind c refl (maybe_again S.expression U.expression (L.part l) (test_again l l' H) s2 c s3 r3) (λ c' h2. behind tt tt (mark_again m.Semicolon r4) (λ _ _.
            made (λ a'. λ b. v.For i' c' a' b) (λ a' h3 b' b g. for_alike i i' c c' a a' b b' h1 h2 h3 g ∙ ap (λ z. U.statement_kind (z b)) (sym e))
            (maybe_again S.assignment U.assignment (L.part set) K s4 a s5 r5))))));
      }

  forall_head_again : (s : State) (make : Stmt → StmtKind) (n : State) → forall_head d set l limits s make n → HeadAgain (codes "forall") (forall_head d set' l') s make n
  forall_head_again s make n (i, s1, r1, (u, s2, r2, (c, s3, r3, (u', s4, r4, (a, s5, r5, (e, f)))))) =
      record {
        inside = S.assignment i then S.mark m.Semicolon then S.expression c then S.mark m.Semicolon then S.assignment a;
        written = λ b. ap (λ z. tokens (phrase (z b))) e ∙ ap tokens (tree.forall_fold S.of_statement_kind S.of_body S.of_statement i c a b);
        known = λ b' b h. ap (λ z. U.statement_kind (z b')) e ∙ forall_alike i i c c a a b b' refl refl refl h ∙ ap (λ z. U.statement_kind (z b)) (sym e);
        again = to_state f
            (behind i refl (K s i s1 r1) (λ i' h1. behind tt tt (mark_again m.Semicolon r2) (λ _ _.
            behind c refl (test_again l l' H s2 c s3 r3) (λ c' h2. behind tt tt (mark_again m.Semicolon r4) (λ _ _.
            made (λ a'. λ b. v.Forall i' c' a' b) (λ a' h3 b' b g. forall_alike i i' c c' a a' b b' h1 h2 h3 g ∙ ap (λ z. U.statement_kind (z b)) (sym e))
            (K s4 a s5 r5))))));
      }

  pub for_again : (body body' : Language Stmt) → Statements body body' → Mirrors false phrase U.statement_kind (Z.for_loop d set l body) (Z.for_loop d set' l' body')
  for_again = loop_again d (codes "for") (for_head d set l) (for_head d set' l') for_head_again

  pub forall_again : (body body' : Language Stmt) → Statements body body' → Mirrors false phrase U.statement_kind (Z.forall_loop d set l body) (Z.forall_loop d set' l' body')
  forall_again = loop_again d (codes "forall") (forall_head d set l) (forall_head d set' l') forall_head_again
