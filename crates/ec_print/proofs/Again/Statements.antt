-- Statements, read again.
use Rattle.std.proofs.Common.{inl, inr, ℕ, zero, suc}
use Rattle.ec_syntax.specs.Grammar.Expressions as E
use Rattle.ec_syntax.specs.Grammar.Language as L
use Rattle.ec_syntax.specs.Grammar.Language.{Language}
use Rattle.ec_syntax.specs.Grammar.Statements as Z
use Rattle.ec_syntax.specs.Grammar.Statements.Form.{Braced, Bare}
use Rattle.ec_syntax.specs.declared.statement.Stmt.{Stmt}
use Rattle.ec_print.proofs.Again.Readings.{as_language}
use Rattle.ec_print.proofs.Again.Expressions.{expr_again}
use Rattle.ec_print.proofs.Again.Assignments.{assignment_again}
use Rattle.ec_print.proofs.Again.Simple.{statement_again, simple_again}
use Rattle.ec_print.proofs.Again.Bodies.{Statements, block_again, parallel_again, choice_again}
use Rattle.ec_print.proofs.Again.Loops.{while_again, for_again, forall_again}

module _ (n d : ℕ) (st st' : Language Stmt) (G : Statements st st') (body body' : Language Stmt) (B : Statements body body') where
  bare_again : Statements (Z.bare n d st body) (Z.bare (suc n) d st' body')
  bare_again s a o (inl r) = as_language (λ t b n r. inl r) (simple_again (suc n) d (E.expr n (suc d)) (E.expr (suc n) (suc d)) (expr_again n (suc d)) s a o r)
  bare_again s a o (inr (inl r)) = as_language (λ t b n r. inr (inl r)) (statement_again (Z.parallel d st) (Z.parallel d st') (parallel_again d st st' G) s a o r)
  bare_again s a o (inr (inr (inl r))) =
      as_language (λ t b n r. inr (inr (inl r)))
      (statement_again (Z.choice d (E.expr n (suc d)) body) (Z.choice d (E.expr (suc n) (suc d)) body') (choice_again d (E.expr n (suc d)) (E.expr (suc n) (suc d)) (expr_again n (suc d)) body body' B) s a o r)
  bare_again s a o (inr (inr (inr (inl r)))) =
      as_language (λ t b n r. inr (inr (inr (inl r))))
      (statement_again (Z.loop d (E.expr n (suc d)) body) (Z.loop d (E.expr (suc n) (suc d)) body') (while_again d (E.expr n (suc d)) (E.expr (suc n) (suc d)) (expr_again n (suc d)) body body' B) s a o r)
  bare_again s a o (inr (inr (inr (inr (inl r))))) =
      as_language (λ t b n r. inr (inr (inr (inr (inl r)))))
      (statement_again (Z.for_loop d (Z.assignment n (suc d)) (E.expr n (suc d)) body) (Z.for_loop d (Z.assignment (suc n) (suc d)) (E.expr (suc n) (suc d)) body')
      (for_again d (Z.assignment n (suc d)) (Z.assignment (suc n) (suc d)) (assignment_again n (suc d)) (E.expr n (suc d)) (E.expr (suc n) (suc d)) (expr_again n (suc d)) body body' B) s a o r)
  bare_again s a o (inr (inr (inr (inr (inr r))))) =
      as_language (λ t b n r. inr (inr (inr (inr (inr r)))))
      (statement_again (Z.forall_loop d (Z.assignment n (suc d)) (E.expr n (suc d)) body) (Z.forall_loop d (Z.assignment (suc n) (suc d)) (E.expr (suc n) (suc d)) body')
      (forall_again d (Z.assignment n (suc d)) (Z.assignment (suc n) (suc d)) (assignment_again n (suc d)) (E.expr n (suc d)) (E.expr (suc n) (suc d)) (expr_again n (suc d)) body body' B) s a o r)

either_again : (l l' k k' : Language Stmt) → Statements l l' → Statements k k' → Statements (L.◌or◌ l k) (L.◌or◌ l' k')
either_again l l' k k' H G s a n (inl r) = as_language (λ t b n r. inl r) (H s a n r)
either_again l l' k k' H G s a n (inr r) = as_language (λ t b n r. inr r) (G s a n r)

formed_again : (nested : ℕ) (form : Z.Form) (d : ℕ) → Statements (Z.formed nested form d) (Z.formed (suc nested) form d)
formed_again zero form d = λ s a n r. absurd r
formed_again (suc nested) Braced d =
    block_again d (E.expr nested (suc d)) (E.expr (suc nested) (suc d)) (expr_again nested (suc d)) (Z.stmt nested (suc d)) (Z.stmt (suc nested) (suc d))
    (either_again (Z.formed nested Braced (suc d)) (Z.formed (suc nested) Braced (suc d)) (Z.formed nested Bare (suc d)) (Z.formed (suc nested) Bare (suc d)) (formed_again nested Braced (suc d)) (formed_again nested Bare (suc d)))
formed_again (suc nested) Bare d =
    let inner = either_again (Z.formed nested Braced (suc d)) (Z.formed (suc nested) Braced (suc d)) (Z.formed nested Bare (suc d)) (Z.formed (suc nested) Bare (suc d)) (formed_again nested Braced (suc d)) (formed_again nested Bare (suc d)) in
    let block = block_again d (E.expr nested (suc d)) (E.expr (suc nested) (suc d)) (expr_again nested (suc d)) (Z.stmt nested (suc d)) (Z.stmt (suc nested) (suc d)) inner in
    bare_again nested d (Z.stmt nested (suc d)) (Z.stmt (suc nested) (suc d)) inner
    (L.◌or◌ (Z.block d (E.expr nested (suc d)) (Z.stmt nested (suc d))) (Z.formed nested Bare (suc d))) (L.◌or◌ (Z.block d (E.expr (suc nested) (suc d)) (Z.stmt (suc nested) (suc d))) (Z.formed (suc nested) Bare (suc d)))
    (either_again (Z.block d (E.expr nested (suc d)) (Z.stmt nested (suc d))) (Z.block d (E.expr (suc nested) (suc d)) (Z.stmt (suc nested) (suc d))) (Z.formed nested Bare (suc d)) (Z.formed (suc nested) Bare (suc d)) block (formed_again nested Bare (suc d)))

pub stmt_again : (nested d : ℕ) → Statements (Z.stmt nested d) (Z.stmt (suc nested) d)
stmt_again nested d = either_again (Z.formed nested Braced d) (Z.formed (suc nested) Braced d) (Z.formed nested Bare d) (Z.formed (suc nested) Bare d) (formed_again nested Braced d) (formed_again nested Bare d)
