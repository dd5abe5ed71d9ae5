-- What a reader of programs answers, in the grammar's words.
use Rattle.std.proofs.Common.{◌≡◌, refl, sym, ◌∙◌, ap, subst, ℕ, ◌+◌, ◌≤◌, ◌<◌, List, [], ◌∷◌, ◌++◌, length, take, drop, append_assoc, append-nil, length-append, length-drop, arith}
use Rattle.std.specs.Prelude.{Ok, Err}
use Rattle.std.proofs.lemmas.List.{length-map}
use Rattle.std.proofs.Math.Seq.{take-append_seam, take-append-add}
use Rattle.ec_base.specs.declared.fail.Fail.{Fail}
use Rattle.ec_base.specs.declared.fail.Fail.TheVariants.{Memory, Refused}
use Rattle.ec_base.specs.declared.token.Token.{Token}
use Rattle.ec_base.specs.declared.token.TokenKind.{TokenKind}
use Rattle.ec_base.specs.declared.token.TokenKind.TheVariants as t
use Rattle.ec_small.specs.declared.tree.Program.{Program}
use Rattle.ec_small.specs.Grammar.{Kinds, IsProgram, kinds, Begins, BeginsLexically, Refuses, Answered}
use Rattle.ec_small.specs.Descent.{Read, and_then, main, end, program, AnswersAt}
use Rattle.ec_small.proofs.Rules.{AllLexical-append}
use Rattle.ec_small.proofs.Parts.{Same, Told, same_by}
use Rattle.ec_small.proofs.Programs.{IsMain, right_main}
use Rattle.ec_small.proofs.Whole.{read_program}

whole : (ts : Kinds) (p : Program) → IsMain ts p (t.End ∷ []) → IsProgram ts p
whole ts p h = IsProgram.program h.head h.inside.decls h.inside.body.stmts refl h.inside.body.result.1

-- ---- what the descent answers

-- some program begins with what stands before r, and the token at its front is refused
abbrev Halted : Kinds → Kinds → Type 0
Halted ts r = (done : Kinds) × (ts ≡ done ++ r) × BeginsLexically done × Same program done r Err

abbrev Judged : Kinds → Read Program → Type 0
Judged ts (Ok q) = IsProgram ts q.0
Judged ts (Err r) = Halted ts r

module _ (ts : Kinds) (p : Program) (done : Kinds) (right : (after : Kinds) → IsMain (done ++ after) p after) where
  ended_by : BeginsLexically done
  ended_by = (t.End ∷ [], p, whole (done ++ t.End ∷ []) p (right (t.End ∷ [])), refl)

  another : (x : TokenKind) (r : Kinds) → ts ≡ done ++ (x ∷ r) → Same main done (x ∷ r) (λ us. Ok (p, us)) → ((behind : Kinds) → end p (x ∷ behind) ≡ Err (x ∷ behind)) → Halted ts (x ∷ r)
  another x r is same refuses = (done, is, ended_by, λ behind. ap (λ q. and_then q end) (same behind) ∙ refuses behind)

  behind_end : (x : TokenKind) (r : Kinds) → ts ≡ done ++ (t.End ∷ x ∷ r) → Same main done (t.End ∷ x ∷ r) (λ us. Ok (p, us)) → Halted ts (x ∷ r)
  behind_end x r is same = (
    done ++ t.End ∷ [],
    is ∙ sym (append_assoc done (t.End ∷ []) (x ∷ r)),
    ([], p, subst (λ l. IsProgram l p) (sym (append-nil (done ++ t.End ∷ []))) (whole (done ++ t.End ∷ []) p (right (t.End ∷ []))), refl),
    λ behind. ap program (append_assoc done (t.End ∷ []) (x ∷ behind)) ∙ ap (λ q. and_then q end) (same (x ∷ behind)),
  )

  judged_end : (us : Kinds) → ts ≡ done ++ us → Same main done us (λ us. Ok (p, us)) → Judged ts (end p us)
  judged_end [] is same = (done, is, ended_by, tt)
  judged_end (t.End ∷ []) is same = whole ts p (subst (λ l. IsMain l p (t.End ∷ [])) (sym is) (right (t.End ∷ [])))
  judged_end (t.End ∷ x ∷ r) is same = behind_end x r is same
  judged_end (t.Word w ∷ r) is same = another (t.Word w) r is same (λ behind. refl)
  judged_end (t.Number n ∷ r) is same = another (t.Number n) r is same (λ behind. refl)
  judged_end (t.Str s ∷ r) is same = another (t.Str s) r is same (λ behind. refl)
  judged_end (t.Mark k ∷ r) is same = another (t.Mark k) r is same (λ behind. refl)

judged : (ts : Kinds) → Judged ts (program ts)
judged ts = by (main ts) (right_main ts)
  where
    by : (q : Read Program) → Told IsMain main ts q → Judged ts (and_then q end)
    by (Ok q) h = judged_end ts q.0 h.0 h.2 q.1 h.1 h.3
    by (Err r) h = (
      h.0,
      h.1,
      (h.2.0 ++ t.End ∷ [], h.2.1, whole (h.0 ++ (h.2.0 ++ t.End ∷ [])) h.2.1 (h.2.2 (t.End ∷ [])), AllLexical-append h.2.0 (t.End ∷ []) h.2.3 refl),
      same_by main program h.0 h.0 r Err Err (λ x behind e. ap (λ q. and_then q end) e) h.3,
    )

-- what is read is a program
pub reads : (ts : Kinds) (p : Program) (rest : Kinds) → program ts ≡ Ok (p, rest) → IsProgram ts p
reads ts p rest e = subst (λ q. Judged ts q) e (judged ts)

-- ---- by the places of tokens

no_program : (ts r : Kinds) (p : Program) → program ts ≡ Err r → IsProgram ts p → ⊥
no_program ts r p e h = let here = read_program h in absurd (cc)

-- no program begins with the token that is refused
goes_no_further : (done r : Kinds) → Same program done r Err → length done < length (done ++ r) → Begins (take (length done + 1) (done ++ r)) → ⊥
goes_no_further done [] same short b = absurd (omega (arith, length-append done []))
goes_no_further done (x ∷ r) same short b =
    let c : Begins (done ++ x ∷ []) = rw (take-append-add done (x ∷ r) 1) at b in
    no_program (done ++ (x ∷ c.0)) (x ∷ c.0) c.1 (same c.0) (subst (λ l. IsProgram l c.1) (append_assoc done (x ∷ []) c.0) c.2)

pub kinds_length : (tokens : List Token) → length (kinds tokens) ≡ length tokens
kinds_length tokens = length-map tokens (λ x. x.kind)

refuses : (tokens : List Token) (at : ℕ) (done r : Kinds) → kinds tokens ≡ done ++ r → length done ≡ at → at ≤ length tokens → BeginsLexically done → Same program done r Err → program (kinds tokens) ≡ Err r → Refuses tokens at
refuses tokens at done r is long within begins same stops = record {
  before = subst (λ l. BeginsLexically (take at l)) (sym is) (subst (λ n. BeginsLexically (take n (done ++ r))) long (rw (take-append_seam done r) begins));
  here = λ h b. goes_no_further done r same (omega (arith, ap length is, kinds_length tokens)) (subst (λ n. Begins (take (n + 1) (done ++ r))) (sym long) (subst (λ l. Begins (take (at + 1) l)) is b));
  no_program = λ p h. no_program (kinds tokens) r p stops h;
  within = within;
}

pub refused : (tokens : List Token) (at : ℕ) → at ≤ length tokens → program (kinds tokens) ≡ Err (kinds (drop at tokens)) → Refuses tokens at
refused tokens at within e =
    let h : Halted (kinds tokens) (kinds (drop at tokens)) = subst (λ q. Judged (kinds tokens) q) e (judged (kinds tokens)) in
    refuses tokens at h.0 (kinds (drop at tokens)) h.1 (omega (arith, ap length h.1, length-append h.0 (kinds (drop at tokens)), kinds_length tokens, kinds_length (drop at tokens), length-drop at tokens)) within h.2 h.3 e

-- a refusal is told by its place
pub answered : (tokens : List Token) (e : Fail ℕ) → AnswersAt {A = Program} tokens (Err e) (program (kinds tokens)) → Answered tokens (Err e)
answered tokens Memory h = tt
answered tokens (Refused at) h = refused tokens at h.0 h.1
