-- A `forall` is formed where the parts of its header are, and its body.
use Rattle.std.proofs.Common.{◌≡◌, refl, ◌∙◌, ℕ, suc, ◌+◌, Bool, true, ⊎_elim, List, [], ◌∷◌, ◌++◌, length}
use Rattle.std.proofs.lemmas.Bool.{and_from}
use Rattle.ec_base.specs.declared.token.Span.{Span}
use Rattle.ec_simple.specs.declared.form.FuncKind.TheVariants as kind
use Rattle.ec_simple.specs.declared.form.SCall.{SCall}
use Rattle.ec_simple.specs.declared.form.SFunc.{SFunc}
use Rattle.ec_simple.specs.declared.form.Shape.{Shape}
use Rattle.ec_simple.specs.declared.form.Form.{Form}
use Rattle.ec_simple.specs.declared.form.SStmt.TheVariants as code
use Rattle.ec_simple.specs.Expressions.{Scope, Low, low, variable_at, of_variable}
use Rattle.ec_simple.specs.Formed.{all_formed, exists, is_call, is_body, gives_back, all_exist}
use Rattle.ec_simple.specs.Kinds.{SetsVariable}
use Rattle.ec_simple.specs.Sound.{IsIn, SoundAssignment}
use Rattle.ec_simple.specs.Statements.{LowStmt, inside, own, uses, outlined, outlined_call, low_assignment, low_stmt, forall_loop, is_counted, loop_variable}
use Rattle.ec_simple.specs.Uses.{Use, reads, assignment_reads, assignment_writes}
use Rattle.ec_simple.proofs.formed.Branches.{outlined_forms}
use Rattle.ec_simple.proofs.formed.Assignments.{assignment_formed}
use Rattle.ec_simple.proofs.formed.Code.{formed_one, forall_is, header_is, holds_all}
use Rattle.ec_simple.proofs.formed.Kinds.{exists_there, value_exists}
use Rattle.ec_simple.proofs.formed.Outlined.{outlined_call_formed}
use Rattle.ec_simple.proofs.formed.Uses.{uses_exist}
use Rattle.ec_simple.proofs.formed.Values.{value_formed}
use Rattle.ec_simple.proofs.formed.Parts.{at_second, at_third}
use Rattle.ec_simple.proofs.formed.Spots.{Forms, in_scope, below_scope}
use Rattle.ec_simple.proofs.formed.Standing.{at_first, at_left}
use Rattle.ec_simple.proofs.lockstep.Scopes.{reads_in, assignment_reads_in, assignment_writes_in}
use Rattle.ec_simple.proofs.lockstep.Used.{IsUsed, used_either}
use Rattle.ec_types.specs.Meaning.Tree.{Expr, Assignment, SetVar, Stmt, Forall}

-- the variable that a header sets is in scope
loop_variable_in : (shapes : List Shape) (c : Scope) (sc : List ℕ) (a : Assignment) →
    SoundAssignment shapes c sc a → SetsVariable a → IsIn (loop_variable a) sc
loop_variable_in shapes c sc (SetVar at x a) f h = f.0
loop_variable_in shapes c sc a f h = absurd h

module _ (s : Form) (f : SFunc) where
  -- a header's code, and the call of its body
  module _ (c : Scope) (at : Span) (x : ℕ) (a : LowStmt) (test : Low) (b : LowStmt) (call : SCall) (counted : Bool)
      (r w : List Use) where
    pub forall_forms : exists s f (c.place x) ≡ true → all_formed s f a.code ≡ true →
        all_formed s f test.code ≡ true → exists s f test.to ≡ true → all_formed s f b.code ≡ true →
        (is_call s f (is_body s f) call ≡ true) × (gives_back s f call ≡ true) →
        all_exist s f (uses c r) ≡ true → all_exist s f (uses c w) ≡ true →
        all_formed s f (code.Forall (forall_loop c at x a test b call counted r w) ∷ []) ≡ true
    forall_forms hx ha ht hv hb hc hr hw =
        let header = forall_loop c at x a test b call counted r w in
        formed_one s f (code.Forall header)
        (forall_is s f header
        ∙ (header_is s f at (c.place x) a.code test.code test.to b.code call counted (uses c r) (uses c w)
        ∙ and_from _ _ (and_from _ _ (and_from _ _ (and_from _ _ (and_from _ _ (and_from _ _ (and_from _ _
        (and_from _ _ hx (holds_all s f a.code ha)) (holds_all s f test.code ht)) hv) (holds_all s f b.code hb))
        hc.0) hc.1) hr) hw))

module _ {s : Form} where
  pub header_forms : (at : Span) (a : Assignment) (test : Expr) (b : Assignment) (x : Stmt) → Forms s x →
      Forms s (Forall at a test b x)
  header_forms at a test b x forms z sound kinds within t g v h =
      let c = z.scope in
      let f = z.function in
      let more = assignment_writes a in
      let la = low_assignment c a t in
      let t1 = t + length la.vars in
      let lt = low c test t1 in
      let t2 = t1 + length lt.vars in
      let lb = low_assignment c b t2 in
      let lx = low_stmt (inside c more x) x (length (own c more x)) (suc g) in
      let body = outlined c kind.Body more x g lx in
      let header : (y : ℕ) → IsUsed y more → IsIn y z.sc = assignment_writes_in s.shapes c z.sc a sound.0 in
      let tests = value_formed s f c z.sc z.stands (in_scope z) test sound.1 kinds.1 t1
      (at_second f.vars t la.vars lt.vars lb.vars v) in
      let known : (y : ℕ) → IsUsed y (assignment_reads a ++ reads test ++ assignment_reads b) → IsIn y z.sc =
      λ y i. ⊎_elim
      (λ j. ⊎_elim (λ k. assignment_reads_in s.shapes c z.sc a sound.0 y k) (λ k. reads_in s.shapes c z.sc test sound.1 y k)
      (used_either y (assignment_reads a) (reads test) j))
      (λ j. assignment_reads_in s.shapes c z.sc b sound.2 y j)
      (used_either y (assignment_reads a ++ reads test) (assignment_reads b) i) in
      let set : (y : ℕ) → IsUsed y (assignment_writes a ++ assignment_writes b) → IsIn y z.sc =
      λ y i. ⊎_elim (λ j. header y j) (λ j. assignment_writes_in s.shapes c z.sc b sound.2 y j)
      (used_either y (assignment_writes a) (assignment_writes b) i) in (
        forall_forms s f c at (loop_variable a) la lt lb (outlined_call c at more x g) (is_counted a test b)
            (assignment_reads a ++ reads test ++ assignment_reads b) (assignment_writes a ++ assignment_writes b)
            (exists_there s f (c.place (loop_variable a)) (of_variable (variable_at c (loop_variable a)))
            (in_scope z (loop_variable a) (loop_variable_in s.shapes c z.sc a sound.0 kinds.4)))
            (assignment_formed s f c z.sc z.stands (in_scope z) a sound.0 kinds.0 t
            (at_left f.vars t la.vars lt.vars (at_left f.vars t (la.vars ++ lt.vars) lb.vars v)))
            tests.0 (value_exists s f c test lt.to tests.1)
            (assignment_formed s f c z.sc z.stands (in_scope z) b sound.2 kinds.2 t2
            (at_third f.vars t la.vars lt.vars lb.vars v))
            (outlined_call_formed s c more x z.sc sound.3 (below_scope z) header f (in_scope z) z.gives kinds.3
            (is_body s f) kind.Body refl at g lx (at_first s.funcs g body lx.funcs h))
            (uses_exist s f c z.sc (in_scope z) (assignment_reads a ++ reads test ++ assignment_reads b) known)
            (uses_exist s f c z.sc (in_scope z) (assignment_writes a ++ assignment_writes b) set),
        outlined_forms z more x sound.3 kinds.3 within header forms kind.Body g h,
      )
