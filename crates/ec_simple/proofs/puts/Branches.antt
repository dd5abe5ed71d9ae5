-- What branches put that are the activations of their calls.
use Rattle.std.proofs.Common.{◌≡◌, refl, sym, ap, ◌∙◌, subst, ℕ, ◌+◌, List, [], ◌∷◌, length, map, Option, Some, None}
use Rattle.ec_base.specs.declared.token.Span.{Span}
use Rattle.ec_resolve.specs.declared.term.Invocation.{Invocation}
use Rattle.ec_resolve.specs.Erased as erased
use Rattle.ec_simple.specs.declared.call.Callee.{Callee}
use Rattle.ec_simple.specs.declared.form.SBranch.{SBranch}
use Rattle.ec_simple.specs.declared.form.SCall.{SCall}
use Rattle.ec_simple.specs.declared.form.VarUse.{VarUse}
use Rattle.ec_simple.specs.Direct.{to_variable, receives, writes_of}
use Rattle.ec_simple.specs.Expressions.{Code, Scope, LowCall, low_call}
use Rattle.ec_simple.specs.Puts.{Vars, more, PutsCall, PutsDirect, callee, call_of}
use Rattle.ec_simple.specs.Statements.{uses, low_call_branch, result_numbers, result_variables}
use Rattle.ec_simple.specs.Uses.{call_reads}
use Rattle.ec_simple.proofs.puts.Behind.{more_then}
use Rattle.ec_simple.proofs.puts.Terms.{is_invocation}
use Rattle.ec_types.specs.Meaning.Tree.{Exprs, exprs, Placing, OnThis, OnOwner, OnHome, OnNode, OnAny, Invoke}

call_at : (c : Scope) (at : Span) (f : ℕ) (es : Exprs) (q : Placing) (t : ℕ) → (low_call c (Invoke at f es q) t).at ≡ at
call_at c at f es OnThis t = refl
call_at c at f es (OnOwner a) t = refl
call_at c at f es OnHome t = refl
call_at c at f es (OnNode a) t = refl
call_at c at f es OnAny t = refl

abbrev pub with_call : Code → SCall → SBranch
with_call before call = record { before = before; call = call }

-- the branch, from what its parts are
branch_is :
    (l : LowCall) (before : Code) (k : Callee) (to to_is : List ℕ) (reads reads_are writes writes_are : List VarUse) →
    before ≡ l.code → k ≡ callee l → to ≡ to_is → reads ≡ reads_are → writes ≡ writes_are →
    with_call before (call_of k to reads writes) ∷ [] ≡ with_call l.code (call_of (callee l) to_is reads_are writes_are) ∷ []
branch_is l before k to to_is reads reads_are writes writes_are b e t r w =
    ap (λ z. with_call z (call_of k to reads writes) ∷ []) b
    ∙ ap (λ z. with_call l.code (call_of z to reads writes) ∷ []) e
    ∙ ap (λ z. with_call l.code (call_of (callee l) z reads writes) ∷ []) t
    ∙ ap (λ z. with_call l.code (call_of (callee l) to_is z writes) ∷ []) r
    ∙ ap (λ z. with_call l.code (call_of (callee l) to_is reads_are z) ∷ []) w

module _ (c : Scope) (before : Code) (vold vmid vnew : Vars) (k : Callee) (results : List ℕ) (reads writes : List VarUse) where
  direct :
      (to : Option (Span × ℕ)) (at : Span) (f : ℕ) (es : Exprs) (q : Placing) →
      PutsCall (low_call c (Invoke at f es q) vold.next) [] before vold vmid k → receives c f k.at results vmid vnew to →
      reads ≡ uses c (call_reads (Invoke at f es q)) → writes ≡ uses c (writes_of to) →
      PutsDirect (low_call_branch c (to_variable to (Invoke at f es q)) vold.next) (with_call before (call_of k results reads writes)) vold vnew
  direct None at f es q h g r w =
      let l = low_call c (Invoke at f es q) vold.next in
      let there : k.at ≡ at = ap (λ z. z.at) h.2 ∙ call_at c at f es q vold.next in
      let vars = result_variables c at f (vold.next + length l.vars) in (
        branch_is l before k results (result_numbers c f (vold.next + length l.vars)) reads _ writes _ h.0 h.2
            (g.0 ∙ ap (result_numbers c f) (ap (λ z. z.next) h.1)) r w,
        more_then vold vmid vnew l.vars vars h.1 (g.1 ∙ ap (λ z. more vmid (result_variables c z f vmid.next)) there),
      )
  direct (Some (there, x)) at f es q h g r w =
      let l = low_call c (Invoke at f es q) vold.next in
      (branch_is l before k results (c.place x ∷ []) reads _ writes _ h.0 h.2 g.0 r w, g.1 ∙ h.1)

  pub direct_puts :
      (to : Option (Span × ℕ)) (i : Invocation) (none : Code) (call : SCall) (b : SBranch) → none ≡ [] →
      PutsCall (low_call c (erased.invocation i) vold.next) none before vold vmid k → receives c i.function k.at results vmid vnew to →
      reads ≡ uses c (call_reads (erased.invocation i)) → writes ≡ uses c (writes_of to) → call ≡ call_of k results reads writes →
      b ≡ with_call before call → PutsDirect (low_call_branch c (to_variable to (erased.invocation i)) vold.next) b vold vnew
  direct_puts to i none call b e h g r w is made =
      let es = exprs (map erased.expression i.args) in
      let q = erased.placing i.placing in
      let t = vold.next in
      let j : erased.invocation i ≡ Invoke i.at i.function es q = is_invocation i in
      let at_none : PutsCall (low_call c (erased.invocation i) t) [] before vold vmid k =
      subst (λ z. PutsCall (low_call c (erased.invocation i) t) z before vold vmid k) e h in
      let put : PutsCall (low_call c (Invoke i.at i.function es q) t) [] before vold vmid k =
      subst (λ z. PutsCall (low_call c z t) [] before vold vmid k) j at_none in
      let here = direct to i.at i.function es q put g (r ∙ ap (λ z. uses c (call_reads z)) j) w in
      let there : PutsDirect (low_call_branch c (to_variable to (erased.invocation i)) t) (with_call before (call_of k results reads writes)) vold vnew =
      subst (λ z. PutsDirect (low_call_branch c (to_variable to z) t) (with_call before (call_of k results reads writes)) vold vnew) (sym j) here in
      subst (λ z. PutsDirect (low_call_branch c (to_variable to (erased.invocation i)) t) z vold vnew)
      (sym (made ∙ ap (with_call before) is)) there
