-- The function that a branch or body becomes is formed where its code is, and so is its call.
use Rattle.std.proofs.Common.{◌≡◌, refl, ℕ, suc, ◌<◌, Bool, true, false, List, [], map, length, slice_get, lt-ltb, Option, Some, is_some}
use Rattle.std.specs.List.{list_all}
use Rattle.ec_base.specs.declared.token.Span.{Span}
use Rattle.ec_simple.specs.declared.form.FuncKind.TheVariants as kind
use Rattle.ec_simple.specs.declared.form.FuncKind.{FuncKind}
use Rattle.ec_simple.specs.declared.form.SFunc.{SFunc}
use Rattle.ec_simple.specs.declared.form.Form.{Form}
use Rattle.ec_simple.specs.Expressions.{Scope, variable_at, of_variable}
use Rattle.ec_simple.specs.Formed.{kind_among, kind_of, exists, alike, fits, is_call, gives_back, all_formed, is_formed_function}
use Rattle.ec_simple.specs.Kinds.{KindsStmt}
use Rattle.ec_simple.specs.Sound.{IsIn, SoundStmt}
use Rattle.ec_simple.specs.Statements.{LowStmt, index, inside, own, uses, copied_in, copied_out, outlined, outlined_call, outlined_branch, low_stmt}
use Rattle.ec_simple.specs.Uses.{Use, member, stmt_reads, stmt_writes, declares, outside}
use Rattle.ec_simple.proofs.formed.Code.{both_true, branch_formed}
use Rattle.ec_simple.proofs.formed.Fitting.{Fitting, fits_in, fitting_both, fitting_stmt}
use Rattle.ec_simple.proofs.formed.Inside.{stands_inside, ins_here, scope_inside, placed_inside}
use Rattle.ec_simple.proofs.formed.Kinds.{alike_are}
use Rattle.ec_simple.proofs.formed.Moved.{kinds_moved}
use Rattle.ec_simple.proofs.formed.Standing.{Placed, Stands}
use Rattle.ec_simple.proofs.formed.Tests.{four, or_right, all_one, all_in, alike_in}
use Rattle.ec_simple.proofs.formed.Uses.{kind_placed, exists_placed, uses_exist, in_uses, writes_unshared, branch_holds}
use Rattle.ec_simple.proofs.lockstep.Copies.{outs_in, outside_reads_in, outside_writes_in}
use Rattle.ec_simple.proofs.lockstep.Used.{IsUsed, nowhere, outside_used, numbers_used}
use Rattle.ec_simple.proofs.lockstep.Variables.{Within}
use Rattle.ec_types.specs.Meaning.Tree.{Stmt}

module _ (s : Form) (c : Scope) (more : List Use) (x : Stmt) (sc : List ℕ)
    (sound : SoundStmt s.shapes c false sc x) (below : (y : ℕ) → IsIn y sc → y < length c.variables)
    (header : (y : ℕ) → IsUsed y more → IsIn y sc) where
  abbrev ins : List ℕ
  ins = copied_in c more x

  abbrev outs : List ℕ
  outs = copied_out c x

  abbrev ns : List ℕ
  ns = own c more x

  outs_here : Within outs ins
  outs_here = outs_in s.shapes c more x sc sound below header

  -- ---- the function

  module _ (k : FuncKind) (g : ℕ) (l : LowStmt) where
    abbrev function : SFunc
    function = outlined c k more x g l

    placed : Placed (inside c more x) function.vars ns
    placed = placed_inside s c more x sc sound below header k g l

    exists_inside : (y : ℕ) → IsIn y ins → exists s function (index ns y) ≡ true
    exists_inside y i =
        exists_placed s function (inside c more x) ns placed y (scope_inside s c more x sc sound below header y i)

    kind_inside : (y : ℕ) → IsIn y ins →
        kind_among function.vars (index ns y) ≡ Some (is_some (variable_at c y).pointer)
    kind_inside y i =
        kind_placed (inside c more x) function.vars ns placed y (scope_inside s c more x sc sound below header y i)

    function_formed : Stands s c → Fitting s l.vars → all_formed s function l.code ≡ true →
        is_formed_function s function ≡ true
    function_formed stands fitting code =
        let copies = λ (y : ℕ). of_variable (variable_at c y) in
        four (list_all (fits_in s) function.vars) (list_all (exists s function) function.params)
        (list_all (exists s function) function.results) (all_formed s function l.code)
        (fitting_both s (map copies ns) l.vars
        (all_in (fits_in s) copies ns (λ y i. lt-ltb _ (length s.shapes) (stands.variables y))) fitting)
        (all_in (exists s function) (index ns) ins exists_inside)
        (all_in (exists s function) (index ns) outs (λ y i. exists_inside y (outs_here y i))) code

  pub outlined_formed : (gives : Option Bool) → Stands s c → KindsStmt s.shapes c gives x → (k : FuncKind) (g : ℕ) →
      let l = low_stmt (inside c more x) x (length (own c more x)) (suc g) in
      all_formed s (outlined c k more x g l) l.code ≡ true → is_formed_function s (outlined c k more x g l) ≡ true
  outlined_formed gives stands kinds k g code =
      function_formed k g (low_stmt (inside c more x) x (length ns) (suc g)) stands
      (fitting_stmt s (inside c more x) (stands_inside s c (index ns) stands) gives x
      (kinds_moved s.shapes c (index ns) gives x kinds) (length ns) (suc g)) code

  -- ---- its call

  module _ (f : SFunc) (here : Placed c f.vars sc) where
    alike_copy : (k : FuncKind) (g : ℕ) (l : LowStmt) (y : ℕ) → IsIn y ins →
        alike (kind_among (function k g l).vars (index ns y)) (kind_of s f (c.place y)) ≡ true
    alike_copy k g l y i =
        alike_are (kind_among (function k g l).vars (index ns y)) (kind_of s f (c.place y))
        (is_some (variable_at c y).pointer) (kind_inside k g l y i)
        (kind_placed c f.vars sc here y (ins_here s c more x sc sound below header y i))

    call_fits : (k : FuncKind) (at : Span) (g : ℕ) (l : LowStmt) →
        fits s f (outlined_call c at more x g) (function k g l) ≡ true
    call_fits k at g l =
        both_true _ _
        (alike_in (kind_among (function k g l).vars) (kind_of s f) (index ns) c.place ins (alike_copy k g l))
        (alike_in (kind_among (function k g l).vars) (kind_of s f) (index ns) c.place outs
        (λ y i. alike_copy k g l y (outs_here y i)))

    -- what is copied out is among what is written
    written : (gives : Option Bool) → KindsStmt s.shapes c gives x → (y : ℕ) → IsIn y outs →
        member (c.place y) (map (λ u. u.var) (uses c (outside (declares x) (stmt_writes x)))) ≡ true
    written gives kinds y i =
        let used = numbers_used (length c.variables) (outside (declares x) (stmt_writes x)) y i in
        in_uses c (outside (declares x) (stmt_writes x)) y
        (writes_unshared s.shapes c gives x kinds y (outside_used (declares x) (stmt_writes x) y used).0) used

    pub outlined_call_formed : (gives : Option Bool) → KindsStmt s.shapes c gives x → (test : FuncKind → Bool)
        (k : FuncKind) → test k ≡ true → (at : Span) (g : ℕ) (l : LowStmt) →
        slice_get s.funcs g ≡ Some (outlined c k more x g l) →
        (is_call s f test (outlined_call c at more x g) ≡ true)
        × (gives_back s f (outlined_call c at more x g) ≡ true)
    outlined_call_formed gives kinds test k is at g l there = (
      rw (there, is_call)
          (four _ true _ _ (both_true (test k) _ is (call_fits k at g l)) refl
          (uses_exist s f c sc here (outside (declares x) (stmt_reads x))
          (outside_reads_in s.shapes c more x sc sound below header))
          (uses_exist s f c sc here (outside (declares x) (stmt_writes x))
          (outside_writes_in s.shapes c more x sc sound below header))),
      or_right _ _
          (all_in (λ z. member z (map (λ u. u.var) (uses c (outside (declares x) (stmt_writes x))))) c.place outs
          (written gives kinds)),
    )

-- a branch that is no call branch
module _ (s : Form) (c : Scope) (x : Stmt) (sc : List ℕ) (sound : SoundStmt s.shapes c false sc x)
    (below : (y : ℕ) → IsIn y sc → y < length c.variables) where
  pub outlined_branch_formed : (f : SFunc) → Placed c f.vars sc → (gives : Option Bool) →
      KindsStmt s.shapes c gives x → (at : Span) (g : ℕ) (l : LowStmt) →
      slice_get s.funcs g ≡ Some (outlined c kind.Branch [] x g l) →
      list_all (branch_formed s f) (outlined_branch c at x g l).branches ≡ true
  outlined_branch_formed f here gives kinds at g l there =
      let h = outlined_call_formed s c [] x sc sound below (λ y i. nowhere i) f here gives kinds _ kind.Branch refl
      at g l there in
      all_one (branch_formed s f) _ (branch_holds s f [] (outlined_call c at [] x g) refl h.0 h.1)
