-- Variables that a part uses exist in the function around it; none that it sets is shared; and branches are formed where
-- their code and their call are.
use Rattle.std.proofs.Common.{◌≡◌, refl, sym, ap, ◌∙◌, subst, ℕ, ◌⊎◌, inl, inr, ⊎_elim, Bool, true, false, not, cond, List, [], ◌∷◌, ◌++◌, map, filter, Option, Some, None, option_map, is_some, true≢false}
use Rattle.ec_simple.specs.declared.form.SCall.{SCall}
use Rattle.ec_simple.specs.declared.form.SFunc.{SFunc}
use Rattle.ec_simple.specs.declared.form.SVar.{SVar}
use Rattle.ec_simple.specs.declared.form.Shape.{Shape}
use Rattle.ec_simple.specs.declared.form.Form.{Form}
use Rattle.ec_simple.specs.declared.form.VarUse.{VarUse}
use Rattle.ec_simple.specs.Expressions.{Code, Scope, variable_at, of_variable}
use Rattle.ec_simple.specs.Formed.{kind_among, exists, all_exist, is_call, is_branch, gives_back, holds, all_formed}
use Rattle.ec_simple.specs.Kinds.{KindsAssignment, KindsOptional, KindsStmt, KindsElse, KindsStmts}
use Rattle.ec_simple.specs.Sound.{IsIn}
use Rattle.ec_simple.specs.Statements.{uses}
use Rattle.ec_simple.specs.Uses.{Use, assignment_writes, of_some, stmt_writes, else_writes, stmts_writes}
use Rattle.ec_simple.proofs.formed.Code.{both_true, All, branch_formed, branch_is, holds_all}
use Rattle.ec_simple.proofs.formed.Kinds.{exists_there}
use Rattle.ec_simple.proofs.formed.Standing.{Placed}
use Rattle.ec_simple.proofs.formed.Tests.{three}
use Rattle.ec_simple.proofs.lockstep.Used.{IsUsed, names, nowhere, used_either}
use Rattle.ec_simple.proofs.lockstep.Variables.{in_head, in_tail, head_or_tail}
use Rattle.ec_types.specs.Meaning.Tree.{Assignment, SetVar, Store, Copy, Stmt, Skip, Block, Par, If, While, For, Forall, Set, Eval, WriteTo, AddTo, Print, Return, Else, NoElse, Otherwise, Stmts, End, Then}

-- ---- variables in scope

pub kind_placed : (c : Scope) (vars : List SVar) (sc : List ℕ) → Placed c vars sc → (x : ℕ) → IsIn x sc →
    kind_among vars (c.place x) ≡ Some (is_some (variable_at c x).pointer)
kind_placed c vars sc h x i = ap (option_map (λ v. v.pointer)) (h x i)

pub exists_placed : (s : Form) (f : SFunc) (c : Scope) (sc : List ℕ) → Placed c f.vars sc → (x : ℕ) → IsIn x sc →
    exists s f (c.place x) ≡ true
exists_placed s f c sc h x i = exists_there s f (c.place x) (of_variable (variable_at c x)) (h x i)

-- ---- uses

abbrev use_of : Scope → Use → VarUse
use_of c u = record { var = c.place u.var; at = u.at }

abbrev is_use : Scope → Use → Bool
is_use c u = not (variable_at c u.var).shared

pub uses_exist : (s : Form) (f : SFunc) (c : Scope) (sc : List ℕ) → Placed c f.vars sc → (us : List Use) →
    ((y : ℕ) → IsUsed y us → IsIn y sc) → all_exist s f (uses c us) ≡ true
uses_exist s f c sc h [] w = refl
uses_exist s f c sc h (u ∷ us) w =
    go (is_use c u) (exists_placed s f c sc h u.var (w u.var (in_head u.var u.var (names us) refl)))
    (uses_exist s f c sc h us (λ y i. w y (in_tail y u.var (names us) i)))
  where
    go : (b : Bool) → exists s f (c.place u.var) ≡ true → all_exist s f (uses c us) ≡ true →
        all_exist s f (map (use_of c) (cond b (u ∷ filter (is_use c) us) (filter (is_use c) us))) ≡ true
    go true e more = both_true (exists s f (c.place u.var)) (all_exist s f (uses c us)) e more
    go false e more = more

-- a variable that isn't shared stands among the uses
pub in_uses : (c : Scope) (us : List Use) (y : ℕ) → (variable_at c y).shared ≡ false → IsUsed y us →
    IsIn (c.place y) (map (λ u. u.var) (uses c us))
in_uses c [] y n h = nowhere h
in_uses c (u ∷ us) y n h =
    go (is_use c u) refl (head_or_tail y u.var (names us) h) (λ i. in_uses c us y n i)
  where
    go : (b : Bool) → is_use c u ≡ b → (u.var ≡ y) ⊎ IsUsed y us →
        (IsUsed y us → IsIn (c.place y) (map (λ u. u.var) (uses c us))) →
        IsIn (c.place y)
        (map (λ u. u.var) (map (use_of c) (cond b (u ∷ filter (is_use c) us) (filter (is_use c) us))))
    go true q (inl e) more = in_head (c.place y) (c.place u.var) (map (λ u. u.var) (uses c us)) (ap c.place e)
    go true q (inr i) more = in_tail (c.place y) (c.place u.var) (map (λ u. u.var) (uses c us)) (more i)
    go false q (inl e) more =
        absurd (true≢false (sym (ap (λ z. not (variable_at c z).shared) e ∙ ap not n) ∙ q))
    go false q (inr i) more = more i

-- ---- what is set isn't shared

module _ (shapes : List Shape) (c : Scope) where
  abbrev Own : List Use → Type 0
  Own us = (y : ℕ) → IsUsed y us → (variable_at c y).shared ≡ false

  own_both : (us ws : List Use) → Own us → Own ws → Own (us ++ ws)
  own_both us ws h i y k = ⊎_elim (λ j. h y j) (λ j. i y j) (used_either y us ws k)

  set_unshared : (a : Assignment) → KindsAssignment shapes c a → Own (assignment_writes a)
  set_unshared (SetVar at x a) k y h =
      ⊎_elim (λ e. subst (λ z. (variable_at c z).shared ≡ false) e k.1.1) (λ i. nowhere i) (head_or_tail y x [] h)
  set_unshared (Store p a) k y h = nowhere h
  set_unshared (Copy p q) k y h = nowhere h

  optional_unshared : (a : Option Assignment) → KindsOptional shapes c a → Own (of_some assignment_writes a)
  optional_unshared None k y h = nowhere h
  optional_unshared (Some a) k y h = set_unshared a k y h

  module _ (gives : Option Bool) where
    mutual
      pub writes_unshared : (x : Stmt) → KindsStmt shapes c gives x → (y : ℕ) → IsUsed y (stmt_writes x) →
          (variable_at c y).shared ≡ false
      writes_unshared Skip k y h = nowhere h
      writes_unshared (Block ds ss) k y h = all_unshared ss k.1 y h
      writes_unshared (Par at ss) k y h = all_unshared ss k y h
      writes_unshared (If a x z) k y h =
          own_both (stmt_writes x) (else_writes z) (writes_unshared x k.1) (else_unshared z k.2) y h
      writes_unshared (While a x) k y h = writes_unshared x k.1 y h
      writes_unshared (For at a e b x) k y h =
          own_both (of_some assignment_writes a) (of_some assignment_writes b ++ stmt_writes x)
          (optional_unshared a k.0)
          (own_both (of_some assignment_writes b) (stmt_writes x) (optional_unshared b k.2) (writes_unshared x k.3)) y h
      writes_unshared (Forall at a e b x) k y h =
          own_both (assignment_writes a) (assignment_writes b ++ stmt_writes x) (set_unshared a k.0)
          (own_both (assignment_writes b) (stmt_writes x) (set_unshared b k.2) (writes_unshared x k.3)) y h
      writes_unshared (Set a) k y h = set_unshared a k y h
      writes_unshared (Eval i) k y h = nowhere h
      writes_unshared (WriteTo at p a) k y h = nowhere h
      writes_unshared (AddTo at p a) k y h = nowhere h
      writes_unshared (Print string es) k y h = nowhere h
      writes_unshared (Return e) k y h = nowhere h

      else_unshared : (z : Else) → KindsElse shapes c gives z → Own (else_writes z)
      else_unshared NoElse k y h = nowhere h
      else_unshared (Otherwise x) k y h = writes_unshared x k y h

      all_unshared : (ss : Stmts) → KindsStmts shapes c gives ss → Own (stmts_writes ss)
      all_unshared End k y h = nowhere h
      all_unshared (Then x ss) k y h =
          own_both (stmt_writes x) (stmts_writes ss) (writes_unshared x k.0) (all_unshared ss k.1) y h

-- ---- branches

pub branch_holds : (s : Form) (f : SFunc) (before : Code) (call : SCall) → all_formed s f before ≡ true →
    is_call s f (is_branch s f) call ≡ true → gives_back s f call ≡ true →
    branch_formed s f (record { before = before; call = call }) ≡ true
branch_holds s f before call h i j =
    branch_is s f before call
    ∙ three (holds s f (All s f before)) (is_call s f (is_branch s f) call) (gives_back s f call)
    (holds_all s f before h) i j
