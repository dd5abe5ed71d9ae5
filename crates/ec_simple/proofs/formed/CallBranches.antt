-- A branch that is a call is formed.
use Rattle.std.proofs.Common.{◌≡◌, refl, sym, ap, ◌∙◌, subst, ℕ, ⊎_elim, ◌+◌, Bool, true, false, if◌then◌else◌, List, [], ◌∷◌, map, length, Option, Some, None, option_map, is_some, true≢false}
use Rattle.std.specs.List.{list_all}
use Rattle.ec_base.specs.declared.token.Span.{Span}
use Rattle.ec_simple.specs.declared.form.SFunc.{SFunc}
use Rattle.ec_simple.specs.declared.form.Form.{Form}
use Rattle.ec_simple.specs.Expressions.{Scope, variable_at, function_at, gives, temporary, low_call}
use Rattle.ec_simple.specs.Formed.{kind_of, is_branch}
use Rattle.ec_simple.specs.Kinds.{given, Gets, KindsStmt}
use Rattle.ec_simple.specs.Sound.{IsIn, SoundStmt}
use Rattle.ec_simple.specs.Statements.{uses, low_call_branch, result_variables, result_numbers}
use Rattle.ec_simple.specs.Uses.{Use, member, call_reads}
use Rattle.ec_simple.proofs.formed.Arguments.{call_fits}
use Rattle.ec_simple.proofs.formed.Code.{branch_formed}
use Rattle.ec_simple.proofs.formed.Values.{invocation_formed}
use Rattle.ec_simple.proofs.formed.Standing.{At, Placed, Stands, given_kinds, at_left, at_right, at_first}
use Rattle.ec_simple.proofs.formed.Tests.{all_one, or_right}
use Rattle.ec_simple.proofs.formed.Uses.{kind_placed, uses_exist, in_uses, branch_holds}
use Rattle.ec_simple.proofs.lockstep.Scopes.{call_reads_in}
use Rattle.ec_simple.proofs.lockstep.Used.{nowhere}
use Rattle.ec_simple.proofs.lockstep.Variables.{in_head, head_or_tail}
use Rattle.ec_types.specs.Meaning.Branches.{is_call_branch}
use Rattle.ec_types.specs.Meaning.Tree.{Called, Exprs, Placing, Invoke, SetVar, Function, Stmt, Set, Eval}

-- ---- what a function gives

given_one : (f : Function) (b : Bool) → f.void ≡ false → is_some (gives f) ≡ b → Some b ∷ [] ≡ given_kinds (given f)
given_one f b e h =
    go f.void e (go_pointer f.pointer)
  where
    go_pointer : (p : Bool) → is_some (if p then Some f.shape else None) ≡ p
    go_pointer true = refl
    go_pointer false = refl

    go : (v : Bool) → v ≡ false → is_some (gives f) ≡ f.pointer →
        Some b ∷ [] ≡ given_kinds (if v then None else Some f.pointer)
    go true q i = absurd (true≢false q)
    go false q i = ap (λ z. Some z ∷ []) (sym h ∙ i)

module _ (s : Form) (f : SFunc) (c : Scope) (sc : List ℕ) (gives_it : Option Bool) (stands : Stands s c)
    (here : Placed c f.vars sc) where
  -- the result goes to a variable
  set_kinds : (x : ℕ) (at : Span) (g : ℕ) (es : Exprs) (q : Placing) → IsIn x sc → (function_at c g).void ≡ false →
      Gets s.shapes c x (Called (Invoke at g es q)) →
      map (kind_of s f) (c.place x ∷ []) ≡ given_kinds (given (function_at c g))
  set_kinds x at g es q i e k =
      ap (λ z. z ∷ []) (kind_placed c f.vars sc here x i)
      ∙ given_one (function_at c g) (is_some (variable_at c x).pointer) e k.0

  -- or to a temporary, if the function gives one
  left_kinds : (at : Span) (g t : ℕ) → At f.vars t (result_variables c at g t) →
      map (kind_of s f) (result_numbers c g t) ≡ given_kinds (given (function_at c g))
  left_kinds at g t = go (function_at c g).void refl
    where
      go : (v : Bool) → (function_at c g).void ≡ v →
          At f.vars t (if v then [] else temporary at (gives (function_at c g)) ∷ []) →
          map (kind_of s f) (if v then [] else t ∷ [])
          ≡ given_kinds (if v then None else Some (function_at c g).pointer)
      go true e h = refl
      go false e h =
          ap (λ z. option_map (λ v. v.pointer) z ∷ []) (at_first f.vars t (temporary at (gives (function_at c g))) [] h)
          ∙ ap (λ z. Some z ∷ []) (points_or_not (function_at c g).pointer)
        where
          points_or_not : (p : Bool) → is_some (if p then Some (function_at c g).shape else None) ≡ p
          points_or_not true = refl
          points_or_not false = refl

  pub call_branch_formed : (x : Stmt) → is_call_branch x ≡ true → SoundStmt s.shapes c false sc x →
      KindsStmt s.shapes c gives_it x → (t : ℕ) → At f.vars t (low_call_branch c x t).vars →
      (list_all (branch_formed s f) (low_call_branch c x t).branches ≡ true)
      × ((low_call_branch c x t).funcs ≡ [])
  call_branch_formed (Set (SetVar to x (Called (Invoke at g es q)))) e sound k t h =
      let i = Invoke at g es q in
      let l = low_call c i t in
      let w : List Use = record { var = x; at = to } ∷ [] in
      let formed = invocation_formed s f c sc stands here i sound.1.0 k.0 t h in (
        all_one (branch_formed s f) _
            (branch_holds s f l.code _ formed.code
            (call_fits s f c stands g l formed sound.1.0.0 (is_branch s f) refl (c.place x ∷ [])
            (set_kinds x at g es q sound.0 sound.1.1 k.1) (uses c (call_reads i)) (uses c w)
            (uses_exist s f c sc here (call_reads i) (call_reads_in s.shapes c sc i sound.1.0))
            (uses_exist s f c sc here w
            (λ y j. ⊎_elim (λ e. subst (λ z. IsIn z sc) e sound.0) (λ n. nowhere n) (head_or_tail y x [] j))))
            (or_right _ _
            (all_one (λ z. member z (map (λ u. u.var) (uses c w))) (c.place x)
            (in_uses c w x k.1.1 (in_head x x [] refl))))),
        refl,
      )
  call_branch_formed (Eval (Invoke at g es q)) e sound k t h =
      let i = Invoke at g es q in
      let l = low_call c i t in
      let u = t + length l.vars in
      let formed = invocation_formed s f c sc stands here i sound k t
      (at_left f.vars t l.vars (result_variables c at g u) h) in (
        all_one (branch_formed s f) _
            (branch_holds s f l.code _ formed.code
            (call_fits s f c stands g l formed sound.0 (is_branch s f) refl (result_numbers c g u)
            (left_kinds at g u (at_right f.vars t l.vars (result_variables c at g u) h))
            (uses c (call_reads i)) []
            (uses_exist s f c sc here (call_reads i) (call_reads_in s.shapes c sc i sound)) refl)
            refl),
        refl,
      )
  call_branch_formed x e sound k t h = nowhere e
