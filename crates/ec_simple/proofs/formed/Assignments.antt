-- Assignments, declarations and evaluated calls of typed programs have code that is formed.
use Rattle.std.proofs.Common.{◌≡◌, refl, sym, ap, ◌∙◌, ℕ, ◌+◌, Bool, true, false, ◌&&◌, ◌==◌, List, [], ◌∷◌, ◌++◌, length, Option, Some, None, is_some, eq-eqb, if◌then◌else◌}
use Rattle.ec_simple.specs.declared.form.SExpr.TheVariants as e
use Rattle.ec_simple.specs.declared.form.SFunc.{SFunc}
use Rattle.ec_simple.specs.declared.form.SStmt.TheVariants as stmt
use Rattle.ec_simple.specs.declared.form.Form.{Form}
use Rattle.ec_simple.specs.Expressions.{Scope, Low, LowCall, variable_at, function_at, of_variable, points, plain_call, low, low_place, low_call}
use Rattle.ec_simple.specs.Formed.{is_value, kind_of, is_element, is_written, is_formed, all_formed}
use Rattle.ec_simple.specs.Kinds.{Gets, KindsCall, KindsAssignment, KindsOptional, KindsDecl, KindsDecls}
use Rattle.ec_simple.specs.Meaning.{first_value}
use Rattle.ec_simple.specs.Sound.{IsIn, SoundCall, SoundAssignment, SoundOptional, SoundDecl, SoundDecls, with_declared}
use Rattle.ec_simple.specs.Statements.{low_assignment, low_optional, low_declaration, low_declarations, unused, low_evaluated, first}
use Rattle.ec_simple.specs.Uses.{declared}
use Rattle.ec_simple.proofs.formed.Accesses.{cell_formed}
use Rattle.ec_simple.proofs.formed.Arguments.{call_fits}
use Rattle.ec_simple.proofs.formed.Code.{both_true, set_formed, store_formed, copy_formed, share_formed, call_formed, formed_both, formed_one, formed_last}
use Rattle.ec_simple.proofs.formed.Kinds.{alike_are, kind_there, points_at_there, value_kind}
use Rattle.ec_simple.proofs.formed.Standing.{At, at_left, at_right, Placed, Stands, FormedLow, given_kinds}
use Rattle.ec_simple.proofs.formed.Values.{value_formed, place_formed, copied_formed, invocation_formed}
use Rattle.ec_simple.proofs.lockstep.Scopes.{still_in}
use Rattle.ec_simple.proofs.lockstep.Variables.{in_head}
use Rattle.ec_types.specs.Meaning.Layout.{or_zero}
use Rattle.ec_types.specs.Meaning.Tree.{Expr, Called, Missing, Given, Invocation, Invoke, Assignment, SetVar, Store, Copy, Decl, Plain, Shared}
use Rattle.ec_types.specs.Meaning.Values.{Val}

module _ (s : Form) (f : SFunc) (c : Scope) where
  -- the variable gets the value of an expression
  gets_formed : (sc : List ℕ) → Placed c f.vars sc → (x : ℕ) → IsIn x sc → (a : Expr) → Gets s.shapes c x a → (la : Low) →
      FormedLow s f c a la → is_formed s f (stmt.Set (c.place x) (e.Var la.to)) ≡ true
  gets_formed sc here x i a k la h =
      set_formed s f (c.place x) (e.Var la.to)
      ∙ alike_are (kind_of s f (c.place x)) (kind_of s f la.to) (points c a)
      (kind_there f.vars (c.place x) (of_variable (variable_at c x)) (here x i) ∙ ap Some (sym k.0)) (value_kind s f c a la.to h.1)

-- ---- statements in a scope

module _ (s : Form) (f : SFunc) (c : Scope) (sc : List ℕ) (stands : Stands s c) (here : Placed c f.vars sc) where
  pub assignment_formed : (a : Assignment) → SoundAssignment s.shapes c sc a → KindsAssignment s.shapes c a → (t : ℕ) →
      At f.vars t (low_assignment c a t).vars → all_formed s f (low_assignment c a t).code ≡ true
  assignment_formed (SetVar at x a) y k t h =
      let la = low c a t in
      let r = value_formed s f c sc stands here a y.1 k.0 t h in
      formed_last s f la.code (stmt.Set (c.place x) (e.Var la.to)) r.0 (gets_formed s f c sc here x y.0 a k.1 la r)
  assignment_formed (Store p a) y k t h =
      let l = low_place c p t in
      let u = t + length l.vars in
      let la = low c a u in
      let q = place_formed s f c sc stands here p y.0 k.0 t (at_left f.vars t l.vars la.vars h) in
      let r = value_formed s f c sc stands here a y.2 k.2 u (at_right f.vars t l.vars la.vars h) in
      formed_last s f (l.code ++ la.code) (stmt.Store l.place la.to) (formed_both s f l.code la.code q.code r.0)
      (store_formed s f l.place la.to
      ∙ cell_formed s f c p l q k.1 (kind_of s f la.to) (points c a) (value_kind s f c a la.to r.1) k.3)
  assignment_formed (Copy p q) y k t h =
      let l = low_place c p t in
      let u = t + length l.vars in
      let m = low_place c q u in
      let i = copied_formed s f c sc stands here p y.0 k.0 t (at_left f.vars t l.vars m.vars h) in
      let j = copied_formed s f c sc stands here q y.1 k.1 u (at_right f.vars t l.vars m.vars h) in
      let same = i.shape ∙ (k.2 ∙ sym j.shape) in
      let a = is_element s f l.place in
      let b = is_element s f m.place in
      formed_last s f (l.code ++ m.code) (stmt.Copy l.place m.place) (formed_both s f l.code m.code i.code j.code)
      (copy_formed s f l.place m.place
      ∙ both_true (a && b) (l.place.shape == m.place.shape)
      (both_true a b i.element j.element)
      (eq-eqb l.place.shape m.place.shape same))

  pub optional_formed : (a : Option Assignment) → SoundOptional s.shapes c sc a → KindsOptional s.shapes c a → (t : ℕ) →
      At f.vars t (low_optional c a t).vars → all_formed s f (low_optional c a t).code ≡ true
  optional_formed None y k t h = refl
  optional_formed (Some a) y k t h = assignment_formed a y k t h

  -- a call whose result isn't used
  pub evaluated_formed : (i : Invocation) → SoundCall s.shapes c sc i → KindsCall s.shapes c i → (t : ℕ) →
      At f.vars t (low_evaluated c i t).vars → all_formed s f (low_evaluated c i t).code ≡ true
  evaluated_formed (Invoke at g es q) y k t h = go (function_at c g).void refl h
    where
      l : LowCall
      l = low_call c (Invoke at g es q) t

      go : (z : Bool) → (function_at c g).void ≡ z → At f.vars t (unused c l t z (Called (Invoke at g es q))).vars →
          all_formed s f (unused c l t z (Called (Invoke at g es q))).code ≡ true
      go false e h = (value_formed s f c sc stands here (Called (Invoke at g es q)) (y, e) k t h).0
      go true e h =
          let r = invocation_formed s f c sc stands here (Invoke at g es q) y k t h in
          formed_last s f l.code (stmt.Call (plain_call l [])) r.code
          (call_formed s f (plain_call l [])
          ∙ call_fits s f c stands g l r y.0 (is_written s f) refl []
          (ap (λ z. given_kinds (if z then None else Some (function_at c g).pointer)) (sym e)) [] [] refl refl)

-- ---- declarations

module _ (s : Form) (f : SFunc) (c : Scope) (stands : Stands s c) where
  -- 0 or NULL
  first_formed : (x : ℕ) (b : Bool) → kind_of s f x ≡ Some b → is_formed s f (stmt.Set x (first (first_value b))) ≡ true
  first_formed x true k = set_formed s f x e.Null ∙ ap (λ z. is_value s f z e.Null) k
  first_formed x false k = set_formed s f x (first (first_value false)) ∙ ap (λ z. is_value s f z (first (first_value false))) k

  declared_formed : (sc : List ℕ) → Placed c f.vars sc → (x : ℕ) → IsIn x sc → (v : Val) →
      v ≡ first_value (is_some (variable_at c x).pointer) → is_formed s f (stmt.Set (c.place x) (first v)) ≡ true
  declared_formed sc here x i v e =
      let b = is_some (variable_at c x).pointer in
      ap (λ z. is_formed s f (stmt.Set (c.place x) (first z))) e
      ∙ first_formed (c.place x) b (kind_there f.vars (c.place x) (of_variable (variable_at c x)) (here x i))

  -- one that is in scope
  declaration_formed : (d : Decl) (sc : List ℕ) → Placed c f.vars (declared d ∷ sc) → SoundDecl s.shapes c sc d →
      KindsDecl s.shapes c d → (t : ℕ) → At f.vars t (low_declaration c d t).vars →
      all_formed s f (low_declaration c d t).code ≡ true
  declaration_formed (Plain x v Missing) sc here y k t h =
      formed_one s f (stmt.Set (c.place x) (first v)) (declared_formed (x ∷ sc) here x (in_head x x sc refl) v k.0)
  declaration_formed (Plain x v (Given a)) sc here y k t h =
      let i = in_head x x sc refl in
      let la = low c a t in
      let r = value_formed s f c (x ∷ sc) stands here a y.2 k.1.0 t h in
      both_true (is_formed s f (stmt.Set (c.place x) (first v))) (all_formed s f (la.code ++ stmt.Set (c.place x) (e.Var la.to) ∷ []))
      (declared_formed (x ∷ sc) here x i v k.0)
      (formed_last s f la.code (stmt.Set (c.place x) (e.Var la.to)) r.0 (gets_formed s f c (x ∷ sc) here x i a k.1.1 la r))
  declaration_formed (Shared x) sc here y k t h =
      let v = of_variable (variable_at c x) in
      formed_one s f (stmt.Share (c.place x) (variable_at c x).at)
      (share_formed s f (c.place x) (variable_at c x).at
      ∙ points_at_there s f 0 (c.place x) v (here x (in_head x x sc refl)) (ap is_some k) (ap or_zero k))

  pub declarations_formed : (ds : List Decl) (sc : List ℕ) → Placed c f.vars (with_declared s.shapes c ds sc) →
      SoundDecls s.shapes c sc ds → KindsDecls s.shapes c ds → (t : ℕ) → At f.vars t (low_declarations c ds t).vars →
      all_formed s f (low_declarations c ds t).code ≡ true
  declarations_formed [] sc here y k t h = refl
  declarations_formed (d ∷ ds) sc here y k t h =
      let l = low_declaration c d t in
      let u = t + length l.vars in
      let m = low_declarations c ds u in
      formed_both s f l.code m.code
      (declaration_formed d sc (λ x i. here x (still_in s.shapes c ds (declared d ∷ sc) x i)) y.0 k.0 t
      (at_left f.vars t l.vars m.vars h))
      (declarations_formed ds (declared d ∷ sc) here y.1 k.1 u (at_right f.vars t l.vars m.vars h))
