-- Values in statements, assignments and declarations.
use Rattle.std.proofs.Common.{◌≡◌, refl, sym, ◌∙◌, ap, subst, ℕ, Bool, true, false, not, ◌||◌, if◌then◌else◌, List, [], ◌∷◌, map, Option, Some, None, option_map, is_some, true≢false, Ok}
use Rattle.std.proofs.lemmas.Bool.{false≢true, or_left}
use Rattle.std.proofs.lemmas.Option.{none-some}
use Rattle.ec_base.specs.declared.reason.Reason.TheVariants.{Mismatch}
use Rattle.ec_base.specs.declared.text.Text.{Text}
use Rattle.ec_base.specs.declared.token.Span.{Span}
use Rattle.ec_simple.specs.Expressions.{Scope}
use Rattle.ec_simple.specs.Lower.{shapes}
use Rattle.ec_simple.specs.Sound.{IsCell, Sound, SoundPart, SoundList, SoundAssignment, SoundOptional}
use Rattle.ec_syntax.specs.declared.expression.Expr.{Expr}
use Rattle.ec_syntax.specs.declared.item.Func.{Func}
use Rattle.ec_syntax.specs.declared.item.StructDef.{StructDef}
use Rattle.ec_syntax.specs.declared.statement.Assign.{Assign}
use Rattle.ec_syntax.specs.declared.statement.Decl.{Decl}
use Rattle.ec_types.specs.Assignments.{no_array, element, set_place, sides, fits_into, assigned, condition}
use Rattle.ec_types.specs.Arguments.{stays_local}
use Rattle.ec_types.specs.Context.{Context, is_local, is_local_variable}
use Rattle.ec_types.specs.declared.value_type.ExprType.{ExprType}
use Rattle.ec_types.specs.declared.value_type.ValueType.{ValueType}
use Rattle.ec_types.specs.Expressions.{judged, value}
use Rattle.ec_types.specs.Judged.{Fine, must, ◌and_then◌, every, optional}
use Rattle.ec_types.specs.Meaning.Resolution as resolution
use Rattle.ec_types.specs.Meaning.Resolution.{Form, Plain, Access, Resolved, place, variable_in, is_struct, valued_as, initial}
use Rattle.ec_types.specs.Meaning.Tree.{SetVar, Store, Copy}
use Rattle.ec_types.specs.Operators.{assignable}
use Rattle.ec_types.specs.Parts as parts
use Rattle.ec_types.specs.Parts.{Part}
use Rattle.ec_types.specs.Statements.{counts, shares, sends}
use Rattle.ec_types.specs.Types.{is_array, is_number, is_scalar, is_shared}
use Rattle.ec_simple.proofs.sound.Calls.{Becomes}
use Rattle.ec_simple.proofs.sound.Each.{Each}
use Rattle.ec_simple.proofs.sound.Expressions.{Program, there, resolving, becomes}
use Rattle.ec_simple.proofs.sound.Good.{Good, is_access}
use Rattle.ec_simple.proofs.sound.Right.{then_right, also_left, also_right, fine_left, fine_right, both_left, both_right, must_hold, valued_is, shared_is}
use Rattle.ec_simple.proofs.sound.Types.{may_stand, scalar_stands, number_stands, shared_stands, assigned_values, assigned_structs}
use Rattle.ec_simple.proofs.sound.Variables.{InScope}

-- ---- what is set

-- the sides of an assignment: what is set is a place, and no array
pub record Sides (l r : Part) (t u : ExprType) : Type 0 where
  pub left : l.is ≡ Ok t
  pub right : r.is ≡ Ok u
  pub is_place : parts.is_place l.form ≡ true

element_is : (l : Part) (t : ExprType) → element l ≡ Ok t → l.is ≡ Ok t
element_is l t e =
    let h = then_right (parts.valued l) (no_array l.at) t e in
    let same = also_left (Ok h.a) (must (not (is_array h.a)) Mismatch l.at) t h.next in
    let first = h.first in
    valued_is l t cc

pub sides_are : (l r : Part) (p : ExprType × ExprType) → sides l r ≡ Ok p → Sides l r p.0 p.1
sides_are l r p e =
    let set = both_left (set_place l) (parts.valued r) p e in
    record {
      left = element_is l p.0 (also_left (element l) (must (parts.is_place l.form) Mismatch l.at) p.0 set);
      right = valued_is r p.1 (both_right (set_place l) (parts.valued r) p e);
      is_place =
          must_hold (parts.is_place l.form) Mismatch l.at
          (also_right (element l) (must (parts.is_place l.form) Mismatch l.at) p.0 set).1;
    }

module _ (ss : List StructDef) (c : Scope) (sc : List ℕ) where
  -- a value that is an access
  value_access :
      (form : Form) → is_access form ≡ true → Sound (shapes ss) c sc (resolution.value_of form) →
      IsCell (shapes ss) c (resolution.place_of form)
  value_access (Plain e) h sound = absurd (false≢true h)
  value_access (Access q p) h sound = sound.1

  no_variable : (form : Form) (x : Span × ℕ) → variable_in form ≡ Some x → is_access form ≡ false
  no_variable (Plain e) x h = refl
  no_variable (Access q p) x h = absurd (none-some x h)

  is_there : (b : Bool) → (b ≡ false → ⊥) → b ≡ true
  is_there true h = refl
  is_there false h = absurd (h refl)

  no_other : (b : Bool) → (b ≡ true → ⊥) → b ≡ false
  no_other true h = absurd (h refl)
  no_other false h = refl

  module _ (f g : parts.Form) (t u : ExprType) (l r : Resolved) (left : Good ss c sc f t l) (right : Good ss c sc g u r)
      (fits : assignable t u ≡ true) (is_place : parts.is_place f ≡ true) where
    pub variable_is_single : (x : Span × ℕ) → variable_in l.form ≡ Some x → is_struct t ≡ false
    variable_is_single x e =
        let plain : is_access l.form ≡ false = no_variable l.form x e in
        no_other (is_struct t) (λ k. true≢false (sym (left.access (or_left (is_struct t) _ k)) ∙ plain))

    set_variable :
        (x : Span × ℕ) → variable_in l.form ≡ Some x →
        SoundAssignment (shapes ss) c sc (SetVar x.0 x.1 (resolution.value r))
    set_variable x e = (left.set x e, right.sound (assigned_values t u fits (variable_is_single x e)).right)

    module _ (none : variable_in l.form ≡ None) where
      pub access : is_access l.form ≡ true
      access = is_there (is_access l.form) (λ k. true≢false (sym (left.left is_place k) ∙ ap is_some none))

      set_access :
          (b : Bool) → is_struct t ≡ b →
          SoundAssignment (shapes ss) c sc
          (if b then Copy (place l) (place r) else Store (place l) (resolution.value r))
      set_access true e =
          let r = right.stands (right.access (or_left (is_struct u) _ (assigned_structs t u fits e))) in
          ((left.stands access).sound, r.sound)
      set_access false e =
          let stand = assigned_values t u fits e in
          ((left.stands access).sound, value_access l.form access (left.sound stand.left), right.sound stand.right)

    set_sound :
        (o : Option (Span × ℕ)) → variable_in l.form ≡ o → SoundAssignment (shapes ss) c sc (resolution.assigned l r)
    set_sound (Some x) e = rw e (set_variable x e)
    set_sound None e =
        rw e (subst (λ b. SoundAssignment (shapes ss) c sc
        (if b then Copy (place l) (place r) else Store (place l) (resolution.value r)))
        (sym (ap is_struct left.type)) (set_access e (is_struct t) refl))

    pub assigned_sound : SoundAssignment (shapes ss) c sc (resolution.assigned l r)
    assigned_sound = set_sound (variable_in l.form) refl

module _ (ss : List StructDef) (fs : List Func) (vs : List Decl) (c : Scope) (program : Program ss fs vs c)
    (prints : Text → Option Span) (result : ValueType) (inside : Bool) (scope : List Decl) (sc : List ℕ)
    (in_scope : Each (InScope ss vs sc) scope) where
  abbrev x : Context
  x = there ss fs prints result inside scope

  abbrev s : resolution.Scope
  s = resolving ss fs vs

  became : (e : Expr) → Becomes ss c sc (judged x e) (resolution.resolved s e)
  became e = becomes ss fs vs c program prints result inside scope sc in_scope e

  -- ---- values

  pub value_sound :
      (test : ExprType → Fine) → ((t : ExprType) → test t ≡ Ok tt → may_stand t ≡ true) → (e : Expr) →
      (value x e and_then test) ≡ Ok tt → Sound (shapes ss) c sc (valued_as s e)
  value_sound test stands e h =
      let k = then_right (value x e) test tt h in
      (became e k.a (valued_is (judged x e) k.a k.first)).sound (stands k.a k.next)

  pub condition_sound : (at : Span) (e : Expr) → condition x at e ≡ Ok tt → Sound (shapes ss) c sc (valued_as s e)
  condition_sound at e h =
      value_sound (λ t. must (is_scalar t) Mismatch at)
      (λ t k. scalar_stands t (must_hold (is_scalar t) Mismatch at k)) e h

  pub count_sound : (at : Span) (e : Expr) → counts x at e ≡ Ok tt → Sound (shapes ss) c sc (valued_as s e)
  count_sound at e h =
      value_sound (λ t. must (is_number t) Mismatch at)
      (λ t k. number_stands t (must_hold (is_number t) Mismatch at k)) e h

  share_sound : (at : Span) (e : Expr) → shares x at e ≡ Ok tt → Sound (shapes ss) c sc (valued_as s e)
  share_sound at e h =
      let k = then_right (parts.shared (judged x e)) (λ t. must (is_shared t) Mismatch at) tt h in
      (became e k.a (shared_is (judged x e) k.a k.first)).sound
      (shared_stands k.a (must_hold (is_shared k.a) Mismatch at k.next))

  pub sends_sound :
      (at : Span) (to e : Expr) → sends x at to e ≡ Ok tt →
      Sound (shapes ss) c sc (valued_as s to) × Sound (shapes ss) c sc (valued_as s e)
  sends_sound at to e h = (
    share_sound at to (fine_left (shares x at to) (counts x at e) h),
    count_sound at e
        (fine_right (shares x at to) (counts x at e) h),
  )

  pub list_sound :
      (at : Span) (es : List Expr) → every (map (counts x at) es) ≡ Ok tt →
      SoundList (shapes ss) c sc (resolution.value_list s es)
  list_sound at [] h = tt
  list_sound at (e ∷ es) h =
      let rest = every (map (counts x at) es) in
      (count_sound at e (fine_left (counts x at e) rest h), list_sound at es (fine_right (counts x at e) rest h))

  pub test_sound :
      (at : Span) (o : Option Expr) → optional (condition x at) o ≡ Ok tt → SoundPart (shapes ss) c sc (initial s o)
  test_sound at None h = tt
  test_sound at (Some e) h = condition_sound at e h

  -- ---- assignments

  -- the sides of a right assignment
  pub record Fits (a : Assign) : Type 0 where
    pub t : ExprType
    pub u : ExprType
    pub sides : Sides (judged x a.left) (judged x a.right) t u
    pub fits : assignable t u ≡ true

  pub assignment_fits : (at : Span) (a : Assign) → assigned x at a ≡ Ok tt → Fits a
  assignment_fits at a e =
      let l = judged x a.left in
      let r = judged x a.right in
      let local = is_local_variable x l.form in
      let h = then_right (sides l r) (λ p. fits_into x at p.0 local r p.1) tt e in
      record {
        t = h.a.0;
        u = h.a.1;
        sides = sides_are l r h.a h.first;
        fits =
            must_hold (assignable h.a.0 h.a.1) Mismatch at
            (fine_left (must (assignable h.a.0 h.a.1) Mismatch at)
            (stays_local (not local || is_local x r.form) r.at h.a.1) h.next);
      }

  pub assignment_sound :
      (at : Span) (a : Assign) → assigned x at a ≡ Ok tt → SoundAssignment (shapes ss) c sc (resolution.assignment s a)
  assignment_sound at a e =
      let k = assignment_fits at a e in
      assigned_sound ss c sc (judged x a.left).form (judged x a.right).form k.t k.u (resolution.resolved s a.left)
      (resolution.resolved s a.right) (became a.left k.t k.sides.left) (became a.right k.u k.sides.right) k.fits
      k.sides.is_place

  pub optional_sound :
      (at : Span) (o : Option Assign) → optional (assigned x at) o ≡ Ok tt →
      SoundOptional (shapes ss) c sc (option_map (resolution.assignment s) o)
  optional_sound at None h = tt
  optional_sound at (Some a) h = assignment_sound at a h
