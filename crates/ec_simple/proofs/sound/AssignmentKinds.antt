-- Values in statements and assignments are ints and pointers where they are asked for.
use Rattle.std.proofs.Common.{◌≡◌, refl, sym, ◌∙◌, ap, subst, ℕ, Bool, true, false, if◌then◌else◌, List, [], ◌∷◌, map, Option, Some, None, option_map, is_some, Ok}
use Rattle.std.proofs.lemmas.Bool.{or_left}
use Rattle.ec_base.specs.declared.reason.Reason.TheVariants.{Mismatch}
use Rattle.ec_base.specs.declared.text.Text.{Text}
use Rattle.ec_base.specs.declared.token.Span.{Span}
use Rattle.ec_simple.specs.Expressions.{Scope, points}
use Rattle.ec_simple.specs.Kinds.{IsInt, IsShared, AreInts, Kinds, KindsTest, KindsList, KindsAssignment, KindsOptional}
use Rattle.ec_simple.specs.Lower.{shapes}
use Rattle.ec_syntax.specs.declared.expression.Expr.{Expr}
use Rattle.ec_syntax.specs.declared.item.Func.{Func}
use Rattle.ec_syntax.specs.declared.item.StructDef.{StructDef}
use Rattle.ec_syntax.specs.declared.statement.Assign.{Assign}
use Rattle.ec_syntax.specs.declared.statement.Decl.{Decl}
use Rattle.ec_types.specs.Assignments.{assigned, condition}
use Rattle.ec_types.specs.Context.{Context}
use Rattle.ec_types.specs.declared.value_type.ExprType.{ExprType}
use Rattle.ec_types.specs.declared.value_type.ExprType.TheVariants.{Value}
use Rattle.ec_types.specs.declared.value_type.ValueType.{ValueType}
use Rattle.ec_types.specs.Expressions.{judged, value}
use Rattle.ec_types.specs.Judged.{Fine, must, ◌and_then◌, every, optional}
use Rattle.ec_types.specs.Meaning.Resolution as resolution
use Rattle.ec_types.specs.Meaning.Resolution.{Resolved, place, variable_in, is_struct, valued_as, initial}
use Rattle.ec_types.specs.Meaning.Tree.{SetVar, Store, Copy}
use Rattle.ec_types.specs.Operators.{assignable}
use Rattle.ec_types.specs.Parts as parts
use Rattle.ec_types.specs.Statements.{counts, shares, sends}
use Rattle.ec_types.specs.Types.{is_number, is_pointer, is_scalar, is_shared}
use Rattle.ec_simple.proofs.sound.Assignments.{variable_is_single, access, assignment_fits}
use Rattle.ec_simple.proofs.sound.Calls.{Becomes}
use Rattle.ec_simple.proofs.sound.Each.{Each}
use Rattle.ec_simple.proofs.sound.Expressions.{Program, there, resolving, becomes}
use Rattle.ec_simple.proofs.sound.Good.{Good, place_kinds, good_int, good_shared}
use Rattle.ec_simple.proofs.sound.Points.{put_points, assigned_points, assigned_value, assigned_shape}
use Rattle.ec_simple.proofs.sound.Right.{then_right, fine_left, fine_right, must_hold, valued_is, shared_is}
use Rattle.ec_simple.proofs.sound.Types.{may_stand, is_single, scalar_stands, number_stands, shared_stands, stands_is_not_spread, assignable_stands, assigned_values, assigned_structs}
use Rattle.ec_simple.proofs.sound.Variables.{InScope}

-- ---- what is set

module _ (ss : List StructDef) (c : Scope) (sc : List ℕ) (f g : parts.Form) (t u : ExprType) (l r : Resolved)
    (left : Good ss c sc f t l) (right : Good ss c sc g u r) (fits : assignable t u ≡ true)
    (is_place : parts.is_place f ≡ true) where
  variable_kinds :
      (x : Span × ℕ) → variable_in l.form ≡ Some x →
      KindsAssignment (shapes ss) c (SetVar x.0 x.1 (resolution.value r))
  variable_kinds x e =
      let single = variable_is_single ss c sc f g t u l r left right fits is_place x e in
      let h = left.holds x e (assigned_value t u fits) in (
        right.kinds (assigned_values t u fits single).right,
        (ap is_some right.points ∙ assigned_points ss t u fits ∙ sym (ap is_some h.pointer), h.shared),
      )

  access_kinds :
      variable_in l.form ≡ None → (b : Bool) → is_struct t ≡ b →
      KindsAssignment (shapes ss) c
      (if b then Copy (place l) (place r) else Store (place l) (resolution.value r))
  access_kinds none true e =
      let a = left.stands (access ss c sc f g t u l r left right fits is_place none) in
      let struct = assigned_structs t u fits e in
      let b = right.stands (right.access (or_left (is_struct u) _ struct)) in
      (a.element, b.element, a.shape e ∙ assigned_shape ss t u fits e ∙ sym (b.shape struct))
  access_kinds none false e =
      let a = left.stands (access ss c sc f g t u l r left right fits is_place none) in
      let stand = assigned_values t u fits e in (
        place_kinds ss c sc t (place l) e a,
        a.one (stands_is_not_spread t stand.left),
        right.kinds stand.right,
        (a.field e).points ∙ sym (ap is_some right.points ∙ assigned_points ss t u fits),
      )

  set_kinds :
      (o : Option (Span × ℕ)) → variable_in l.form ≡ o → KindsAssignment (shapes ss) c (resolution.assigned l r)
  set_kinds (Some x) e = rw e (variable_kinds x e)
  set_kinds None e =
      rw e (subst (λ b. KindsAssignment (shapes ss) c
      (if b then Copy (place l) (place r) else Store (place l) (resolution.value r)))
      (sym (ap is_struct left.type)) (access_kinds e (is_struct t) refl))

  assigned_kinds : KindsAssignment (shapes ss) c (resolution.assigned l r)
  assigned_kinds = set_kinds (variable_in l.form) refl

module _ (ss : List StructDef) (fs : List Func) (vs : List Decl) (c : Scope) (program : Program ss fs vs c)
    (prints : Text → Option Span) (result : ValueType) (inside : Bool) (scope : List Decl) (sc : List ℕ)
    (in_scope : Each (InScope ss vs sc) scope) where
  abbrev x : Context
  x = there ss fs prints result inside scope

  abbrev s : resolution.Scope
  s = resolving ss fs vs

  became : (e : Expr) → Becomes ss c sc (judged x e) (resolution.resolved s e)
  became e = becomes ss fs vs c program prints result inside scope sc in_scope e

  -- ---- values

  pub value_kinds :
      (test : ExprType → Fine) → ((t : ExprType) → test t ≡ Ok tt → may_stand t ≡ true) → (e : Expr) →
      (value x e and_then test) ≡ Ok tt → Kinds (shapes ss) c (valued_as s e)
  value_kinds test stands e h =
      let k = then_right (value x e) test tt h in
      (became e k.a (valued_is (judged x e) k.a k.first)).kinds (stands k.a k.next)

  -- a value that is put into what is of this type
  pub put_kinds :
      (v : ValueType) → is_single v ≡ true → (test : ExprType → Fine) →
      ((t : ExprType) → test t ≡ Ok tt → assignable (Value v) t ≡ true) → (e : Expr) →
      (value x e and_then test) ≡ Ok tt →
      Kinds (shapes ss) c (valued_as s e) × (points c (valued_as s e) ≡ is_pointer v)
  put_kinds v single test fits e h =
      let k = then_right (value x e) test tt h in
      let g = became e k.a (valued_is (judged x e) k.a k.first) in
      let right = fits k.a k.next in
      (g.kinds (assignable_stands v k.a single right), ap is_some g.points ∙ put_points ss v k.a right)

  pub condition_kinds : (at : Span) (e : Expr) → condition x at e ≡ Ok tt → Kinds (shapes ss) c (valued_as s e)
  condition_kinds at e h =
      value_kinds (λ t. must (is_scalar t) Mismatch at)
      (λ t k. scalar_stands t (must_hold (is_scalar t) Mismatch at k)) e h

  count_kinds :
      (at : Span) (e : Expr) → counts x at e ≡ Ok tt → Kinds (shapes ss) c (valued_as s e) × IsInt c (valued_as s e)
  count_kinds at e h =
      let k = then_right (value x e) (λ t. must (is_number t) Mismatch at) tt h in
      let int = must_hold (is_number k.a) Mismatch at k.next in
      let g = became e k.a (valued_is (judged x e) k.a k.first) in
      (g.kinds (number_stands k.a int), good_int ss c sc (judged x e).form k.a (resolution.resolved s e) g int)

  share_kinds :
      (at : Span) (e : Expr) → shares x at e ≡ Ok tt →
      Kinds (shapes ss) c (valued_as s e) × IsShared c (valued_as s e)
  share_kinds at e h =
      let k = then_right (parts.shared (judged x e)) (λ t. must (is_shared t) Mismatch at) tt h in
      let shared = must_hold (is_shared k.a) Mismatch at k.next in
      let g = became e k.a (shared_is (judged x e) k.a k.first) in
      (g.kinds (shared_stands k.a shared), good_shared ss c sc (judged x e).form k.a (resolution.resolved s e) g shared)

  pub sends_kinds :
      (at : Span) (to e : Expr) → sends x at to e ≡ Ok tt →
      Kinds (shapes ss) c (valued_as s to) × IsShared c (valued_as s to)
      × Kinds (shapes ss) c (valued_as s e) × IsInt c (valued_as s e)
  sends_kinds at to e h =
      let first = share_kinds at to (fine_left (shares x at to) (counts x at e) h) in
      let second = count_kinds at e (fine_right (shares x at to) (counts x at e) h) in
      (first.0, first.1, second.0, second.1)

  pub list_kinds :
      (at : Span) (es : List Expr) → every (map (counts x at) es) ≡ Ok tt →
      KindsList (shapes ss) c (resolution.value_list s es) × AreInts c (resolution.value_list s es)
  list_kinds at [] h = (tt, tt)
  list_kinds at (e ∷ es) h =
      let rest = every (map (counts x at) es) in
      let one = count_kinds at e (fine_left (counts x at e) rest h) in
      let more = list_kinds at es (fine_right (counts x at e) rest h) in
      ((one.0, more.0), (one.1, more.1))

  pub test_kinds :
      (at : Span) (o : Option Expr) → optional (condition x at) o ≡ Ok tt → KindsTest (shapes ss) c (initial s o)
  test_kinds at None h = tt
  test_kinds at (Some e) h = condition_kinds at e h

  -- ---- assignments

  pub assignment_kinds :
      (at : Span) (a : Assign) → assigned x at a ≡ Ok tt → KindsAssignment (shapes ss) c (resolution.assignment s a)
  assignment_kinds at a e =
      let k = assignment_fits ss fs vs c program prints result inside scope sc in_scope at a e in
      assigned_kinds ss c sc (judged x a.left).form (judged x a.right).form k.t k.u (resolution.resolved s a.left)
      (resolution.resolved s a.right) (became a.left k.t k.sides.left) (became a.right k.u k.sides.right) k.fits
      k.sides.is_place

  pub optional_kinds :
      (at : Span) (o : Option Assign) → optional (assigned x at) o ≡ Ok tt →
      KindsOptional (shapes ss) c (option_map (resolution.assignment s) o)
  optional_kinds at None h = tt
  optional_kinds at (Some a) h = assignment_kinds at a h
