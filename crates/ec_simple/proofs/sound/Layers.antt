-- Expressions, layer by layer: what a part became, where it is right.
use Rattle.std.proofs.Common.{◌≡◌, refl, sym, ◌∙◌, ap, subst, ℕ, ◌+◌, ◌==◌, inl, inr, Bool, true, false, ◌&&◌, if◌then◌else◌, List, map, Option, Some, None, is_some, Ok, ℤ, arith}
use Rattle.std.proofs.lemmas.Bool.{and_parts, and_from, or_right, lt-ltb}
use Rattle.std.proofs.lemmas.Option.{none-some}
use Rattle.ec_base.specs.declared.operator.BinOp.{BinOp}
use Rattle.ec_base.specs.declared.operator.UnOp.{UnOp}
use Rattle.ec_base.specs.declared.operator.UnOp.TheVariants.{Neg, Inv, Not}
use Rattle.ec_base.specs.declared.reason.Reason.TheVariants.{SharedEscapes}
use Rattle.ec_base.specs.declared.text.Text.{Text}
use Rattle.ec_base.specs.declared.token.Span.{Span}
use Rattle.ec_calls.specs.Items.{struct_named}
use Rattle.ec_simple.specs.Expressions.{Scope, pointer}
use Rattle.ec_simple.specs.Kinds.{ForUnary, ForBinary, Kinds, KindsInt}
use Rattle.ec_simple.specs.Lower.{shapes}
use Rattle.ec_simple.specs.Sound.{Sound, SoundPart}
use Rattle.ec_syntax.specs.declared.item.Func.{Func}
use Rattle.ec_syntax.specs.declared.item.StructDef.{StructDef}
use Rattle.ec_syntax.specs.declared.name.Base.{Base}
use Rattle.ec_syntax.specs.declared.name.Base.TheVariants as written
use Rattle.ec_syntax.specs.declared.name.Ty.{Ty}
use Rattle.ec_syntax.specs.declared.statement.Decl.{Decl}
use Rattle.ec_types.specs.Context.{Context, is_shared_mode}
use Rattle.ec_types.specs.declared.value_type.ExprType.{ExprType}
use Rattle.ec_types.specs.declared.value_type.ExprType.TheVariants.{Value, Null, Shared}
use Rattle.ec_types.specs.declared.value_type.ValueType.{ValueType}
use Rattle.ec_types.specs.Expressions.{named_variable, address, known_field, field_of, selected, new}
use Rattle.ec_types.specs.Judged.{Judged, refused, ◌and_then◌, both, ◌also◌, optional}
use Rattle.ec_types.specs.Meaning.Layout.{shape_of, element_cells}
use Rattle.ec_types.specs.Meaning.Resolution as resolution
use Rattle.ec_types.specs.Meaning.Resolution.{Resolved, Plain, value, valued, Calling, variable_in, variable_is, named, element_at, indexed, arrow, dot, allocated, variable}
use Rattle.ec_types.specs.Meaning.Tree.{Expr, Part as PartOf, Missing, Number, Nil, Unary, Binary, And, Or, New, ValueOf, Called}
use Rattle.ec_types.specs.Names.{variable_named, known_struct, known_base, known}
use Rattle.ec_types.specs.Operators.{operands_fit, operand_fits, binary_type, unary_type, logic_type, pointee, element_type, struct_behind, member, cast_fits, allocated as allocated_type, variable_type}
use Rattle.ec_types.specs.Parts as parts
use Rattle.ec_types.specs.Parts.{Part, part, access, typed, by_one, by_two, tested}
use Rattle.ec_types.specs.Types.{value_type, pointer_to, is_element, is_int, is_pointer, is_array, is_number, is_shared, is_scalar, number, base_of}
use Rattle.ec_simple.proofs.sound.Accesses.{FieldsFit, good_element, good_indexed, good_arrow, good_dot}
use Rattle.ec_simple.proofs.sound.Calls.{Becomes, CallBecomes}
use Rattle.ec_simple.proofs.sound.Each.{Each}
use Rattle.ec_simple.proofs.sound.Good.{Good, good_plain, good_number, good_int, good_pointer, good_shared}
use Rattle.ec_simple.proofs.sound.Points.{Alike, operands_alike}
use Rattle.ec_simple.proofs.sound.Right.{then_right, also_left, also_right, fine_right, both_left, both_right, not_right, then_some_is, typed_is, valued_is, shared_is}
use Rattle.ec_simple.proofs.sound.Shapes.{base_known, shape_below, fresh_element}
use Rattle.ec_simple.proofs.sound.Types.{operand_stands, operands_stand, scalars_stand, shared_stands, number_stands, pointed, pointer_is, single_is_not_spread}
use Rattle.ec_simple.proofs.sound.Variables.{InScope, here, good_variable, good_address}

-- ---- rules of one and of two parts

pub record One (rule : ExprType → Option ExprType) (p : Part) (u : ExprType) : Type 0 where
  pub t : ExprType
  pub is : p.is ≡ Ok t
  pub gives : rule t ≡ Some u

one_is :
    (at : Span) (rule : ExprType → Option ExprType) (p : Part) (u : ExprType) → by_one at rule p ≡ Ok u → One rule p u
one_is at rule p u e =
    let h = then_right (parts.valued p) (λ t. typed at (rule t)) u e in
    record { t = h.a; is = valued_is p h.a h.first; gives = typed_is at (rule h.a) u h.next }

pub record Two (rule : ExprType → ExprType → Option ExprType) (p q : Part) (u : ExprType) : Type 0 where
  pub t : ExprType
  pub v : ExprType
  pub left : p.is ≡ Ok t
  pub right : q.is ≡ Ok v
  pub gives : rule t v ≡ Some u

two_is :
    (at : Span) (rule : ExprType → ExprType → Option ExprType) (p q : Part) (u : ExprType) →
    by_two at rule p q ≡ Ok u → Two rule p q u
two_is at rule p q u e =
    let h = then_right (both (parts.valued p) (parts.valued q)) (λ x. typed at (rule x.0 x.1)) u e in
    record {
      t = h.a.0;
      v = h.a.1;
      left = valued_is p h.a.0 (both_left (parts.valued p) (parts.valued q) h.a h.first);
      right = valued_is q h.a.1 (both_right (parts.valued p) (parts.valued q) h.a h.first);
      gives = typed_is at (rule h.a.0 h.a.1) u h.next;
    }

-- ---- types that are written

known_by : (ss : List StructDef) (o : Option StructDef) (at : Span) → known_struct o at ≡ Ok tt → is_some o ≡ true
known_by ss None at e = not_right e
known_by ss (Some d) at e = refl

base_is_known : (ss : List StructDef) (b : Base) → known_base ss b ≡ Ok tt → base_known ss (base_of b) ≡ true
base_is_known ss written.Void e = refl
base_is_known ss written.Int e = refl
base_is_known ss (written.Struct n) e = known_by ss (struct_named ss n.text) n.at e

pub known_type : (ss : List StructDef) (ty : Ty) → known ss ty ≡ Ok tt → base_known ss (value_type ty).base ≡ true
known_type ss ty e = base_is_known ss ty.base e

-- ---- counts of `malloc`s

pub record Tested (test : ExprType → Bool) (p : Part) : Type 0 where
  pub t : ExprType
  pub is : p.is ≡ Ok t
  pub holds : test t ≡ true

pub tested_is : (test : ExprType → Bool) (p : Part) → tested test (Some p) ≡ Ok true → Tested test p
tested_is test p e =
    let h = then_right (parts.valued p) (λ t. Ok (test t)) true e in
    record { t = h.a; is = valued_is p h.a h.first; holds = let n = h.next in cc }

module _ (ss : List StructDef) (c : Scope) (sc : List ℕ) where
  becomes_number :
      (e : Expr) (t : ExprType) → variable_in (Plain e) ≡ None → number ≡ t → Sound (shapes ss) c sc e →
      Kinds (shapes ss) c e → pointer c e ≡ None → Good ss c sc parts.Other t (valued number e)
  becomes_number e t no_variable is sound kinds points =
      subst (λ u. Good ss c sc parts.Other u (valued number e)) is (good_number ss c sc e no_variable sound kinds points)

  pub of_number : (n : ℤ) (at : Span) → Becomes ss c sc (part parts.Other at (Ok number)) (valued number (Number at n))
  of_number n at t e = becomes_number (Number at n) t refl (let same : number ≡ t = cc in same) tt tt refl

  pub of_null : (at : Span) → Becomes ss c sc (part parts.Nothing at (Ok Null)) (valued Null (Nil at))
  of_null at t e =
      let same : Null ≡ t = cc in
      subst (λ u. Good ss c sc parts.Nothing u (valued Null (Nil at))) same
      (good_plain ss c sc parts.Nothing Null (Nil at) refl refl refl refl (λ h. tt) (λ h. tt) refl)

  for_unary :
      (op : UnOp) (form : parts.Form) (t : ExprType) (r : Resolved) → Good ss c sc form t r → operand_fits op t ≡ true →
      ForUnary c op (value r)
  for_unary Neg form t r g h = good_int ss c sc form t r g h
  for_unary Inv form t r g h = good_int ss c sc form t r g h
  for_unary Not form t r g h = tt

  for_binary :
      (op : BinOp) (f h : parts.Form) (t v : ExprType) (r s : Resolved) → Good ss c sc f t r → Good ss c sc h v s →
      Alike op t v → ForBinary c op (value r) (value s)
  for_binary op f h t v r s a b (inl k) = inl (good_int ss c sc f t r a k.0, good_int ss c sc h v s b k.1)
  for_binary op f h t v r s a b (inr k) =
      inr (k.0, good_pointer ss c sc f t r a k.1.0, good_pointer ss c sc h v s b k.1.1)

  pub of_unary :
      (op : UnOp) (at : Span) (p : Part) (r : Resolved) → Becomes ss c sc p r →
      Becomes ss c sc (part parts.Other at (by_one at (unary_type op) p)) (valued number (Unary at op (value r)))
  of_unary op at p r becomes u e =
      let h = one_is at (unary_type op) p u e in
      let f = then_some_is (operand_fits op h.t) number u h.gives in
      let g = becomes h.t h.is in
      let stands = operand_stands op h.t f.0 in
      becomes_number (Unary at op (value r)) u refl f.1 (g.sound stands)
      (g.kinds stands, for_unary op p.form h.t r g f.0) refl

  pub of_binary :
      (op : BinOp) (at : Span) (p q : Part) (r s : Resolved) → Becomes ss c sc p r → Becomes ss c sc q s →
      Becomes ss c sc (part parts.Other at (by_two at (binary_type op) p q))
      (valued number (Binary at op (value r) (value s)))
  of_binary op at p q r s left right u e =
      let h = two_is at (binary_type op) p q u e in
      let f = then_some_is (operands_fit op h.t h.v) number u h.gives in
      let k = operands_stand op h.t h.v f.0 in
      let a = left h.t h.left in
      let b = right h.v h.right in
      becomes_number (Binary at op (value r) (value s)) u refl f.1 (a.sound k.left, b.sound k.right) (
        a.kinds k.left,
        b.kinds k.right,
        for_binary op p.form q.form h.t h.v r s a b (operands_alike op h.t h.v f.0),
      ) refl

  pub of_and :
      (at : Span) (p q : Part) (r s : Resolved) → Becomes ss c sc p r → Becomes ss c sc q s →
      Becomes ss c sc (part parts.Other at (by_two at logic_type p q)) (valued number (And at (value r) (value s)))
  of_and at p q r s left right u e =
      let h = two_is at logic_type p q u e in
      let f = then_some_is (is_scalar h.t && is_scalar h.v) number u h.gives in
      let k = scalars_stand h.t h.v f.0 in
      let a = left h.t h.left in
      let b = right h.v h.right in
      becomes_number (And at (value r) (value s)) u refl f.1 (a.sound k.left, b.sound k.right)
      (a.kinds k.left, b.kinds k.right) refl

  pub of_or :
      (at : Span) (p q : Part) (r s : Resolved) → Becomes ss c sc p r → Becomes ss c sc q s →
      Becomes ss c sc (part parts.Other at (by_two at logic_type p q)) (valued number (Or at (value r) (value s)))
  of_or at p q r s left right u e =
      let h = two_is at logic_type p q u e in
      let f = then_some_is (is_scalar h.t && is_scalar h.v) number u h.gives in
      let k = scalars_stand h.t h.v f.0 in
      let a = left h.t h.left in
      let b = right h.v h.right in
      becomes_number (Or at (value r) (value s)) u refl f.1 (a.sound k.left, b.sound k.right)
      (a.kinds k.left, b.kinds k.right) refl

  pub of_deref :
      (local : Bool) (at : Span) (p : Part) (r : Resolved) → Becomes ss c sc p r →
      Becomes ss c sc (access local at (by_one at pointee p)) (element_at ss at r Missing)
  of_deref local at p r becomes u e =
      let h = one_is at pointee p u e in
      good_element ss c sc at p.form h.t u r Missing h.gives (becomes h.t h.is) tt tt

  -- an index is an int
  index_is_int :
      (n : ExprType) (o : Option ExprType) (u : ExprType) (b : Bool) → is_number n ≡ b →
      (if b then o else None) ≡ Some u → is_number n ≡ true
  index_is_int n o u true h e = h
  index_is_int n o u false h e = absurd (none-some u e)

  pub of_index :
      (local : Bool) (at : Span) (p q : Part) (r s : Resolved) → Becomes ss c sc p r → Becomes ss c sc q s →
      Becomes ss c sc (access local at (by_two at element_type p q)) (indexed ss at r (value s))
  of_index local at p q r s left right u e =
      let h = two_is at element_type p q u e in
      let g = right h.v h.right in
      let int : is_number h.v ≡ true =
      index_is_int h.v (if is_array h.t then Some number else pointee h.t) u (is_number h.v) refl h.gives in
      good_indexed ss c sc at p.form h.t u r (value s) (left h.t h.left) (g.sound (number_stands h.v int))
      (g.kinds (number_stands h.v int)) (good_int ss c sc q.form h.v s g int) h.v h.gives

  -- ---- `malloc`

  new_becomes :
      (at : Span) (v : ValueType) (count : PartOf) → is_element v ≡ true → base_known ss v.base ≡ true →
      SoundPart (shapes ss) c sc count × KindsInt (shapes ss) c count →
      Good ss c sc parts.Allocation (Value (pointer_to v)) (allocated ss at v count)
  new_becomes at v count element k counts =
      let pointer : is_pointer (pointer_to v) ≡ true =
      and_from (is_element v) _ element (lt-ltb 0 (v.stars + 1) (omega arith)) in
      let back : pointed (pointer_to v) ≡ v = ap (λ n. record { base = v.base; stars = n }) (omega arith) in
      good_plain ss c sc parts.Allocation (Value (pointer_to v)) (New at (shape_of ss v) (element_cells ss v) count)
      refl refl k
      (single_is_not_spread (pointer_to v) (or_right (is_int (pointer_to v)) (is_pointer (pointer_to v)) pointer))
      (λ h. (fresh_element ss v k, counts.0)) (λ h. (shape_below ss v k, counts.1))
      (sym (pointer_is ss (pointer_to v) pointer ∙ ap (λ w. Some (shape_of ss w)) back))

  pub of_new :
      (x : Context) (same : x.structs ≡ ss) (to : Option Ty) (counts : Judged Bool) (element : Ty) (at : Span)
      (count : PartOf) →
      (counts ≡ Ok true → SoundPart (shapes ss) c sc count × KindsInt (shapes ss) c count) →
      Becomes ss c sc (part parts.Allocation at (new x to counts element at))
      (allocated ss at (value_type element) count)
  of_new x same to counts element at count sound u e =
      let v = value_type element in
      let both = counts also optional (known x.structs) to also known x.structs element in
      let h = then_right both (λ fits. typed at (allocated_type to v fits)) u e in
      let f =
      then_some_is (h.a && is_element v && cast_fits to v) (Value (pointer_to v)) u
      (typed_is at (allocated_type to v h.a) u h.next) in
      let a = and_parts (h.a && is_element v) (cast_fits to v) f.0 in
      let b = and_parts h.a (is_element v) a.0 in
      let fits : counts ≡ Ok true =
      also_left counts (optional (known x.structs) to also known x.structs element) h.a h.first ∙ ap Ok b.0 in
      let rest = also_right counts (optional (known x.structs) to also known x.structs element) h.a h.first in
      let k : known ss element ≡ Ok tt =
      subst (λ l. known l element ≡ Ok tt) same
      (fine_right (optional (known x.structs) to) (known x.structs element) rest.1) in
      subst (λ y. Good ss c sc parts.Allocation y (allocated ss at v count)) f.1
      (new_becomes at v count b.1 (known_type ss element k) (sound fits))

  -- ---- `valueof`

  shared_by :
      (t u : ExprType) (b : Bool) → is_shared t ≡ b → (if b then Some number else None) ≡ Some u →
      (is_shared t ≡ true) × (number ≡ u)
  shared_by t u true h e = (h, cc)
  shared_by t u false h e = absurd (none-some u e)

  pub of_value_of :
      (at : Span) (p : Part) (r : Resolved) → Becomes ss c sc p r →
      Becomes ss c sc (part parts.Other at
      (parts.shared p and_then (λ t. typed at (if is_shared t then Some number else None))))
      (valued number (ValueOf at (value r)))
  of_value_of at p r becomes u e =
      let h = then_right (parts.shared p) (λ t. typed at (if is_shared t then Some number else None)) u e in
      let f =
      shared_by h.a u (is_shared h.a) refl (typed_is at (if is_shared h.a then Some number else None) u h.next) in
      let g = becomes h.a (shared_is p h.a h.first) in
      let stands = shared_stands h.a f.0 in
      becomes_number (ValueOf at (value r)) u refl f.1 (g.sound stands)
      (g.kinds stands, good_shared ss c sc p.form h.a r g f.0) refl

  -- ---- calls

  pub of_call :
      (at : Span) (j : Judged ExprType) (x : Calling) → CallBecomes ss c sc j x →
      Becomes ss c sc (part parts.Other at j) (valued x.1 (Called x.0))
  of_call at j x becomes t e =
      let g = becomes t e in
      subst (λ u. Good ss c sc parts.Other t (valued u (Called x.0))) (sym g.type)
      (good_plain ss c sc parts.Other t (Called x.0) refl refl g.known g.single (λ h. (g.call, g.gives h))
      (λ h. g.kinds) g.points)

  -- ---- fields

  field_by :
      (x : Context) (o : Option Text) (name : Text) (at : Span) (u : ExprType) → field_of x o name at ≡ Ok u →
      (s : Text) × (o ≡ Some s) × (member x.structs s name ≡ Some u)
  field_by x None name at u e = not_right e
  field_by x (Some s) name at u e = (s, refl, member_by (member x.structs s name) e)
    where
      member_by : (o : Option ExprType) → known_field o name at ≡ Ok u → o ≡ Some u
      member_by None h = not_right h
      member_by (Some t) h = cc

  module _ (fields : FieldsFit ss) (x : Context) (same : x.structs ≡ ss) where
    pub of_arrow :
        (local : Bool) (at : Span) (name : Text) (p : Part) (r : Resolved) → Becomes ss c sc p r →
        Becomes ss c sc (access local at (selected x 1 p name at)) (arrow ss at r name)
    of_arrow local at name p r becomes u e =
        let h = then_right (parts.valued p) (λ t. field_of x (struct_behind 1 t) name at) u e in
        let f = field_by x (struct_behind 1 h.a) name at u h.next in
        good_arrow ss c sc fields at p.form f.0 name h.a u r f.1 (subst (λ l. member l f.0 name ≡ Some u) same f.2)
        (becomes h.a (valued_is p h.a h.first))

    pub of_dot :
        (local : Bool) (at : Span) (name : Text) (p : Part) (r : Resolved) → Becomes ss c sc p r →
        Becomes ss c sc (access local at (selected x 0 p name at)) (dot ss at r name)
    of_dot local at name p r becomes u e =
        let h = then_right (parts.valued p) (λ t. field_of x (struct_behind 0 t) name at) u e in
        let f = field_by x (struct_behind 0 h.a) name at u h.next in
        good_dot ss c sc fields at p.form f.0 name h.a u r f.1 (subst (λ l. member l f.0 name ≡ Some u) same f.2)
        (becomes h.a (valued_is p h.a h.first))

-- ---- variables

module _ (ss : List StructDef) (fs : List Func) (vs : List Decl) (c : Scope)
    (variables : c.variables ≡ map (variable ss) vs)
    (sc : List ℕ) (scope : List Decl) (in_scope : Each (InScope ss vs sc) scope) (at : Span) (x : Text)
    (t : ExprType) where
  abbrev s : resolution.Scope
  s = record { structs = ss; functions = fs; variables = vs }

  pub of_variable :
      (o : Option Decl) → variable_named scope x ≡ o → named_variable o at ≡ Ok t →
      Good ss c sc (parts.Variable x) t (named s at (variable_is s x) x)
  of_variable None e h = not_right h
  of_variable (Some d) e h =
      let same : variable_type d ≡ t = cc in
      subst (λ u. Good ss c sc (parts.Variable x) u (named s at (variable_is s x) x)) same
      (good_variable ss fs vs c variables sc scope in_scope at x d (here ss fs vs c variables sc scope in_scope x d e))

  address_by : (b : Bool) → (if b then Ok Shared else refused SharedEscapes at) ≡ Ok t → (b ≡ true) × (Shared ≡ t)
  address_by true h = (refl, cc)
  address_by false h = not_right h

  pub of_address :
      (o : Option Decl) → variable_named scope x ≡ o → address o x at ≡ Ok t →
      Good ss c sc parts.Other t (named s at Shared x)
  of_address None e h = not_right h
  of_address (Some d) e h =
      let k = address_by (is_shared_mode d.mode && (d.ty.stars == 0)) h in
      subst (λ u. Good ss c sc parts.Other u (named s at Shared x)) k.1
      (good_address ss fs vs c variables sc scope in_scope at x d (here ss fs vs c variables sc scope in_scope x d e)
      (and_parts (is_shared_mode d.mode) (d.ty.stars == 0) k.0).0)
