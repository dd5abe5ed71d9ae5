-- Accesses through pointers, to fields and to items.
use Rattle.std.proofs.Common.{◌≡◌, refl, sym, ◌∙◌, ap, subst, ℕ, ◌==◌, Bool, true, false, ◌&&◌, ◌||◌, if◌then◌else◌, List, Option, Some, None, option_map, is_some, true≢false, ℤ}
use Rattle.std.proofs.lemmas.Bool.{false≢true, and_parts, eqb-true, or_parts, or_right}
use Rattle.std.specs.Bool.{then_some}
use Rattle.std.proofs.lemmas.Option.{none-some}
use Rattle.ec_base.specs.declared.text.Text.{Text}
use Rattle.ec_base.specs.declared.token.Span.{Span}
use Rattle.ec_calls.specs.Items.{struct_named}
use Rattle.ec_simple.specs.declared.form.Shape.{Shape}
use Rattle.ec_simple.specs.Expressions.{Scope, pointer}
use Rattle.ec_simple.specs.Kinds.{IsInt, IsPointer, Kinds, KindsInt}
use Rattle.ec_simple.specs.Lower.{of_struct, shapes}
use Rattle.ec_simple.specs.Meaning.{field_of as field_in_shape, shape_at}
use Rattle.ec_simple.specs.Sound.{HasField, Sound, SoundPart, behind as behind_shape, reached, whole}
use Rattle.ec_syntax.specs.declared.item.Field.{Field}
use Rattle.ec_syntax.specs.declared.name.Name.{Name}
use Rattle.ec_syntax.specs.declared.name.Ty.{Ty}
use Rattle.ec_syntax.specs.declared.item.StructDef.{StructDef}
use Rattle.ec_types.specs.declared.value_type.ExprType.{ExprType}
use Rattle.ec_types.specs.declared.value_type.ExprType.TheVariants.{Value, Null, Array, Shared, SharedName}
use Rattle.ec_types.specs.declared.value_type.ValueBase.{ValueBase}
use Rattle.ec_types.specs.declared.value_type.ValueBase.TheVariants.{Void, Int, Struct}
use Rattle.ec_types.specs.declared.value_type.ValueType.{ValueType}
use Rattle.ec_types.specs.Declarations.{is_field}
use Rattle.ec_types.specs.Meaning.Layout.{or_zero, shape_of, pointer_of, found, found_in}
use Rattle.ec_types.specs.Meaning.Resolution.{Resolved, value, place, accessed, is_struct, size_of, behind, or_number, element_at, item, indexed, field_in, type_at, field_at, arrow, dot}
use Rattle.ec_types.specs.Meaning.Tree.{FieldAt, Expr, Part, Given, Place, Element, Behind, Field as FieldOf, Item}
use Rattle.ec_types.specs.Names.{field_named}
use Rattle.ec_types.specs.Operators.{pointee, element_type, struct_behind, field_type, member}
use Rattle.ec_types.specs.Parts as parts
use Rattle.ec_types.specs.Sizes.{cells_of}
use Rattle.ec_types.specs.Types.{value_type, is_element, is_int, is_pointer, is_array, is_number, number}
use Rattle.ec_simple.proofs.sound.Points.{pointer_as, int_no_pointer}
use Rattle.ec_simple.proofs.sound.Shapes.{base_known, struct_shape, element_cells_are, whole_element, FieldIs, whole_field, has_field, found_field, field_kind, pointer_points}
use Rattle.ec_simple.proofs.sound.Types.{type_known, is_spread, single_is_no_struct, array_is_no_struct, pointee_is, pointed, pointer_is, pointer_may_stand}
use Rattle.ec_simple.proofs.sound.Good.{Accessed, Good, reached_is, with_field, place_kinds, good_access}

-- the fields of the structs are ints, pointers or arrays of ints, and their types name structs that are declared
pub record FieldFits (ss : List StructDef) (f : Field) : Type 0 where
  pub right : is_field f ≡ true
  pub known : base_known ss (value_type f.ty).base ≡ true

abbrev pub FieldsFit : List StructDef → Type 0
FieldsFit ss =
    (s : Text) (d : StructDef) → struct_named ss s ≡ Some d → (name : Text) (f : Field) →
    field_named d.fields name ≡ Some f →
    FieldFits ss f

-- ---- fields by their names

pub record Member (ss : List StructDef) (s name : Text) (t : ExprType) : Type 0 where
  pub def : StructDef
  pub is : struct_named ss s ≡ Some def
  pub field : Field
  pub there : field_named def.fields name ≡ Some field
  pub type : field_type field ≡ t

member_at :
    (ss : List StructDef) (s name : Text) (t : ExprType) (d : StructDef) → struct_named ss s ≡ Some d →
    (o : Option Field) →
    field_named d.fields name ≡ o → option_map field_type o ≡ Some t → Member ss s name t
member_at ss s name t d e None f h = absurd (none-some t h)
member_at ss s name t d e (Some x) f h = record { def = d; is = e; field = x; there = f; type = cc }

member_by :
    (ss : List StructDef) (s name : Text) (t : ExprType) (o : Option StructDef) → struct_named ss s ≡ o →
    member ss s name ≡ Some t → Member ss s name t
member_by ss s name t None e h = let g : None ≡ Some t = rw e at h in absurd (none-some t g)
member_by ss s name t (Some d) e h =
    let g : option_map field_type (field_named d.fields name) ≡ Some t = rw e at h in
    member_at ss s name t d e (field_named d.fields name) refl g

pub member_is : (ss : List StructDef) (s name : Text) (t : ExprType) → member ss s name ≡ Some t → Member ss s name t
member_is ss s name t h = member_by ss s name t (struct_named ss s) refl h

record FieldType (ss : List StructDef) (t : ExprType) (v : ValueType) (cells : ℕ) : Type 0 where
  known : type_known ss t ≡ true
  no_struct : is_struct t ≡ false
  pointer : pointer_of ss t ≡ pointer_as ss t
  points : is_some (pointer_as ss t) ≡ is_pointer v
  one : is_spread t ≡ false → cells ≡ 1

array_by : (a b : Bool) → (a || (false && b)) ≡ true → a ≡ true
array_by true b h = refl
array_by false b h = absurd (false≢true h)

field_type_by :
    (ss : List StructDef) (name : Name) (ty : Ty) (array : Option ℤ) →
    is_field (record { name = name; ty = ty; array = array }) ≡ true →
    base_known ss (value_type ty).base ≡ true →
    FieldType ss (field_type (record { name = name; ty = ty; array = array })) (value_type ty) (cells_of array)
field_type_by ss name ty None h k = record {
  known = k;
  no_struct = single_is_no_struct (value_type ty) h;
  pointer = refl;
  points = pointer_points ss (value_type ty);
  one = λ s. refl;
}
field_type_by ss name ty (Some n) h k = record {
  known = refl;
  no_struct = refl;
  pointer = refl;
  points = sym (int_no_pointer (value_type ty) (array_by (is_int (value_type ty)) (is_pointer (value_type ty)) h));
  one = λ s. absurd (true≢false s);
}

field_type_fits :
    (ss : List StructDef) (f : Field) → FieldFits ss f →
    FieldType ss (field_type f) (value_type f.ty) (cells_of f.array)
field_type_fits ss f fits = field_type_by ss f.name f.ty f.array fits.right fits.known

-- what stands at a field of a struct of this shape
record MemberKind (ss : List StructDef) (u : ExprType) (s : Shape) (a : FieldAt) (f : Field) : Type 0 where
  type : FieldType ss u (value_type f.ty) (cells_of f.array)
  has : HasField s a
  is : FieldIs s a.number (is_some (pointer_as ss u))
  one : is_spread u ≡ false → (field_in_shape s a.number).cells ≡ 1

-- an item of an array is what the array is
array_points :
    (ss : List StructDef) (t : ExprType) → is_array t ≡ true →
    is_some (pointer_as ss t) ≡ is_some (pointer_as ss number)
array_points ss Array h = refl
array_points ss t h = absurd (false≢true h)

-- ---- structs behind so many pointers

pub record StructAt (n : ℕ) (t : ExprType) (s : Text) : Type 0 where
  pub is : t ≡ Value (record { base = Struct s; stars = n })

no_name_either : {B : Type 0} (b : Bool) (s : Text) → (if b then None else None) ≡ Some s → B
no_name_either true s h = absurd (none-some s h)
no_name_either false s h = absurd (none-some s h)

struct_at_by :
    (n stars : ℕ) (r s : Text) (b : Bool) → (stars == n) ≡ b → (if b then Some r else None) ≡ Some s →
    StructAt n (Value (record { base = Struct r; stars = stars })) s
struct_at_by n stars r s true e h =
    let name : r ≡ s = cc in
    record {
      is =
          ap (λ m. Value (record { base = Struct r; stars = m })) (eqb-true stars n e)
          ∙ ap (λ x. Value (record { base = Struct x; stars = n })) name;
    }
struct_at_by n stars r s false e h = absurd (none-some s h)

value_at :
    (n : ℕ) (base : ValueBase) (stars : ℕ) (s : Text) →
    struct_behind n (Value (record { base = base; stars = stars })) ≡ Some s →
    StructAt n (Value (record { base = base; stars = stars })) s
value_at n Void stars s h = no_name_either (stars == n) s h
value_at n Int stars s h = no_name_either (stars == n) s h
value_at n (Struct r) stars s h = struct_at_by n stars r s (stars == n) refl h

pub struct_at : (n : ℕ) (t : ExprType) (s : Text) → struct_behind n t ≡ Some s → StructAt n t s
struct_at n (Value v) s h = value_at n v.base v.stars s h
struct_at n Null s h = absurd (none-some s h)
struct_at n Array s h = absurd (none-some s h)
struct_at n Shared s h = absurd (none-some s h)
struct_at n SharedName s h = absurd (none-some s h)

abbrev struct_behind_stars : Text → ℕ → ExprType
struct_behind_stars s n = Value (record { base = Struct s; stars = n })

-- ---- accesses

if_some : {A : Type 0} (b : Bool) (o : Option A) (x : A) → (if b then o else None) ≡ Some x → o ≡ Some x
if_some true o x h = h
if_some false o x h = absurd (none-some x h)

-- an expression that points at elements of this type
record Base (ss : List StructDef) (c : Scope) (sc : List ℕ) (w : ValueType) (r : Resolved) : Type 0 where
  sound : Sound (shapes ss) c sc (value r)
  kinds : Kinds (shapes ss) c (value r)
  points : IsPointer c (value r)
  number : or_zero (pointer c (value r)) ≡ shape_of ss w
  element : is_element w ≡ true
  to : behind r.type ≡ Value w
  shape : behind_shape (shapes ss) c (value r) ≡ shape_at (shapes ss) (shape_of ss w)
  size : (behind_shape (shapes ss) c (value r)).cells ≡ size_of ss (behind r.type)
  known : base_known ss w.base ≡ true

module _ (ss : List StructDef) (c : Scope) (sc : List ℕ) where
  base_at :
      (form : parts.Form) (v : ValueType) (r : Resolved) → is_pointer v ≡ true → Good ss c sc form (Value v) r →
      Base ss c sc (pointed v) r
  base_at form v r h g =
      let to : behind r.type ≡ Value (pointed v) =
      ap behind g.type ∙ ap (λ b. or_number (then_some b (Value (pointed v)))) h in
      let number : or_zero (pointer c (value r)) ≡ shape_of ss (pointed v) =
      ap or_zero (g.points ∙ pointer_is ss v h) in
      let shape : behind_shape (shapes ss) c (value r) ≡ shape_at (shapes ss) (shape_of ss (pointed v)) =
      ap (shape_at (shapes ss)) number in
      record {
        sound = g.sound (pointer_may_stand v h);
        kinds = g.kinds (pointer_may_stand v h);
        points = ap is_some (g.points ∙ pointer_is ss v h);
        number = number;
        element = (and_parts (is_element v) _ h).0;
        to = to;
        shape = shape;
        size = ap (λ x. x.cells) shape ∙ element_cells_are ss (pointed v) g.known ∙ sym (ap (size_of ss) to);
        known = g.known;
      }

  -- `*e`, and `e[i]` where e is a pointer
  element_accessed :
      (at : Span) (w : ValueType) (r : Resolved) (index : Part) → Base ss c sc w r → SoundPart (shapes ss) c sc index →
      KindsInt (shapes ss) c index →
      Accessed ss c sc (Value w) (Element at (size_of ss (behind r.type)) (value r) index)
  element_accessed at w r index b part kinds =
      let has = λ (k : is_struct (Value w) ≡ false).
      subst (λ x. HasField x whole) (sym b.shape) (whole_element ss w k) in
      record {
        pointer = refl;
        sound = (b.sound, part, b.size);
        cell = has;
        element = (b.kinds, b.points, kinds);
        field = λ k.
            subst (λ x. FieldIs x 0 (is_some (pointer_as ss (Value w)))) (sym b.shape) (whole_field ss w b.element k);
        one = λ k. (has (or_parts (is_struct (Value w)) _ k).0).length;
        shape = λ k. b.number;
      }

  element_value :
      (at : Span) (form : parts.Form) (v : ValueType) (r : Resolved) (index : Part) → is_pointer v ≡ true →
      Good ss c sc form (Value v) r → SoundPart (shapes ss) c sc index → KindsInt (shapes ss) c index →
      Good ss c sc parts.Access (Value (pointed v)) (element_at ss at r index)
  element_value at form v r index h g part kinds =
      let b = base_at form v r h g in
      let p = Element at (size_of ss (behind r.type)) (value r) index in
      subst (λ x. Good ss c sc parts.Access (Value (pointed v)) (accessed ss x p)) (sym b.to)
      (good_access ss c sc (Value (pointed v)) p b.known (element_accessed at (pointed v) r index b part kinds))

  pub good_element :
      (at : Span) (form : parts.Form) (t u : ExprType) (r : Resolved) (index : Part) → pointee t ≡ Some u →
      Good ss c sc form t r → SoundPart (shapes ss) c sc index → KindsInt (shapes ss) c index →
      Good ss c sc parts.Access u (element_at ss at r index)
  good_element at form t u r index e g part kinds =
      let p = pointee_is t u e in
      subst (λ x. Good ss c sc parts.Access x (element_at ss at r index)) (sym p.to)
      (element_value at form p.from r index p.pointer (subst (λ x. Good ss c sc form x r) p.is g) part kinds)

  -- `e[i]` where e is an array field
  item_accessed :
      (at : Span) (t : ExprType) (p : Place) (i : Expr) → is_array t ≡ true → Accessed ss c sc t p →
      Sound (shapes ss) c sc i → Kinds (shapes ss) c i → IsInt c i → Accessed ss c sc number (Item at p i)
  item_accessed at t p i h a sound kinds int =
      let no_struct = array_is_no_struct t h in
      let f = a.field no_struct in
      record {
        pointer = refl;
        sound = (a.sound, sound);
        cell = λ k. a.cell no_struct;
        element = (place_kinds ss c sc t p no_struct a, kinds, int);
        field = λ k. record { number = f.number; points = f.points ∙ array_points ss t h };
        one = λ k. tt;
        shape = λ k. absurd (false≢true k);
      }

  good_item :
      (at : Span) (form : parts.Form) (t : ExprType) (r : Resolved) (i : Expr) → is_array t ≡ true →
      Good ss c sc form t r → Sound (shapes ss) c sc i → Kinds (shapes ss) c i → IsInt c i →
      Good ss c sc parts.Access number (item ss at r i)
  good_item at form t r i h g sound kinds int =
      good_access ss c sc number (Item at (place r) i) refl
      (item_accessed at t (place r) i h (g.stands (g.access (or_right (is_struct t) (is_array t) h))) sound kinds int)

  module _ (at : Span) (form : parts.Form) (t u : ExprType) (r : Resolved) (i : Expr) (g : Good ss c sc form t r)
      (sound : Sound (shapes ss) c sc i) (kinds : Kinds (shapes ss) c i) (int : IsInt c i) where
    indexed_by :
        (b : Bool) → is_array t ≡ b → (if b then Some number else pointee t) ≡ Some u →
        Good ss c sc parts.Access u (indexed ss at r i)
    indexed_by true h e =
        let same : number ≡ u = cc in
        subst (λ b. Good ss c sc parts.Access u (if b then item ss at r i else element_at ss at r (Given i)))
        (sym (ap is_array g.type ∙ h))
        (subst (λ x. Good ss c sc parts.Access x (item ss at r i)) same (good_item at form t r i h g sound kinds int))
    indexed_by false h e =
        subst (λ b. Good ss c sc parts.Access u (if b then item ss at r i else element_at ss at r (Given i)))
        (sym (ap is_array g.type ∙ h))
        (good_element at form t u r (Given i) e g sound (kinds, int))

    pub good_indexed : (n : ExprType) → element_type t n ≡ Some u → Good ss c sc parts.Access u (indexed ss at r i)
    good_indexed n e =
        indexed_by (is_array t) refl (if_some (is_number n) (if is_array t then Some number else pointee t) u e)

  -- ---- fields

  module _ (fits : FieldsFit ss) where
    member_kind :
        (s name : Text) (u : ExprType) (m : Member ss s name u) (shape : Shape) → shape ≡ of_struct m.def →
        MemberKind ss u shape (field_at (found 0 0 m.def.fields name)) m.field
    member_kind s name u m shape is =
        let k = field_kind m.def name m.field m.there in
        let fit = field_type_fits ss m.field (fits s m.def m.is name m.field m.there) in
        let type : FieldType ss u (value_type m.field.ty) (cells_of m.field.array) =
        subst (λ x. FieldType ss x (value_type m.field.ty) (cells_of m.field.array)) m.type fit in
        subst (λ x. MemberKind ss u x (field_at (found 0 0 m.def.fields name)) m.field) (sym is) (
        record {
          type = type;
          has = has_field m.def name m.field m.there;
          is = record { number = k.is.number; points = k.is.points ∙ sym type.points };
          one = λ h. k.cells ∙ type.one h;
        }
        )

    arrow_of :
        (at : Span) (form : parts.Form) (s name : Text) (u : ExprType) (r : Resolved) → Member ss s name u →
        Good ss c sc form (struct_behind_stars s 1) r → Good ss c sc parts.Access u (arrow ss at r name)
    arrow_of at form s name u r m g =
        let b = base_at form (record { base = Struct s; stars = 1 }) r refl g in
        let size = size_of ss (behind r.type) in
        let f = found 0 0 m.def.fields name in
        let here : field_in ss 1 r.type name ≡ f =
        ap (λ t. field_in ss 1 t name) g.type ∙ ap (λ o. found_in o name) m.is in
        let l = found_field m.def name m.field m.there in
        let type : type_at f ≡ u = ap type_at l.is ∙ m.type in
        let shape = b.shape ∙ struct_shape ss s m.def m.is in
        let kind = member_kind s name u m (behind_shape (shapes ss) c (value r)) shape in
        let p = Behind at size (field_at f) (value r) in
        subst (λ o. Good ss c sc parts.Access u (accessed ss (type_at o) (Behind at size (field_at o) (value r))))
        (sym here)
        (subst (λ x. Good ss c sc parts.Access u (accessed ss x p)) (sym type)
        (good_access ss c sc u p kind.type.known (record {
          pointer = kind.type.pointer;
          sound = (b.sound, b.size, kind.has);
          cell = λ k. tt;
          element = (b.kinds, b.points, kind.is.number);
          field = λ k. kind.is;
          one = kind.one;
          shape = λ k. absurd (true≢false (sym k ∙ kind.type.no_struct));
        })))

    pub good_arrow :
        (at : Span) (form : parts.Form) (s name : Text) (t u : ExprType) (r : Resolved) → struct_behind 1 t ≡ Some s →
        member ss s name ≡ Some u → Good ss c sc form t r → Good ss c sc parts.Access u (arrow ss at r name)
    good_arrow at form s name t u r e m g =
        arrow_of at form s name u r (member_is ss s name u m)
        (subst (λ x. Good ss c sc form x r) (struct_at 1 t s e).is g)

    dot_of :
        (at : Span) (form : parts.Form) (s name : Text) (u : ExprType) (r : Resolved) → Member ss s name u →
        Good ss c sc form (struct_behind_stars s 0) r → Good ss c sc parts.Access u (dot ss at r name)
    dot_of at form s name u r m g =
        let f = found 0 0 m.def.fields name in
        let here : field_in ss 0 r.type name ≡ f =
        ap (λ t. field_in ss 0 t name) g.type ∙ ap (λ o. found_in o name) m.is in
        let l = found_field m.def name m.field m.there in
        let type : type_at f ≡ u = ap type_at l.is ∙ m.type in
        let a = g.stands (g.access refl) in
        let shape : reached (shapes ss) c (place r) ≡ of_struct m.def =
        reached_is (shapes ss) c (place r) ∙ ap (shape_at (shapes ss)) (a.shape refl)
        ∙ struct_shape ss s m.def m.is in
        let kind = member_kind s name u m (reached (shapes ss) c (place r)) shape in
        let p = FieldOf at (field_at f) (place r) in
        subst (λ o. Good ss c sc parts.Access u (accessed ss (type_at o) (FieldOf at (field_at o) (place r))))
        (sym here)
        (subst (λ x. Good ss c sc parts.Access u (accessed ss x p)) (sym type)
        (good_access ss c sc u p kind.type.known (record {
          pointer = kind.type.pointer;
          sound = (a.sound, kind.has);
          cell = λ k. tt;
          element =
              (with_field (shapes ss) c (place r) (field_at f).number a.element kind.is.number, kind.is.number);
          field = λ k. kind.is;
          one = kind.one;
          shape = λ k. absurd (true≢false (sym k ∙ kind.type.no_struct));
        })))

    pub good_dot :
        (at : Span) (form : parts.Form) (s name : Text) (t u : ExprType) (r : Resolved) → struct_behind 0 t ≡ Some s →
        member ss s name ≡ Some u → Good ss c sc form t r → Good ss c sc parts.Access u (dot ss at r name)
    good_dot at form s name t u r e m g =
        dot_of at form s name u r (member_is ss s name u m)
        (subst (λ x. Good ss c sc form x r) (struct_at 0 t s e).is g)
