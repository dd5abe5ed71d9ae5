-- Which types values have, and what stands behind pointers.
use Rattle.std.proofs.Common.{◌≡◌, refl, sym, ◌∙◌, ap, subst, ℕ, zero, suc, ◌<◌, ◌-◌, ◌==◌, Bool, true, false, ◌&&◌, ◌||◌, if◌then◌else◌, List, Option, Some, None, is_some, true≢false, arith}
use Rattle.std.proofs.lemmas.Bool.{false≢true, and_parts, or_left, or_right, ltb-true, lt-ltb, ne_eqb, eqb-true}
use Rattle.std.specs.Bool.{then_some}
use Rattle.ec_base.specs.declared.operator.BinOp.{BinOp}
use Rattle.ec_base.specs.declared.operator.BinOp.TheVariants as binary
use Rattle.ec_base.specs.declared.operator.UnOp.{UnOp}
use Rattle.ec_base.specs.declared.operator.UnOp.TheVariants.{Neg, Inv, Not}
use Rattle.ec_base.specs.declared.text.Text.{Text}
use Rattle.ec_syntax.specs.declared.item.StructDef.{StructDef}
use Rattle.ec_types.specs.declared.value_type.ExprType.{ExprType}
use Rattle.ec_types.specs.declared.value_type.ExprType.TheVariants.{Value, Null, Array, Shared, SharedName}
use Rattle.ec_types.specs.declared.value_type.ValueBase.{ValueBase}
use Rattle.ec_types.specs.declared.value_type.ValueBase.TheVariants.{Void, Int, Struct}
use Rattle.ec_types.specs.declared.value_type.ValueType.{ValueType}
use Rattle.ec_types.specs.Meaning.Layout.{shape_of, pointer_of}
use Rattle.ec_types.specs.Meaning.Resolution.{is_struct}
use Rattle.ec_types.specs.Meaning.Tree.{Shape}
use Rattle.ec_types.specs.Operators.{comparable, operands_fit, operand_fits, pointee, assignable}
use Rattle.ec_types.specs.Types.{same_base, same_type, is_element, is_int, is_void, is_pointer, is_null, is_array, is_shared, is_number, points, is_scalar}
use Rattle.ec_types.proofs.Places.{same_is}
use Rattle.ec_simple.proofs.sound.Shapes.{base_known}

-- ---- what may be a value: an int, a pointer or NULL, or what is shared

abbrev pub may_stand : ExprType → Bool
may_stand t = is_scalar t || is_shared t

-- a struct or an array stands only as an access
abbrev pub is_spread : ExprType → Bool
is_spread t = is_struct t || is_array t

-- an int or a pointer
abbrev pub is_single : ValueType → Bool
is_single v = is_int v || is_pointer v

abbrev pub type_known : List StructDef → ExprType → Bool
type_known ss (Value v) = base_known ss v.base
type_known ss t = true

-- the shape of what is a whole element
abbrev pub type_shape : List StructDef → ExprType → Shape
type_shape ss (Value v) = shape_of ss v
type_shape ss t = 0

-- ---- an int or a pointer

single_stands_by : (a b : Bool) → (a || b) ≡ true → ((a || (b || false)) || false) ≡ true
single_stands_by true b e = refl
single_stands_by false true e = refl
single_stands_by false false e = e

pub single_stands : (v : ValueType) → is_single v ≡ true → may_stand (Value v) ≡ true
single_stands v e = single_stands_by (is_int v) (is_pointer v) e

stands_single_by : (a b : Bool) → ((a || (b || false)) || false) ≡ true → (a || b) ≡ true
stands_single_by true b e = refl
stands_single_by false true e = refl
stands_single_by false false e = e

stands_single : (v : ValueType) → may_stand (Value v) ≡ true → is_single v ≡ true
stands_single v e = stands_single_by (is_int v) (is_pointer v) e

abbrev pub no_name : Option Text
no_name = None

pub none_either : (b : Bool) → is_some (if b then no_name else no_name) ≡ false
none_either true = refl
none_either false = refl

no_struct_by :
    (base : ValueBase) (stars : ℕ) → is_single (record { base = base; stars = stars }) ≡ true →
    is_struct (Value (record { base = base; stars = stars })) ≡ false
no_struct_by Void stars e = none_either (stars == 0)
no_struct_by Int stars e = none_either (stars == 0)
no_struct_by (Struct s) stars e =
    let some : 0 < stars = ltb-true 0 stars e in
    ap (λ b. is_some (if b then Some s else None)) (ne_eqb stars 0 (λ z. omega (arith, z, some)))

pub single_is_no_struct : (v : ValueType) → is_single v ≡ true → is_struct (Value v) ≡ false
single_is_no_struct v e = no_struct_by v.base v.stars e

pub single_is_not_spread : (v : ValueType) → is_single v ≡ true → is_spread (Value v) ≡ false
single_is_not_spread v e = ap (λ b. b || false) (single_is_no_struct v e)

-- ---- what may be a value is no struct

pub array_is_no_struct : (t : ExprType) → is_array t ≡ true → is_struct t ≡ false
array_is_no_struct Array h = refl
array_is_no_struct t h = absurd (false≢true h)

pub stands_is_no_struct : (t : ExprType) → may_stand t ≡ true → is_struct t ≡ false
stands_is_no_struct (Value v) e = single_is_no_struct v (stands_single v e)
stands_is_no_struct Null e = refl
stands_is_no_struct Array e = refl
stands_is_no_struct Shared e = refl
stands_is_no_struct SharedName e = refl

pub stands_is_not_spread : (t : ExprType) → may_stand t ≡ true → is_spread t ≡ false
stands_is_not_spread (Value v) e = single_is_not_spread v (stands_single v e)
stands_is_not_spread Null e = refl
stands_is_not_spread Array e = absurd (false≢true e)
stands_is_not_spread Shared e = refl
stands_is_not_spread SharedName e = refl

pub scalar_stands : (t : ExprType) → is_scalar t ≡ true → may_stand t ≡ true
scalar_stands t e = or_left (is_scalar t) (is_shared t) e

pub shared_stands : (t : ExprType) → is_shared t ≡ true → may_stand t ≡ true
shared_stands t e = or_right (is_scalar t) (is_shared t) e

pub number_stands : (t : ExprType) → is_number t ≡ true → may_stand t ≡ true
number_stands t e = scalar_stands t (or_left (is_number t) (points t) e)

pub pointer_stands : (t : ExprType) → points t ≡ true → may_stand t ≡ true
pointer_stands t e = scalar_stands t (or_right (is_number t) (points t) e)

-- what may be a value is more than what a void function gives
void_single :
    (base : ValueBase) (stars : ℕ) → is_single (record { base = base; stars = stars }) ≡ true →
    is_void (record { base = base; stars = stars }) ≡ false
void_single Void stars e = absurd (false≢true e)
void_single Int stars e = refl
void_single (Struct s) stars e = refl

pub stands_gives : (v : ValueType) → may_stand (Value v) ≡ true → is_void v ≡ false
stands_gives v e = void_single v.base v.stars (stands_single v e)

-- ---- operators

pub operand_stands : (op : UnOp) (t : ExprType) → operand_fits op t ≡ true → may_stand t ≡ true
operand_stands Neg t e = number_stands t e
operand_stands Inv t e = number_stands t e
operand_stands Not t e = scalar_stands t e

pub record Stand (a b : ExprType) : Type 0 where
  pub left : may_stand a ≡ true
  pub right : may_stand b ≡ true

same_base_is : (a b : ValueBase) → same_base a b ≡ true → a ≡ b
same_base_is Void Void e = refl
same_base_is Int Int e = refl
same_base_is (Struct s) (Struct t) e = ap Struct (same_is s t e)
same_base_is Void Int e = absurd (false≢true e)
same_base_is Void (Struct t) e = absurd (false≢true e)
same_base_is Int Void e = absurd (false≢true e)
same_base_is Int (Struct t) e = absurd (false≢true e)
same_base_is (Struct s) Void e = absurd (false≢true e)
same_base_is (Struct s) Int e = absurd (false≢true e)

pub same_type_is : (t u : ValueType) → same_type t u ≡ true → t ≡ u
same_type_is t u e =
    let h = and_parts (same_base t.base u.base) (t.stars == u.stars) e in
    ap (λ b. record { base = b; stars = t.stars }) (same_base_is t.base u.base h.0)
    ∙ ap (λ n. record { base = u.base; stars = n }) (eqb-true t.stars u.stars h.1)

both_point : (a b : ExprType) → (points a && points b && (is_null a || is_null b)) ≡ true → Stand a b
both_point a b e =
    let h = and_parts (points a && points b) (is_null a || is_null b) e in
    let k = and_parts (points a) (points b) h.0 in
    record { left = pointer_stands a k.0; right = pointer_stands b k.1 }

comparable_stand : (a b : ExprType) → comparable a b ≡ true → Stand a b
comparable_stand (Value t) (Value u) e =
    let h = and_parts (is_single t) (same_type t u) e in
    let stands = single_stands t h.0 in
    record { left = stands; right = subst (λ v. may_stand (Value v) ≡ true) (same_type_is t u h.1) stands }
comparable_stand (Value t) Null e = both_point (Value t) Null e
comparable_stand (Value t) Array e = both_point (Value t) Array e
comparable_stand (Value t) Shared e = both_point (Value t) Shared e
comparable_stand (Value t) SharedName e = both_point (Value t) SharedName e
comparable_stand Null b e = both_point Null b e
comparable_stand Array b e = both_point Array b e
comparable_stand Shared b e = both_point Shared b e
comparable_stand SharedName b e = both_point SharedName b e

numbers_stand : (a b : ExprType) → (is_number a && is_number b) ≡ true → Stand a b
numbers_stand a b e =
    let h = and_parts (is_number a) (is_number b) e in
    record { left = number_stands a h.0; right = number_stands b h.1 }

pub operands_stand : (op : BinOp) (a b : ExprType) → operands_fit op a b ≡ true → Stand a b
operands_stand binary.Eq a b e = comparable_stand a b e
operands_stand binary.Ne a b e = comparable_stand a b e
operands_stand op a b e = numbers_stand a b e

pub scalars_stand : (a b : ExprType) → (is_scalar a && is_scalar b) ≡ true → Stand a b
scalars_stand a b e =
    let h = and_parts (is_scalar a) (is_scalar b) e in
    record { left = scalar_stands a h.0; right = scalar_stands b h.1 }

-- ---- what may be put into an int or a pointer

pub assignable_stands :
    (v : ValueType) (u : ExprType) → is_single v ≡ true → assignable (Value v) u ≡ true → may_stand u ≡ true
assignable_stands v (Value u) s e =
    let h = and_parts (is_element v) (same_type v u) e in
    subst (λ w. may_stand (Value w) ≡ true) (same_type_is v u h.1) (single_stands v s)
assignable_stands v Null s e = refl
assignable_stands v Array s e = absurd (false≢true e)
assignable_stands v Shared s e = absurd (false≢true e)
assignable_stands v SharedName s e = absurd (false≢true e)

-- an element that is no struct
element_by :
    (base : ValueBase) (stars : ℕ) → is_element (record { base = base; stars = stars }) ≡ true →
    is_struct (Value (record { base = base; stars = stars })) ≡ false →
    is_single (record { base = base; stars = stars }) ≡ true
element_by Void stars e n = absurd (false≢true e)
element_by Int zero e n = refl
element_by Int (suc k) e n = or_right (is_int (record { base = Int; stars = suc k })) _ (lt-ltb 0 (suc k) (omega arith))
element_by (Struct s) zero e n = absurd (true≢false n)
element_by (Struct s) (suc k) e n =
    or_right (is_int (record { base = Struct s; stars = suc k })) _ (lt-ltb 0 (suc k) (omega arith))

element_single : (v : ValueType) → is_element v ≡ true → is_struct (Value v) ≡ false → is_single v ≡ true
element_single v e n = element_by v.base v.stars e n

-- one value is put into another
pub assigned_values : (t u : ExprType) → assignable t u ≡ true → is_struct t ≡ false → Stand t u
assigned_values (Value v) (Value u) e n =
    let h = and_parts (is_element v) (same_type v u) e in
    let stands = single_stands v (element_single v h.0 n) in
    record { left = stands; right = subst (λ w. may_stand (Value w) ≡ true) (same_type_is v u h.1) stands }
assigned_values (Value v) Null e n =
    record { left = single_stands v (or_right (is_int v) (is_pointer v) e); right = refl }
assigned_values (Value v) Array e n = absurd (false≢true e)
assigned_values (Value v) Shared e n = absurd (false≢true e)
assigned_values (Value v) SharedName e n = absurd (false≢true e)
assigned_values Null u e n = absurd (false≢true e)
assigned_values Array u e n = absurd (false≢true e)
assigned_values Shared u e n = absurd (false≢true e)
assigned_values SharedName u e n = absurd (false≢true e)

-- and a struct into a struct
pub assigned_structs : (t u : ExprType) → assignable t u ≡ true → is_struct t ≡ true → is_struct u ≡ true
assigned_structs (Value v) (Value u) e n =
    subst (λ w. is_struct (Value w) ≡ true) (same_type_is v u (and_parts (is_element v) (same_type v u) e).1) n
assigned_structs (Value v) Null e n =
    absurd (true≢false (sym n ∙ single_is_no_struct v (or_right (is_int v) (is_pointer v) e)))
assigned_structs (Value v) Array e n = absurd (false≢true e)
assigned_structs (Value v) Shared e n = absurd (false≢true e)
assigned_structs (Value v) SharedName e n = absurd (false≢true e)
assigned_structs Null u e n = absurd (false≢true n)
assigned_structs Array u e n = absurd (false≢true n)
assigned_structs Shared u e n = absurd (false≢true n)
assigned_structs SharedName u e n = absurd (false≢true n)

-- ---- pointers

abbrev pub pointed : ValueType → ValueType
pointed v = record v { stars = v.stars - 1 }

pub record Pointee (t u : ExprType) : Type 0 where
  pub from : ValueType
  pub is : t ≡ Value from
  pub pointer : is_pointer from ≡ true
  pub to : u ≡ Value (pointed from)

pub pointee_is : (t u : ExprType) → pointee t ≡ Some u → Pointee t u
pointee_is (Value v) u e = pointee_by (is_pointer v) refl e
  where
    pointee_by : (b : Bool) → is_pointer v ≡ b → then_some b (Value (pointed v)) ≡ Some u → Pointee (Value v) u
    pointee_by true h e =
        record { from = v; is = refl; pointer = h; to = let same : Value (pointed v) ≡ u = cc in sym same }
    pointee_by false h e = let no : ⊥ = cc in absurd no
pointee_is Null u e = let no : ⊥ = cc in absurd no
pointee_is Array u e = let no : ⊥ = cc in absurd no
pointee_is Shared u e = let no : ⊥ = cc in absurd no
pointee_is SharedName u e = let no : ⊥ = cc in absurd no

pub pointer_is :
    (ss : List StructDef) (v : ValueType) → is_pointer v ≡ true →
    pointer_of ss (Value v) ≡ Some (shape_of ss (pointed v))
pointer_is ss v h = ap (λ b. then_some b (shape_of ss (pointed v))) h

pub pointer_may_stand : (v : ValueType) → is_pointer v ≡ true → may_stand (Value v) ≡ true
pointer_may_stand v h = single_stands v (or_right (is_int v) (is_pointer v) h)
