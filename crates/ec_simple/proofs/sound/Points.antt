-- Which values are pointers, and what they point at, by their types.
use Rattle.std.proofs.Common.{◌≡◌, refl, sym, ◌∙◌, ap, subst, ◌<◌, ◌⊎◌, inl, inr, Bool, true, false, ◌&&◌, ◌||◌, List, length, Some, None, is_some, true≢false}
use Rattle.std.proofs.lemmas.Bool.{false≢true, and_parts, or_left, or_right, or_cases}
use Rattle.ec_base.specs.declared.operator.BinOp.{BinOp}
use Rattle.ec_base.specs.declared.operator.BinOp.TheVariants as binary
use Rattle.ec_simple.specs.Kinds.{is_equality}
use Rattle.ec_simple.specs.Lower.{shapes}
use Rattle.ec_syntax.specs.declared.item.StructDef.{StructDef}
use Rattle.ec_types.specs.declared.value_type.ExprType.{ExprType}
use Rattle.ec_types.specs.declared.value_type.ExprType.TheVariants.{Value, Null, Array, Shared, SharedName}
use Rattle.ec_types.specs.declared.value_type.ValueType.{ValueType}
use Rattle.ec_types.specs.Meaning.Layout.{or_zero, shape_of, pointer_to}
use Rattle.ec_types.specs.Meaning.Resolution.{is_struct}
use Rattle.ec_types.specs.Meaning.Tree.{Pointer}
use Rattle.ec_types.specs.Operators.{comparable, operands_fit, assignable}
use Rattle.ec_types.specs.Types.{int, same_type, is_element, is_int, is_pointer, is_null, is_shared, is_number, points}
use Rattle.ec_simple.proofs.sound.Shapes.{some_shape, pointer_points, pointer_below}
use Rattle.ec_simple.proofs.sound.Types.{is_single, type_known, type_shape, same_type_is, single_is_no_struct}

-- ---- what values point at: NULL, which has no type, and shared variables at ints

abbrev pub is_value : ExprType → Bool
is_value (Value v) = true
is_value t = false

abbrev pub pointer_as : List StructDef → ExprType → Pointer
pointer_as ss (Value v) = pointer_to ss v
pointer_as ss Null = Some 0
pointer_as ss Array = None
pointer_as ss Shared = Some 0
pointer_as ss SharedName = Some 0

pub pointer_as_below :
    (ss : List StructDef) (t : ExprType) → type_known ss t ≡ true → or_zero (pointer_as ss t) < length (shapes ss)
pointer_as_below ss (Value v) k = pointer_below ss v k
pointer_as_below ss Null k = some_shape ss
pointer_as_below ss Array k = some_shape ss
pointer_as_below ss Shared k = some_shape ss
pointer_as_below ss SharedName k = some_shape ss

pub int_no_pointer : (v : ValueType) → is_int v ≡ true → is_pointer v ≡ false
int_no_pointer v h = subst (λ w. is_pointer w ≡ false) (sym (same_type_is v int h)) refl

pub number_is_int : (ss : List StructDef) (t : ExprType) → is_number t ≡ true → is_some (pointer_as ss t) ≡ false
number_is_int ss (Value v) h = pointer_points ss v ∙ int_no_pointer v h
number_is_int ss Null h = absurd (false≢true h)
number_is_int ss Array h = absurd (false≢true h)
number_is_int ss Shared h = absurd (false≢true h)
number_is_int ss SharedName h = absurd (false≢true h)

value_points : (v : ValueType) → points (Value v) ≡ true → is_pointer v ≡ true
value_points v h = elim (or_cases (is_pointer v) false h) [
  | inl q ↦ q
  | inr q ↦ absurd (false≢true q)
]

pub points_is_pointer : (ss : List StructDef) (t : ExprType) → points t ≡ true → is_some (pointer_as ss t) ≡ true
points_is_pointer ss (Value v) h = pointer_points ss v ∙ value_points v h
points_is_pointer ss Null h = refl
points_is_pointer ss Array h = absurd (false≢true h)
points_is_pointer ss Shared h = absurd (false≢true h)
points_is_pointer ss SharedName h = absurd (false≢true h)

pub shared_is_shared : (ss : List StructDef) (t : ExprType) → is_shared t ≡ true → pointer_as ss t ≡ Some 0
shared_is_shared ss (Value v) h = absurd (false≢true h)
shared_is_shared ss Null h = absurd (false≢true h)
shared_is_shared ss Array h = absurd (false≢true h)
shared_is_shared ss Shared h = refl
shared_is_shared ss SharedName h = absurd (false≢true h)

-- ---- operands are alike

abbrev pub Numbers : ExprType → ExprType → Type 0
Numbers a b = (is_number a ≡ true) × (is_number b ≡ true)

abbrev pub Pointers : ExprType → ExprType → Type 0
Pointers a b = (points a ≡ true) × (points b ≡ true)

alike_point : (a b : ExprType) → (points a && points b && (is_null a || is_null b)) ≡ true → Numbers a b ⊎ Pointers a b
alike_point a b e =
    inr (and_parts (points a) (points b) (and_parts (points a && points b) (is_null a || is_null b) e).0)

comparable_alike : (a b : ExprType) → comparable a b ≡ true → Numbers a b ⊎ Pointers a b
comparable_alike (Value t) (Value u) e =
    let h = and_parts (is_single t) (same_type t u) e in
    subst (λ w. Numbers (Value t) (Value w) ⊎ Pointers (Value t) (Value w)) (same_type_is t u h.1)
    (elim (or_cases (is_int t) (is_pointer t) h.0) [
      | inl q ↦ inl (q, q)
      | inr q ↦ let p : points (Value t) ≡ true = or_left (is_pointer t) false q in inr (p, p)
    ])
comparable_alike (Value t) Null e = alike_point (Value t) Null e
comparable_alike (Value t) Array e = alike_point (Value t) Array e
comparable_alike (Value t) Shared e = alike_point (Value t) Shared e
comparable_alike (Value t) SharedName e = alike_point (Value t) SharedName e
comparable_alike Null b e = alike_point Null b e
comparable_alike Array b e = alike_point Array b e
comparable_alike Shared b e = alike_point Shared b e
comparable_alike SharedName b e = alike_point SharedName b e

-- ints, or pointers that are tested for being the same
abbrev pub Alike : BinOp → ExprType → ExprType → Type 0
Alike op a b = Numbers a b ⊎ ((is_equality op ≡ true) × Pointers a b)

equals_alike :
    (op : BinOp) (a b : ExprType) → is_equality op ≡ true → Numbers a b ⊎ Pointers a b → Alike op a b
equals_alike op a b e (inl h) = inl h
equals_alike op a b e (inr h) = inr (e, h)

pub operands_alike : (op : BinOp) (a b : ExprType) → operands_fit op a b ≡ true → Alike op a b
operands_alike binary.Eq a b e = equals_alike binary.Eq a b refl (comparable_alike a b e)
operands_alike binary.Ne a b e = equals_alike binary.Ne a b refl (comparable_alike a b e)
operands_alike op a b e = inl (and_parts (is_number a) (is_number b) e)

-- ---- what is put into another is of its kind

pub put_points :
    (ss : List StructDef) (v : ValueType) (u : ExprType) → assignable (Value v) u ≡ true →
    is_some (pointer_as ss u) ≡ is_pointer v
put_points ss v (Value u) e =
    pointer_points ss u ∙ ap is_pointer (sym (same_type_is v u (and_parts (is_element v) (same_type v u) e).1))
put_points ss v Null e = sym e
put_points ss v Array e = absurd (false≢true e)
put_points ss v Shared e = absurd (false≢true e)
put_points ss v SharedName e = absurd (false≢true e)

pub assigned_points :
    (ss : List StructDef) (t u : ExprType) → assignable t u ≡ true →
    is_some (pointer_as ss u) ≡ is_some (pointer_as ss t)
assigned_points ss (Value v) u e = put_points ss v u e ∙ sym (pointer_points ss v)
assigned_points ss Null u e = absurd (false≢true e)
assigned_points ss Array u e = absurd (false≢true e)
assigned_points ss Shared u e = absurd (false≢true e)
assigned_points ss SharedName u e = absurd (false≢true e)

pub assigned_value : (t u : ExprType) → assignable t u ≡ true → is_value t ≡ true
assigned_value (Value v) u e = refl
assigned_value Null u e = absurd (false≢true e)
assigned_value Array u e = absurd (false≢true e)
assigned_value Shared u e = absurd (false≢true e)
assigned_value SharedName u e = absurd (false≢true e)

pub assigned_shape :
    (ss : List StructDef) (t u : ExprType) → assignable t u ≡ true → is_struct t ≡ true → type_shape ss t ≡ type_shape ss u
assigned_shape ss (Value v) (Value u) e n =
    ap (shape_of ss) (same_type_is v u (and_parts (is_element v) (same_type v u) e).1)
assigned_shape ss (Value v) Null e n =
    absurd (true≢false (sym n ∙ single_is_no_struct v (or_right (is_int v) (is_pointer v) e)))
assigned_shape ss (Value v) Array e n = absurd (false≢true e)
assigned_shape ss (Value v) Shared e n = absurd (false≢true e)
assigned_shape ss (Value v) SharedName e n = absurd (false≢true e)
assigned_shape ss Null u e n = absurd (false≢true n)
assigned_shape ss Array u e n = absurd (false≢true n)
assigned_shape ss Shared u e n = absurd (false≢true n)
assigned_shape ss SharedName u e n = absurd (false≢true n)
