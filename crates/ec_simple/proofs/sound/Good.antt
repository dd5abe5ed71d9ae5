-- What the resolved tree of a right expression keeps to, by its type.
use Rattle.std.proofs.Common.{◌≡◌, refl, sym, ◌∙◌, ap, subst, ℕ, ◌<◌, Bool, true, false, List, length, Some, None, is_some, true≢false, arith}
use Rattle.std.proofs.lemmas.Bool.{false≢true}
use Rattle.std.proofs.lemmas.Option.{none-some}
use Rattle.ec_base.specs.declared.token.Span.{Span}
use Rattle.ec_simple.specs.declared.form.Shape.{Shape}
use Rattle.ec_simple.specs.Expressions.{Scope, variable_at, pointer}
use Rattle.ec_simple.specs.Kinds.{IsInt, IsPointer, IsShared, HasNumber, element_shape, field_number, IsOne, Kinds, KindsPlace, KindsElement}
use Rattle.ec_simple.specs.Lower.{shapes}
use Rattle.ec_simple.specs.Meaning.{shape_at}
use Rattle.ec_simple.specs.Sound.{IsIn, IsCell, Sound, SoundPlace, behind, reached}
use Rattle.ec_syntax.specs.declared.item.StructDef.{StructDef}
use Rattle.ec_types.specs.declared.value_type.ExprType.{ExprType}
use Rattle.ec_types.specs.Meaning.Layout.{or_zero, pointer_of}
use Rattle.ec_types.specs.Meaning.Resolution.{Form, Plain, Access, Resolved, value, place, variable_in, valued, accessed, is_struct}
use Rattle.ec_types.specs.Meaning.Tree.{Pointer, Expr, Load, Place, Element, Behind, Field, Item}
use Rattle.ec_types.specs.Parts as parts
use Rattle.ec_types.specs.Types.{is_shared, is_number, points, number}
use Rattle.ec_simple.proofs.sound.Points.{is_value, pointer_as, pointer_as_below, number_is_int, points_is_pointer, shared_is_shared}
use Rattle.ec_simple.proofs.sound.Shapes.{FieldIs}
use Rattle.ec_simple.proofs.sound.Types.{may_stand, is_spread, type_known, type_shape, stands_is_no_struct, stands_is_not_spread}

abbrev pub is_access : Form → Bool
is_access (Plain e) = false
is_access (Access pointer p) = true

-- an access to what is of this type
pub record Accessed (ss : List StructDef) (c : Scope) (sc : List ℕ) (t : ExprType) (p : Place) : Type 0 where
  pub pointer : pointer_of ss t ≡ pointer_as ss t
  pub sound : SoundPlace (shapes ss) c sc p
  pub cell : is_struct t ≡ false → IsCell (shapes ss) c p
  pub element : KindsElement (shapes ss) c p
  pub field :
      is_struct t ≡ false → FieldIs (reached (shapes ss) c p) (field_number p) (is_some (pointer_as ss t))
  pub one : is_spread t ≡ false → IsOne (shapes ss) c p
  pub shape : is_struct t ≡ true → element_shape c p ≡ type_shape ss t

-- a variable that isn't shared, and what it points at
pub record Holds (c : Scope) (x : ℕ) (q : Pointer) : Type 0 where
  pub pointer : (variable_at c x).pointer ≡ q
  pub shared : (variable_at c x).shared ≡ false

-- an expression of this form and type, and what it became, where these variables are in scope
pub record Good (ss : List StructDef) (c : Scope) (sc : List ℕ) (form : parts.Form) (t : ExprType) (r : Resolved) :
    Type 0 where
  pub type : r.type ≡ t
  pub known : type_known ss t ≡ true
  pub sound : may_stand t ≡ true → Sound (shapes ss) c sc (value r)
  pub kinds : may_stand t ≡ true → Kinds (shapes ss) c (value r)
  pub points : pointer c (value r) ≡ pointer_as ss t
  pub stands : is_access r.form ≡ true → Accessed ss c sc t (place r)
  pub access : is_spread t ≡ true → is_access r.form ≡ true
  pub variable : parts.is_variable form ≡ true → is_access r.form ≡ false
  pub left : parts.is_place form ≡ true → is_access r.form ≡ false → is_some (variable_in r.form) ≡ true
  pub set : (x : Span × ℕ) → variable_in r.form ≡ Some x → IsIn x.1 sc
  pub holds : (x : Span × ℕ) → variable_in r.form ≡ Some x → is_value t ≡ true → Holds c x.1 (pointer_as ss t)

-- ---- accesses

module _ (shapes : List Shape) (c : Scope) where
  -- the shape of an element, by its number
  pub reached_is : (p : Place) → reached shapes c p ≡ shape_at shapes (element_shape c p)
  reached_is (Element at size base index) = refl
  reached_is (Behind at size f base) = refl
  reached_is (Field at f p) = reached_is p
  reached_is (Item at p index) = reached_is p

  -- an element that has a field
  pub with_field :
      (p : Place) (n : ℕ) → KindsElement shapes c p → HasNumber (reached shapes c p) n → KindsPlace shapes c p
  with_field (Element at size base index) n h k =
      let there : n < length (behind shapes c base).fields = k in
      let first : 0 < length (behind shapes c base).fields = omega (arith, there) in
      (h.0, h.1, h.2, first)
  with_field (Behind at size f base) n h k = h
  with_field (Field at f p) n h k = h
  with_field (Item at p index) n h k = h

module _ (ss : List StructDef) (c : Scope) (sc : List ℕ) where
  pub place_kinds :
      (t : ExprType) (p : Place) → is_struct t ≡ false → Accessed ss c sc t p → KindsPlace (shapes ss) c p
  place_kinds t p h a = with_field (shapes ss) c p (field_number p) a.element (a.field h).number

  load_kinds :
      (t : ExprType) (p : Place) → type_known ss t ≡ true → Accessed ss c sc t p → may_stand t ≡ true →
      Kinds (shapes ss) c (Load (pointer_of ss t) p)
  load_kinds t p known a h =
      let single = stands_is_no_struct t h in (
        place_kinds t p single a,
        a.one (stands_is_not_spread t h),
        (a.field single).points ∙ ap is_some (sym a.pointer),
        subst (λ q. or_zero q < length (shapes ss)) (sym a.pointer) (pointer_as_below ss t known),
      )

  -- ---- expressions

  -- no access and no variable
  pub good_plain :
      (form : parts.Form) (t : ExprType) (e : Expr) → parts.is_place form ≡ false → variable_in (Plain e) ≡ None →
      type_known ss t ≡ true → is_spread t ≡ false → (may_stand t ≡ true → Sound (shapes ss) c sc e) →
      (may_stand t ≡ true → Kinds (shapes ss) c e) → pointer c e ≡ pointer_as ss t → Good ss c sc form t (valued t e)
  good_plain form t e no_place no_variable known single sound kinds points = record {
    type = refl;
    known = known;
    sound = sound;
    kinds = kinds;
    points = points;
    stands = λ h. absurd (false≢true h);
    access = λ h. absurd (true≢false (sym h ∙ single));
    variable = λ h. refl;
    left = λ h k. absurd (true≢false (sym h ∙ no_place));
    set = λ x h. absurd (none-some x (sym no_variable ∙ h));
    holds = λ x h k. absurd (none-some x (sym no_variable ∙ h));
  }

  pub good_number :
      (e : Expr) → variable_in (Plain e) ≡ None → Sound (shapes ss) c sc e → Kinds (shapes ss) c e →
      pointer c e ≡ None → Good ss c sc parts.Other number (valued number e)
  good_number e no_variable sound kinds points =
      good_plain parts.Other number e refl no_variable refl refl (λ h. sound) (λ h. kinds) points

  pub good_access :
      (t : ExprType) (p : Place) → type_known ss t ≡ true → Accessed ss c sc t p →
      Good ss c sc parts.Access t (accessed ss t p)
  good_access t p known a = record {
    type = refl;
    known = known;
    sound = λ h. (a.sound, a.cell (stands_is_no_struct t h));
    kinds = load_kinds t p known a;
    points = a.pointer;
    stands = λ h. a;
    access = λ h. refl;
    variable = λ h. absurd (false≢true h);
    left = λ h k. absurd (true≢false k);
    set = λ x h. absurd (none-some x h);
    holds = λ x h k. absurd (none-some x h);
  }

  -- ---- their kinds, by their types

  module _ (form : parts.Form) (t : ExprType) (r : Resolved) (g : Good ss c sc form t r) where
    pub good_int : is_number t ≡ true → IsInt c (value r)
    good_int h = ap is_some g.points ∙ number_is_int ss t h

    pub good_pointer : points t ≡ true → IsPointer c (value r)
    good_pointer h = ap is_some g.points ∙ points_is_pointer ss t h

    pub good_shared : is_shared t ≡ true → IsShared c (value r)
    good_shared h = g.points ∙ shared_is_shared ss t h
