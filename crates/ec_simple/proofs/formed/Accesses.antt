-- Accesses that are formed, and which cells they reach.
use Rattle.std.proofs.Common.{◌≡◌, refl, sym, ap, ◌∙◌, subst, ℕ, ◌<◌, Bool, true, false, ◌&&◌, ◌||◌, ◌==◌, ◌++◌, nat_lt, Some, is_some, eq-eqb, length}
use Rattle.std.proofs.lemmas.Bool.{lt-ltb}
use Rattle.ec_base.specs.declared.token.Span.{Span}
use Rattle.ec_simple.specs.declared.form.SField.{SField}
use Rattle.ec_simple.specs.declared.form.SFunc.{SFunc}
use Rattle.ec_simple.specs.declared.form.SPlaceOf.{SPlaceOf}
use Rattle.ec_simple.specs.declared.form.Shape.{Shape}
use Rattle.ec_simple.specs.declared.form.Form.{Form}
use Rattle.ec_simple.specs.Expressions.{Scope, Low, LowPlace, pointer, element_place, of_field, of_item}
use Rattle.ec_simple.specs.Formed.{Kind, is_int, alike, kind_of, points_at, is_item, field, is_element, is_access, is_cell, all_formed}
use Rattle.ec_simple.specs.Kinds.{IsInt, IsPointer, IsOne, HasNumber, element_shape, field_number, cell_points}
use Rattle.ec_simple.specs.Meaning.{shape_at, field_of}
use Rattle.ec_simple.specs.Sound.{reached}
use Rattle.ec_simple.proofs.formed.Code.{both_true, formed_both}
use Rattle.ec_simple.proofs.formed.Kinds.{alike_are, value_int, value_behind}
use Rattle.ec_simple.proofs.formed.Standing.{FormedLow}
use Rattle.ec_types.specs.Meaning.Layout.{or_zero}
use Rattle.ec_types.specs.Meaning.Tree.{Expr, FieldAt, Part, Place, Element, Behind, Field, Item}

or_right : (a b : Bool) → b ≡ true → (a || b) ≡ true
or_right true b h = refl
or_right false b h = h

module _ (s : Form) (f : SFunc) where
  -- the parts of an access
  pub record Access (a : SPlaceOf) : Type 0 where
    pub base : points_at s f a.shape a.base ≡ true
    pub index : is_int (kind_of s f a.index) ≡ true
    pub item : is_item s f a.sub ≡ true
    pub shape : a.shape < length s.shapes
    pub field : a.field < length (shape_at s.shapes a.shape).fields

  pub element_is : (a : SPlaceOf) → points_at s f a.shape a.base ≡ true → is_int (kind_of s f a.index) ≡ true →
      is_item s f a.sub ≡ true → a.shape < length s.shapes → is_element s f a ≡ true
  element_is a h i j k =
      let base = points_at s f a.shape a.base in
      let index = is_int (kind_of s f a.index) in
      let item = is_item s f a.sub in
      both_true (base && index && item) (nat_lt a.shape (length s.shapes))
      (both_true (base && index) item (both_true base index h i) j) (lt-ltb a.shape (length s.shapes) k)

  pub access_is : (a : SPlaceOf) → Access a → is_access s f a ≡ true
  access_is a h =
      let fields = length (shape_at s.shapes a.shape).fields in
      both_true (is_element s f a) (nat_lt a.field fields) (element_is a h.base h.index h.item h.shape)
      (lt-ltb a.field fields h.field)

  -- the code of an expression that is an int
  abbrev pub FormedInt : Low → Type 0
  FormedInt l = (all_formed s f l.code ≡ true) × (is_int (kind_of s f l.to) ≡ true)

  module _ (c : Scope) where
    -- the code of a place, and its access
    pub record FormedPlace (p : Place) (l : LowPlace) : Type 0 where
      pub code : all_formed s f l.code ≡ true
      pub access : Access l.place
      pub shape : l.place.shape ≡ element_shape c p
      pub reaches : shape_at s.shapes l.place.shape ≡ reached s.shapes c p
      pub number : l.place.field ≡ field_number p
      pub one : IsOne s.shapes c p → (is_some l.place.sub || ((field s f l.place).cells == 1)) ≡ true

    -- the code of an element that is copied
    pub record FormedElement (p : Place) (l : LowPlace) : Type 0 where
      pub code : all_formed s f l.code ≡ true
      pub element : is_element s f l.place ≡ true
      pub shape : l.place.shape ≡ element_shape c p

    pub place_element : (p : Place) (l : LowPlace) → FormedPlace p l → FormedElement p l
    place_element p l h = record {
      code = h.code;
      element = element_is l.place h.access.base h.access.index h.access.item h.access.shape;
      shape = h.shape;
    }

    pub cell_formed : (p : Place) (l : LowPlace) → FormedPlace p l → IsOne s.shapes c p → (k : Kind) (b : Bool) →
        k ≡ Some b → cell_points s.shapes c p ≡ b → is_cell s f k l.place ≡ true
    cell_formed p l h o k b e i =
        both_true (is_access s f l.place && one) (alike k (Some (field s f l.place).pointer))
        (both_true (is_access s f l.place) one (access_is l.place h.access) (h.one o))
        (alike_are k (Some (field s f l.place).pointer) b e (ap Some (ap (λ (z : SField). z.pointer) same ∙ i)))
      where
        one : Bool
        one = is_some l.place.sub || ((field s f l.place).cells == 1)

        same : field s f l.place ≡ field_of (reached s.shapes c p) (field_number p)
        same = ap (λ z. field_of z l.place.field) h.reaches ∙ ap (field_of (reached s.shapes c p)) h.number

    -- ---- places

    module _ (at : Span) (size : ℕ) (base : Expr) (lb li : Low) (fb : FormedLow s f c base lb) (points : IsPointer c base)
        (fi : FormedInt li)
        (there : or_zero (pointer c base) < length s.shapes) where
      abbrev shape : Shape
      shape = shape_at s.shapes (or_zero (pointer c base))

      place_code : all_formed s f (lb.code ++ li.code) ≡ true
      place_code = formed_both s f lb.code li.code fb.0 fi.0

      element_access : (number : ℕ) → HasNumber shape number →
          Access (element_place at (or_zero (pointer c base)) number lb li).place
      element_access number h = record {
        base = value_behind s f c base lb.to fb.1 points;
        index = fi.1;
        item = refl;
        shape = there;
        field = h;
      }

      pub element_alone : (index : Part) →
          FormedElement (Element at size base index) (element_place at (or_zero (pointer c base)) 0 lb li)
      element_alone index = record {
        code = place_code;
        element = element_is (element_place at (or_zero (pointer c base)) 0 lb li).place
            (value_behind s f c base lb.to fb.1 points) fi.1 refl there;
        shape = refl;
      }

      pub element_formed : (index : Part) → HasNumber shape 0 →
          FormedPlace (Element at size base index) (element_place at (or_zero (pointer c base)) 0 lb li)
      element_formed index h = record {
        code = place_code;
        access = element_access 0 h;
        shape = refl;
        reaches = refl;
        number = refl;
        one = λ o. eq-eqb (field_of shape 0).cells 1 o;
      }

      pub behind_formed : (g : FieldAt) → HasNumber shape g.number →
          FormedPlace (Behind at size g base) (element_place at (or_zero (pointer c base)) g.number lb li)
      behind_formed g h = record {
        code = place_code;
        access = element_access g.number h;
        shape = refl;
        reaches = refl;
        number = refl;
        one = λ o. eq-eqb (field_of shape g.number).cells 1 o;
      }

    pub field_formed : (at : Span) (g : FieldAt) (p : Place) (l : LowPlace) → FormedPlace p l →
        HasNumber (reached s.shapes c p) g.number → FormedPlace (Field at g p) (of_field at g.number l)
    field_formed at g p l h i = record {
      code = h.code;
      access = record {
        base = h.access.base;
        index = h.access.index;
        item = h.access.item;
        shape = h.access.shape;
        field = subst (λ z. HasNumber z g.number) (sym h.reaches) i;
      };
      shape = h.shape;
      reaches = h.reaches;
      number = refl;
      one = λ o.
          or_right (is_some l.place.sub) ((field_of (shape_at s.shapes l.place.shape) g.number).cells == 1)
          (eq-eqb (field_of (shape_at s.shapes l.place.shape) g.number).cells 1
          (ap (λ z. (field_of z g.number).cells) h.reaches ∙ o));
    }

    pub item_formed : (at : Span) (p : Place) (index : Expr) (l : LowPlace) (li : Low) → FormedPlace p l →
        FormedLow s f c index li → IsInt c index → FormedPlace (Item at p index) (of_item at l li)
    item_formed at p index l li h fi i = record {
      code = formed_both s f l.code li.code h.code fi.0;
      access = record {
        base = h.access.base;
        index = h.access.index;
        item = value_int s f c index li.to fi.1 i;
        shape = h.access.shape;
        field = h.access.field;
      };
      shape = h.shape;
      reaches = h.reaches;
      number = h.number;
      one = λ o. refl;
    }
