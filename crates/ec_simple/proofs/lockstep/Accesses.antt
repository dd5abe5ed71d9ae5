-- Accesses of the meaning and of the simple form: which are one and the same, and that copies look at elements alone.
use Rattle.std.proofs.Common.{◌≡◌, refl, sym, ap, ◌∙◌, ℕ, ◌≤◌, ◌<◌, arith, ℤ, Option, Some, None, List}
use Rattle.ec_base.specs.declared.token.Span.{Span}
use Rattle.ec_simple.specs.declared.form.SPlaceOf.{SPlaceOf}
use Rattle.ec_simple.specs.declared.form.Shape.{Shape}
use Rattle.ec_simple.specs.Expressions.{Scope, low_place}
use Rattle.ec_simple.specs.Meaning.{shape_at, field_of as field_at, item, access}
use Rattle.ec_simple.specs.Sound.{HasField, reached}
use Rattle.ec_simple.proofs.lockstep.Variables.{Keeps}
use Rattle.ec_types.specs.Meaning.Evaluation.{element_of, field_of, item_of}
use Rattle.ec_types.specs.Meaning.Memory.{Access, copy}
use Rattle.ec_types.specs.Meaning.State.{Vars}
use Rattle.ec_types.specs.Meaning.Tree.{FieldAt, Place, Element, Behind, Field, Item}
use Rattle.ec_types.specs.Meaning.Values.{Val, number}

-- ---- copies

-- the element in which an access lies, and the index in its field
abbrev pub element_in : Access → Access
element_in a = record a { first = 0; length = 1 }

pub copy_same : (a b x y : Access) → element_in a ≡ element_in x → element_in b ≡ element_in y → copy a b ≡ copy x y
copy_same a b x y p q = ap (λ z. copy z (element_in b)) p ∙ ap (copy (element_in x)) q

-- ---- the variables of an access

abbrev pub ItemBelow : ℕ → Option ℕ → Type 0
ItemBelow u None = Unit {0}
ItemBelow u (Some x) = x < u

pub record PlaceBelow (u : ℕ) (a : SPlaceOf) : Type 0 where
  pub base : a.base < u
  pub index : a.index < u
  pub sub : ItemBelow u a.sub

item_below_more : (u w : ℕ) → u ≤ w → (o : Option ℕ) → ItemBelow u o → ItemBelow w o
item_below_more u w h None b = tt
item_below_more u w h (Some x) b = omega (arith, h, b)

pub below_more : (u w : ℕ) (a : SPlaceOf) → u ≤ w → PlaceBelow u a → PlaceBelow w a
below_more u w a h b =
    record { base = let p = b.base in omega (arith, h, p); index = let p = b.index in omega (arith, h, p); sub = item_below_more u w h a.sub b.sub }

item_kept : (u : ℕ) (us ws : Vars) → Keeps u us ws → (o : Option ℕ) → ItemBelow u o → item o ws ≡ item o us
item_kept u us ws k None b = refl
item_kept u us ws k (Some x) b = ap number (k x b)

-- an access whose parts are these
abbrev parts : Access → Val → ℤ → ℤ → Access
parts a base index item = record a { base = base; index = index; item = item }

pub access_kept : (shapes : List Shape) (u : ℕ) (a : SPlaceOf) (us ws : Vars) → PlaceBelow u a → Keeps u us ws →
    access shapes a ws ≡ access shapes a us
access_kept shapes u a us ws b k =
    ap (λ v. parts (access shapes a ws) v (number (ws a.index)) (item a.sub ws)) (k a.base b.base)
    ∙ (ap (λ i. parts (access shapes a ws) (us a.base) i (item a.sub ws)) (ap number (k a.index b.index))
    ∙ ap (λ i. parts (access shapes a ws) (us a.base) (number (us a.index)) i) (item_kept u us ws k a.sub b.sub))

-- ---- accesses of both sides

-- what an element has of its shape is what the tree says of it
module _ (shapes : List Shape) (at : Span) (size base index shape : ℕ) (b i : Val) (ws : Vars)
    (cells : (shape_at shapes shape).cells ≡ size) (eb : ws base ≡ b) (ei : ws index ≡ i) where
  abbrev place_at : ℕ → SPlaceOf
  place_at f = record { base = base; index = index; shape = shape; field = f; sub = None; at = at }

  pub same_element : (f : ℕ) → element_in (element_of at size b i) ≡ element_in (access shapes (place_at f) ws)
  same_element f = let p = sym cells in let q = sym eb in let r = ap number (sym ei) in cc

  pub same_field : (f : FieldAt) → HasField (shape_at shapes shape) f →
      field_of at f (element_of at size b i) ≡ access shapes (place_at f.number) ws
  same_field f h =
      let p = sym cells in let q = sym eb in let r = ap number (sym ei) in let s = sym h.first in let l = sym h.length in cc

pub reached_shape : (shapes : List Shape) (c : Scope) (p : Place) (t : ℕ) →
    reached shapes c p ≡ shape_at shapes (low_place c p t).place.shape
reached_shape shapes c (Element at size base index) t = refl
reached_shape shapes c (Behind at size f base) t = refl
reached_shape shapes c (Field at f p) t = reached_shape shapes c p t
reached_shape shapes c (Item at p index) t = reached_shape shapes c p t

-- a field of an element
abbrev with_field : Span → ℕ → ℕ → Access → Access
with_field at first length a = record a { at = at; first = first; length = length }

pub field_same : (shapes : List Shape) (at : Span) (f : FieldAt) (x : Access) (l : SPlaceOf) (ws : Vars) →
    HasField (shape_at shapes l.shape) f →
    element_in x ≡ element_in (access shapes l ws) → field_of at f x ≡ access shapes (record l { field = f.number; at = at }) ws
field_same shapes at f x l ws h e =
    ap (with_field at f.first f.length) e
    ∙ (ap (λ n. with_field at n f.length (access shapes l ws)) (sym h.first)
    ∙ ap (λ n. with_field at (field_at (shape_at shapes l.shape) f.number).at n (access shapes l ws)) (sym h.length))

-- an index in an array field
module _ (shapes : List Shape) (at : Span) (i : Val) (x : Access) (l : SPlaceOf) (z : ℕ) (ws : Vars)
    (is : ws z ≡ i) where
  abbrev item_at : SPlaceOf
  item_at = record l { sub = Some z; at = at }

  pub item_same : x ≡ access shapes l ws → item_of at x i ≡ access shapes item_at ws
  item_same e = ap (λ a. item_of at a i) e ∙ ap (item_of at (access shapes l ws)) (sym is)

  pub item_element : element_in x ≡ element_in (access shapes l ws) →
      element_in (item_of at x i) ≡ element_in (access shapes item_at ws)
  item_element e =
      ap (λ a. item_of at a i) e ∙ ap (λ v. element_in (item_of at (access shapes l ws) v)) (sym is)
