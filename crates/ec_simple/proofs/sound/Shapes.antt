-- The shapes of a program, and their fields, against how values and elements are laid out.
use Rattle.std.proofs.Common.{◌≡◌, refl, sym, ◌∙◌, ap, subst, ℕ, zero, suc, ◌+◌, ◌-◌, ◌<◌, ◌==◌, Bool, true, false, if◌then◌else◌, List, [], ◌∷◌, ◌++◌, length, map, slice_get, get_or, replicate, Option, Some, None, option_map, is_some, true≢false, arith}
use Rattle.std.proofs.lemmas.Bool.{false≢true, lt-ltb, ne_eqb}
use Rattle.std.proofs.lemmas.List.{length-map}
use Rattle.std.proofs.lemmas.Option.{none-some, get_or_from_slice_get, slice_get_within}
use Rattle.std.specs.Bool.{then_some}
use Rattle.ec_base.specs.declared.text.Text.{Text}
use Rattle.ec_calls.specs.Effects.{joined}
use Rattle.ec_calls.specs.Items.{struct_named}
use Rattle.ec_simple.specs.declared.form.SField.{SField}
use Rattle.ec_simple.specs.declared.form.Shape.{Shape}
use Rattle.ec_simple.specs.Kinds.{HasNumber}
use Rattle.ec_simple.specs.Lower.{of_one_cell, fields_from, of_struct, shapes}
use Rattle.ec_simple.specs.Meaning.{shape_or, shape_at, no_field, field_of, first_value, fresh_cells}
use Rattle.ec_simple.specs.Sound.{HasField, whole}
use Rattle.ec_syntax.specs.declared.item.Field.{Field}
use Rattle.ec_syntax.specs.declared.item.StructDef.{StructDef}
use Rattle.ec_syntax.specs.Grammar.Words.{same}
use Rattle.ec_types.specs.declared.value_type.ExprType.TheVariants.{Value}
use Rattle.ec_types.specs.declared.value_type.ValueBase.{ValueBase}
use Rattle.ec_types.specs.declared.value_type.ValueBase.TheVariants.{Void, Int, Struct}
use Rattle.ec_types.specs.declared.value_type.ValueType.{ValueType}
use Rattle.ec_types.specs.Meaning.Layout.{or_zero, one_or, field_cells, struct_cells, base_cells, element_cells, base_size, element_size, base_shape, shape_of, pointer_to, found}
use Rattle.ec_types.specs.Meaning.Resolution.{is_struct, field_at}
use Rattle.ec_types.specs.Names.{field_named}
use Rattle.ec_types.specs.Sizes.{cells, cells_of}
use Rattle.ec_types.specs.Types.{value_type, is_element, is_pointer}
use Rattle.ec_simple.proofs.sound.Numbers.{number, numbered, number_below, mapped}

-- the struct that a type names is declared
abbrev pub base_known : List StructDef → ValueBase → Bool
base_known ss (Struct s) = is_some (struct_named ss s)
base_known ss base = true

pub record Is {A : Type 0} (o : Option A) : Type 0 where
  pub it : A
  pub is : o ≡ Some it

pub some_is : {A : Type 0} (o : Option A) → is_some o ≡ true → Is o
some_is None e = absurd (false≢true e)
some_is (Some x) e = record { it = x; is = refl }

-- ---- the shape of a struct

abbrev text : StructDef → Text
text d = d.name.text

behind_two : {A : Type 0} (a b : A) (xs : List A) (n : ℕ) → slice_get (a ∷ b ∷ xs) (2 + n) ≡ slice_get xs n
behind_two a b xs n = let is : 2 + n ≡ suc (suc n) = omega arith in ap (slice_get (a ∷ b ∷ xs)) is

pub struct_shape :
    (ss : List StructDef) (s : Text) (d : StructDef) → struct_named ss s ≡ Some d →
    shape_at (shapes ss) (base_shape ss (Struct s)) ≡ of_struct d
struct_shape ss s d e =
    ap shape_or
    (behind_two (of_one_cell false) (of_one_cell true) (map of_struct ss) (number text ss s)
    ∙ mapped text ss s d (numbered text ss s d e) of_struct)

-- ---- shapes are there

how_many : (ss : List StructDef) → length (shapes ss) ≡ suc (suc (length ss))
how_many ss = ap (λ n. suc (suc n)) (length-map ss of_struct)

pub some_shape : (ss : List StructDef) → 0 < length (shapes ss)
some_shape ss = let many = how_many ss in omega (arith, many)

below_by :
    (ss : List StructDef) (b : Bool) (base : ValueBase) → base_known ss base ≡ true →
    (if b then base_shape ss base else 1) < length (shapes ss)
below_by ss false base k = let many = how_many ss in omega (arith, many)
below_by ss true Void k = some_shape ss
below_by ss true Int k = some_shape ss
below_by ss true (Struct s) k =
    let d = some_is (struct_named ss s) k in
    let many = how_many ss in
    let below : number text ss s < length ss = number_below text ss s d.it (numbered text ss s d.it d.is) in
    let more : 2 + number text ss s < length (shapes ss) = omega (arith, many, below) in
    more

pub shape_below :
    (ss : List StructDef) (v : ValueType) → base_known ss v.base ≡ true → shape_of ss v < length (shapes ss)
shape_below ss v k = below_by ss (v.stars == 0) v.base k

-- ---- what stands behind pointers

some_then : {A : Type 0} (b : Bool) (x : A) → is_some (then_some b x) ≡ b
some_then true x = refl
some_then false x = refl

pub pointer_points : (ss : List StructDef) (v : ValueType) → is_some (pointer_to ss v) ≡ is_pointer v
pointer_points ss v = some_then (is_pointer v) (shape_of ss (record v { stars = v.stars - 1 }))

then_below :
    (ss : List StructDef) (b : Bool) (x : ℕ) → x < length (shapes ss) → or_zero (then_some b x) < length (shapes ss)
then_below ss true x h = h
then_below ss false x h = some_shape ss

pub pointer_below :
    (ss : List StructDef) (v : ValueType) → base_known ss v.base ≡ true →
    or_zero (pointer_to ss v) < length (shapes ss)
pointer_below ss v k =
    let w = record v { stars = v.stars - 1 } in then_below ss (is_pointer v) (shape_of ss w) (shape_below ss w k)

-- ---- the cells of elements

cells_by :
    (ss : List StructDef) (b : Bool) (base : ValueBase) → base_known ss base ≡ true →
    (shape_at (shapes ss) (if b then base_shape ss base else 1)).cells ≡ (if b then base_size ss base else 1)
cells_by ss false base k = refl
cells_by ss true Void k = refl
cells_by ss true Int k = refl
cells_by ss true (Struct s) k =
    let d = some_is (struct_named ss s) k in
    ap (λ x. x.cells) (struct_shape ss s d.it d.is) ∙ sym (ap (λ o. one_or (option_map cells o)) d.is)

pub element_cells_are :
    (ss : List StructDef) (t : ValueType) → base_known ss t.base ≡ true →
    (shape_at (shapes ss) (shape_of ss t)).cells ≡ element_size ss t
element_cells_are ss t k = cells_by ss (t.stars == 0) t.base k

fresh_fields :
    (at : ℕ) (fs : List Field) →
    joined (map (λ f. replicate f.cells (first_value f.pointer)) (fields_from at fs)) ≡ joined (map field_cells fs)
fresh_fields at [] = refl
fresh_fields at (f ∷ fs) = ap (λ l. field_cells f ++ l) (fresh_fields (at + cells_of f.array) fs)

fresh_by :
    (ss : List StructDef) (b : Bool) (base : ValueBase) → base_known ss base ≡ true →
    fresh_cells (shape_at (shapes ss) (if b then base_shape ss base else 1))
    ≡ (if b then base_cells ss base else first_value true ∷ [])
fresh_by ss false base k = refl
fresh_by ss true Void k = refl
fresh_by ss true Int k = refl
fresh_by ss true (Struct s) k =
    let d = some_is (struct_named ss s) k in
    ap fresh_cells (struct_shape ss s d.it d.is) ∙ fresh_fields 0 d.it.fields ∙ sym (ap struct_cells d.is)

pub fresh_element :
    (ss : List StructDef) (t : ValueType) → base_known ss t.base ≡ true →
    fresh_cells (shape_at (shapes ss) (shape_of ss t)) ≡ element_cells ss t
fresh_element ss t k = fresh_by ss (t.stars == 0) t.base k

-- ---- ints and pointers have one field

one_cell : (ss : List StructDef) (b : Bool) → HasField (shape_at (shapes ss) (if b then 0 else 1)) whole
one_cell ss true = record { first = refl; length = refl }
one_cell ss false = record { first = refl; length = refl }

no_struct :
    (ss : List StructDef) (s : Text) (b : Bool) → is_some (if b then Some s else None) ≡ false →
    HasField (shape_at (shapes ss) (if b then base_shape ss (Struct s) else 1)) whole
no_struct ss s true e = absurd (true≢false e)
no_struct ss s false e = record { first = refl; length = refl }

one_field :
    (ss : List StructDef) (base : ValueBase) (stars : ℕ) →
    is_struct (Value (record { base = base; stars = stars })) ≡ false →
    HasField (shape_at (shapes ss) (shape_of ss (record { base = base; stars = stars }))) whole
one_field ss Void stars e = one_cell ss (stars == 0)
one_field ss Int stars e = one_cell ss (stars == 0)
one_field ss (Struct s) stars e = no_struct ss s (stars == 0) e

pub whole_element :
    (ss : List StructDef) (t : ValueType) → is_struct (Value t) ≡ false →
    HasField (shape_at (shapes ss) (shape_of ss t)) whole
whole_element ss t e = one_field ss t.base t.stars e

-- the field is there, and is a pointer or none
pub record FieldIs (s : Shape) (k : ℕ) (pointer : Bool) : Type 0 where
  pub number : HasNumber s k
  pub points : (field_of s k).pointer ≡ pointer

one_pointer :
    (ss : List StructDef) (base : ValueBase) (k : ℕ) →
    is_some (pointer_to ss (record { base = base; stars = suc k })) ≡ true →
    FieldIs (shape_at (shapes ss) (shape_of ss (record { base = base; stars = suc k }))) 0
    (is_some (pointer_to ss (record { base = base; stars = suc k })))
one_pointer ss base k h =
    let is : shape_of ss (record { base = base; stars = suc k }) ≡ 1 =
    ap (λ b. if b then base_shape ss base else 1) (ne_eqb (suc k) 0 (λ z. omega (arith, z))) in
    subst (λ n. FieldIs (shape_at (shapes ss) n) 0 (is_some (pointer_to ss (record { base = base; stars = suc k }))))
    (sym is) (record { number = let one : 0 < 1 = omega arith in one; points = sym h })

one_by :
    (ss : List StructDef) (base : ValueBase) (stars : ℕ) → is_element (record { base = base; stars = stars }) ≡ true →
    is_struct (Value (record { base = base; stars = stars })) ≡ false →
    FieldIs (shape_at (shapes ss) (shape_of ss (record { base = base; stars = stars }))) 0
    (is_some (pointer_to ss (record { base = base; stars = stars })))
one_by ss Void stars e n = absurd (false≢true e)
one_by ss Int zero e n = record { number = let one : 0 < 1 = omega arith in one; points = refl }
one_by ss Int (suc k) e n =
    one_pointer ss Int k (pointer_points ss (record { base = Int; stars = suc k }) ∙ lt-ltb 0 (suc k) (omega arith))
one_by ss (Struct s) zero e n = absurd (true≢false n)
one_by ss (Struct s) (suc k) e n =
    one_pointer ss (Struct s) k
    (pointer_points ss (record { base = Struct s; stars = suc k }) ∙ lt-ltb 0 (suc k) (omega arith))

pub whole_field :
    (ss : List StructDef) (t : ValueType) → is_element t ≡ true → is_struct (Value t) ≡ false →
    FieldIs (shape_at (shapes ss) (shape_of ss t)) 0 (is_some (pointer_to ss t))
whole_field ss t e n = one_by ss t.base t.stars e n

-- ---- fields by their numbers

abbrev field : ℕ → Field → SField
field at f = record { at = at; cells = cells_of f.array; pointer = is_pointer (value_type f.ty) }

-- where the fields begin with this number and at this cell
pub record Located (n at : ℕ) (fs : List Field) (name : Text) (f : Field) : Type 0 where
  pub k : ℕ
  pub number : ℕ
  pub first : ℕ
  pub counted : number ≡ n + k
  pub is : found n at fs name ≡ Some (record { number = number; first = first; field = f })
  pub there : slice_get (fields_from at fs) k ≡ Some (field first f)

located_by :
    (b : Bool) (n at : ℕ) (g : Field) (fs : List Field) (name : Text) (f : Field) → same g.name.text name ≡ b →
    (field_named fs name ≡ Some f → Located (suc n) (at + cells_of g.array) fs name f) →
    (if b then Some g else field_named fs name) ≡ Some f → Located n at (g ∷ fs) name f
located_by true n at g fs name f e later h = record {
  k = 0;
  number = n;
  first = at;
  counted = omega arith;
  is = let same_field : g ≡ f = cc in
      ap (λ b. if b then Some (record { number = n; first = at; field = g }) else found (suc n)
      (at + cells_of g.array) fs name) e
      ∙ ap (λ x. Some (record { number = n; first = at; field = x })) same_field;
  there = let same_field : g ≡ f = cc in ap (λ x. Some (field at x)) same_field;
}
located_by false n at g fs name f e later h =
    let l = later h in
    record {
      k = suc l.k;
      number = l.number;
      first = l.first;
      counted = let c = l.counted in omega (arith, c);
      is =
          ap (λ b. if b then Some (record { number = n; first = at; field = g }) else found (suc n)
          (at + cells_of g.array) fs name) e
          ∙ l.is;
      there = l.there;
    }

located :
    (n at : ℕ) (fs : List Field) (name : Text) (f : Field) → field_named fs name ≡ Some f → Located n at fs name f
located n at [] name f h = absurd (none-some f h)
located n at (g ∷ fs) name f h =
    located_by (same g.name.text name) n at g fs name f refl (located (suc n) (at + cells_of g.array) fs name f) h

-- a field that is found by name is the one of its number
pub found_field :
    (d : StructDef) (name : Text) (f : Field) → field_named d.fields name ≡ Some f → Located 0 0 d.fields name f
found_field d name f h = located 0 0 d.fields name f h

there_at :
    (d : StructDef) (name : Text) (f : Field) (l : Located 0 0 d.fields name f) →
    slice_get (fields_from 0 d.fields) l.number ≡ Some (field l.first f)
there_at d name f l =
    let same_number : l.number ≡ l.k = let c = l.counted in omega (arith, c) in
    ap (slice_get (fields_from 0 d.fields)) same_number ∙ l.there

read_at :
    (d : StructDef) (name : Text) (f : Field) (l : Located 0 0 d.fields name f) →
    get_or (fields_from 0 d.fields) l.number no_field ≡ field l.first f
read_at d name f l =
    get_or_from_slice_get (fields_from 0 d.fields) l.number (field l.first f) no_field (there_at d name f l)

pub has_field :
    (d : StructDef) (name : Text) (f : Field) → field_named d.fields name ≡ Some f →
    HasField (of_struct d) (field_at (found 0 0 d.fields name))
has_field d name f h =
    let l = located 0 0 d.fields name f h in
    let read = read_at d name f l in
    subst (λ o. HasField (of_struct d) (field_at o)) (sym l.is)
    (record { first = ap (λ x. x.at) read; length = ap (λ x. x.cells) read })

-- a pointer by its type, and as many cells as its array has
pub record FieldKind (s : Shape) (k : ℕ) (f : Field) : Type 0 where
  pub is : FieldIs s k (is_pointer (value_type f.ty))
  pub cells : (field_of s k).cells ≡ cells_of f.array

pub field_kind :
    (d : StructDef) (name : Text) (f : Field) → field_named d.fields name ≡ Some f →
    FieldKind (of_struct d) (field_at (found 0 0 d.fields name)).number f
field_kind d name f h =
    let l = located 0 0 d.fields name f h in
    let read = read_at d name f l in
    subst (λ o. FieldKind (of_struct d) (field_at o).number f) (sym l.is) (
    record {
      is =
          record {
            number = slice_get_within (fields_from 0 d.fields) l.number (field l.first f) (there_at d name f l);
            points = ap (λ x. x.pointer) read;
          };
      cells = ap (λ x. x.cells) read;
    }
    )
