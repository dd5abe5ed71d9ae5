-- Places lie within their lists, and small structs have few fields.
use Rattle.std.proofs.Common.{◌≡◌, refl, sym, ◌∙◌, subst, ℕ, suc, ◌<◌, ◌≤◌, Bool, true, false, if◌then◌else◌, List, [], ◌∷◌, length, map, sum_by, nat_le, ℤ, Option, Some, None, option_map, arith}
use Rattle.std.proofs.lemmas.Bool.{and_parts, leb-true}
use Rattle.std.proofs.lemmas.List.{length-map}
use Rattle.std.proofs.lemmas.List.Sums.{sum_by-cons}
use Rattle.std.specs.List.{list_all}
use Rattle.ec_base.specs.declared.limits.TheConstants.{MAX_STRUCT_CELLS}
use Rattle.ec_base.specs.declared.text.Text.{Text}
use Rattle.ec_syntax.specs.declared.item.Field.{Field}
use Rattle.ec_syntax.specs.declared.item.StructDef.{StructDef}
use Rattle.ec_syntax.specs.Grammar.Words.{same}
use Rattle.ec_types.specs.Places.{place}
use Rattle.ec_types.specs.Sizes.{magnitude, cells_of, cells, is_length, is_small}

-- ---- places

within_one :
    (b : Bool) (o : Option ℕ) (n k : ℕ) → ((j : ℕ) → o ≡ Some j → j < n) →
    (if b then Some 0 else option_map suc o) ≡ Some k → k < suc n
within_one true o n k h e = let is : 0 ≡ k = cc in omega (arith, is)
within_one false None n k h e = let no : ⊥ = cc in absurd no
within_one false (Some j) n k h e = let is : suc j ≡ k = cc in omega (arith, is, h j refl)

within : (xs : List Text) (name : Text) (k : ℕ) → place xs name ≡ Some k → k < length xs
within [] name k e = let no : ⊥ = cc in absurd no
within (x ∷ xs) name k e = within_one (same x name) (place xs name) (length xs) k (within xs name) e

-- what is found by name
pub found_within :
    {A : Type 0} (text : A → Text) (all : List A) (name : Text) (o : Option ℕ) (k : ℕ) →
    o ≡ place (map text all) name → o ≡ Some k → k < length all
found_within text all name o k at some =
    subst (λ n. k < n) (length-map all text) (within (map text all) name k (sym at ∙ some))

-- ---- fields

one_cell : (array : Option ℤ) → is_length array ≡ true → 1 ≤ cells_of array
one_cell None h = omega arith
one_cell (Some n) h = leb-true 1 (magnitude n) (and_parts (nat_le 1 (magnitude n)) _ h).0

-- each has a cell at least
one_each : (fs : List Field) → list_all (λ f. is_length f.array) fs ≡ true → length fs ≤ sum_by (λ f. cells_of f.array) fs
one_each [] h = omega arith
one_each (f ∷ fs) h =
    let both = and_parts (is_length f.array) (list_all (λ g. is_length g.array) fs) h in
    omega (arith, sum_by-cons (λ g. cells_of g.array) f fs, one_cell f.array both.0, one_each fs both.1)

pub few_fields : (s : StructDef) → is_small s ≡ true → length s.fields ≤ MAX_STRUCT_CELLS
few_fields s h =
    let both = and_parts (nat_le (cells s) MAX_STRUCT_CELLS) (list_all (λ f. is_length f.array) s.fields) h in
    omega (arith, leb-true (cells s) MAX_STRUCT_CELLS both.0, one_each s.fields both.1)
