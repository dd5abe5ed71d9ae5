-- The first values of cells.
use Rattle.std.proofs.Common.{◌≡◌, refl, ◌∙◌, ap, ℕ, zero, suc, List, [], ◌∷◌, ◌++◌, map}
use Rattle.std.proofs.Math.ListN.{replicate}
use Rattle.std.proofs.lemmas.List.{map-append}
use Rattle.ec_calls.specs.Effects.{joined}
use Rattle.ec_syntax.specs.declared.item.Field.{Field}
use Rattle.ec_types.specs.Meaning.Layout.{field_cells}
use Rattle.ec_types.specs.Sizes.{cells_of}
use Rattle.ec_types.specs.Types.{value_type, is_pointer}
use Rattle.ec_resolve.specs.Erased.{first_value}
use Rattle.ec_resolve.specs.Pointers as pointers

map-replicate : {A B : Type 0} (f : A → B) (n : ℕ) (x : A) → map f (replicate n x) ≡ replicate n (f x)
map-replicate f zero x = refl
map-replicate f (suc n) x = ap (λ l. f x ∷ l) (map-replicate f n x)

-- of all fields, one after the other
pub first_values : (fs : List Field) → map first_value (joined (map pointers.field fs)) ≡ joined (map field_cells fs)
first_values [] = refl
first_values (f ∷ fs) =
    map-append first_value (pointers.field f) (joined (map pointers.field fs))
    ∙ ap (λ l. l ++ map first_value (joined (map pointers.field fs))) (map-replicate first_value (cells_of f.array) (is_pointer (value_type f.ty)))
    ∙ ap (λ l. field_cells f ++ l) (first_values fs)
