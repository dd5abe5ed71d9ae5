-- The cells of structs.
use Rattle.std.specs.Prelude.{ℕ, Bool, true, List, ◌&&◌, nat_le, sum_by, ℤ, pos, negsuc, Option, Some, None, option_map}
use Rattle.std.specs.List.{list_all}
use Rattle.ec_base.specs.declared.limits.TheConstants.{MAX_ARRAY, MAX_STRUCT_CELLS}
use Rattle.ec_base.specs.declared.text.Text.{Text}
use Rattle.ec_syntax.specs.declared.item.Program.{Program}
use Rattle.ec_syntax.specs.declared.item.StructDef.{StructDef}
use Rattle.ec_calls.specs.Items.{structs, struct_named}

abbrev pub magnitude : ℤ → ℕ
magnitude (pos n) = n
magnitude (negsuc n) = 0

-- an int or a pointer is one cell, an array as many as its length
abbrev pub cells_of : Option ℤ → ℕ
cells_of None = 1
cells_of (Some n) = magnitude n

abbrev pub cells : StructDef → ℕ
cells s = sum_by (λ f. cells_of f.array) s.fields

-- an array has at least one element, and no more than the limit
abbrev pub is_length : Option ℤ → Bool
is_length None = true
is_length (Some n) = nat_le 1 (magnitude n) && nat_le (magnitude n) MAX_ARRAY

abbrev pub is_small : StructDef → Bool
is_small s = nat_le (cells s) MAX_STRUCT_CELLS && list_all (λ f. is_length f.array) s.fields

-- the cells of the struct of this name
abbrev pub size_of : List StructDef → Text → Option ℕ
size_of all name = option_map cells (struct_named all name)

abbrev pub size : Program → Text → Option ℕ
size p = size_of (structs p)
