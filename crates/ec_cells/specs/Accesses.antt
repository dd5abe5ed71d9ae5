-- Accesses to cells and elements of blocks. The elements of a size are the block's cells taken size by size; a shorter rest is
-- left out.
use Rattle.std.specs.Prelude.{◌≡◌, ℕ, suc, ◌+◌, ◌*◌, Bool, ◌&&◌, if◌then◌else◌, nat_lt, nat_le, List, [], ◌∷◌, ◌++◌, length, take, drop, ℤ, pos, negsuc, Option, Some, None, slice_get, slice_set}
use Rattle.std.specs.Int.{w64, int_wrapping_add}
use Rattle.ec_base.specs.declared.value.Value.{Value}
use Rattle.ec_base.specs.declared.value.Value.TheVariants as v
use Rattle.ec_cells.specs.Memory.{Memory}

-- ---- places in a block

-- a number that isn't negative
abbrev pub natural : ℤ → Option ℕ
natural (pos n) = Some n
natural (negsuc n) = None

-- the block has an element of this index and size
abbrev pub has_element : ℕ → ℕ → List Value → Bool
has_element index size cells = nat_lt 0 size && nat_le (suc index * size) (length cells)

-- the first cell of an element, where the block has it
abbrev pub element_start : ℤ → ℕ → List Value → Option ℕ
element_start (pos i) size cells = if has_element i size cells then Some (i * size) else None
element_start (negsuc i) size cells = None

abbrev pub offset_from : Option ℕ → ℕ → ℤ → Option ℕ
offset_from None size off = None
offset_from (Some start) size (pos j) = if nat_lt j size then Some (start + j) else None
offset_from (Some start) size (negsuc j) = None

-- the place of a cell of an element, where the block has it
abbrev pub cell_place : ℤ → ℕ → ℤ → List Value → Option ℕ
cell_place index size off cells = offset_from (element_start index size cells) size off

-- ---- cells

abbrev pub read_at : Option ℕ → List Value → Option Value
read_at None cells = None
read_at (Some place) cells = slice_get cells place

abbrev pub load_from : Option (List Value) → ℤ → ℕ → ℤ → Option Value
load_from None index size off = None
load_from (Some cells) index size off = read_at (cell_place index size off cells) cells

-- what a cell of an element of a block holds, where there is that cell
abbrev pub load : ℕ → ℤ → ℕ → ℤ → Memory → Option Value
load block index size off m = load_from (slice_get m.blocks block) index size off

abbrev pub with_cells : ℕ → List Value → Memory → Memory
with_cells block cells m = record m { blocks = slice_set m.blocks block cells }

abbrev pub write_at : Option ℕ → ℕ → List Value → Value → Memory → Option Memory
write_at None block cells x m = None
write_at (Some place) block cells x m = Some (with_cells block (slice_set cells place x) m)

abbrev pub store_to : Option (List Value) → ℕ → ℤ → ℕ → ℤ → Value → Memory → Option Memory
store_to None block index size off x m = None
store_to (Some cells) block index size off x m = write_at (cell_place index size off cells) block cells x m

-- the memory with a cell of an element set, where there is that cell
abbrev pub store : ℕ → ℤ → ℕ → ℤ → Value → Memory → Option Memory
store block index size off x m = store_to (slice_get m.blocks block) block index size off x m

-- a value as a number: what is no number counts as 0
abbrev pub as_int : Value → ℤ
as_int (v.Int n) = n
as_int v.Null = pos 0
as_int (v.Ptr b) = pos 0

abbrev pub add_to : Option (List Value) → ℕ → ℤ → Memory → Option Memory
add_to None block by m = None
add_to (Some []) block by m = None
add_to (Some (x ∷ xs)) block by m =
    Some (with_cells block (v.Int (int_wrapping_add w64 (as_int x) by) ∷ xs) m)

-- the memory with a number added to a block's first cell modulo 2^64, where the block has a cell
abbrev pub add : ℕ → ℤ → Memory → Option Memory
add block by m = add_to (slice_get m.blocks block) block by m

-- ---- elements

abbrev pub taken_at : Option ℕ → ℕ → List Value → Option (List Value)
taken_at None size cells = None
taken_at (Some start) size cells = Some (take size (drop start cells))

abbrev pub element_from : Option (List Value) → ℤ → ℕ → Option (List Value)
element_from None index size = None
element_from (Some cells) index size = taken_at (element_start index size cells) size cells

-- the cells of an element of a block, where there is that element
abbrev pub element : ℕ → ℤ → ℕ → Memory → Option (List Value)
element block index size m = element_from (slice_get m.blocks block) index size

abbrev pub replaced_at : Option ℕ → List Value → List Value → ℕ → Memory → Option Memory
replaced_at None new cells block m = None
replaced_at (Some start) new cells block m =
    Some (with_cells block (take start cells ++ new ++ drop (start + length new) cells) m)

abbrev pub put_from : Option (List Value) → ℕ → ℤ → List Value → Memory → Option Memory
put_from None block index new m = None
put_from (Some cells) block index new m = replaced_at (element_start index (length new) cells) new cells block m

-- the memory with an element of a block replaced by these cells, where there is that element
abbrev pub put_element : ℕ → ℤ → List Value → Memory → Option Memory
put_element block index new m = put_from (slice_get m.blocks block) block index new m

-- ---- what may not be there

-- the change was there and was made, or there was none and nothing changed
abbrev pub Changed : {A : Type 0} → Option (Unit {0}) → Option A → A → A → Type 0
Changed None told old new = (told ≡ None) × (new ≡ old)
Changed (Some done) told old new = told ≡ Some new
