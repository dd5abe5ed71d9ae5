-- Blocks that are made.
use Rattle.std.specs.Prelude.{ℕ, zero, suc, ◌/◌, ◌%◌, ◌==◌, if◌then◌else◌, List, [], ◌∷◌, ◌++◌, pos}
use Rattle.ec_base.specs.declared.value.Value.{Value}
use Rattle.ec_base.specs.declared.value.Value.TheVariants as v
use Rattle.ec_cells.specs.Frames.{next_birth, took_birth}
use Rattle.ec_cells.specs.Memory.{Memory}

-- the first cells of an element of this size: cell j is NULL where bit j of the number is set, and 0 elsewhere
abbrev pub fresh_element : ℕ → ℕ → List Value
fresh_element zero nils = []
fresh_element (suc size) nils =
    (if nils % 2 == 1 then v.Null else v.Int (pos 0)) ∷ fresh_element size (nils / 2)

-- so many elements, one behind the other
abbrev pub fresh_cells : ℕ → ℕ → ℕ → List Value
fresh_cells zero size nils = []
fresh_cells (suc count) size nils = fresh_element size nils ++ fresh_cells count size nils

-- the next birth of the frame is a block's
abbrev pub with_birth : ℕ → Memory → Memory
with_birth frame m = record (took_birth frame m) {
  births = record m.births { blocks = m.births.blocks ++ next_birth frame m ∷ [] };
}

-- a block more, whose birth is the next one of the frame
abbrev pub with_block : ℕ → List Value → Memory → Memory
with_block frame cells m = record (took_birth frame m) {
  blocks = m.blocks ++ cells ∷ [];
  births = record m.births { blocks = m.births.blocks ++ next_birth frame m ∷ [] };
}
