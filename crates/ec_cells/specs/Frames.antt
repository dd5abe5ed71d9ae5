-- Frames, their cells, and the births that they take.
use Rattle.std.specs.Prelude.{ℕ, ◌+◌, Bool, true, false, List, [], ◌∷◌, ◌++◌, length, replicate, pos, Option, Some, None, slice_get, slice_set}
use Rattle.ec_base.specs.declared.value.Birth.{Birth}
use Rattle.ec_base.specs.declared.value.Value.{Value}
use Rattle.ec_base.specs.declared.value.Value.TheVariants as v
use Rattle.ec_cells.specs.declared.node.Frame.{Frame}
use Rattle.ec_cells.specs.Memory.{Memory}

-- ---- frames

-- a frame more, whose cells are 0, with this birth
abbrev pub with_frame : ℕ → Option Birth → Memory → Memory
with_frame cells birth m = record m {
  frames = m.frames ++ record { live = true; cells = replicate cells (v.Int (pos 0)); taken = [] } ∷ [];
  births = record m.births { frames = m.births.frames ++ birth ∷ [] };
}

abbrev pub is_live : Option Frame → Bool
is_live None = false
is_live (Some f) = f.live

-- the frame was made and hasn't ended
abbrev pub lives : ℕ → Memory → Bool
lives n m = is_live (slice_get m.frames n)

-- an ended frame keeps nothing
abbrev pub ended : Frame
ended = record { live = false; cells = []; taken = [] }

abbrev pub end_frame : ℕ → Memory → Memory
end_frame n m = record m { frames = slice_set m.frames n ended }

-- ---- cells

abbrev pub cells_in : Option Frame → List Value
cells_in None = []
cells_in (Some f) = f.cells

abbrev pub or_zero : Option Value → Value
or_zero None = v.Int (pos 0)
or_zero (Some x) = x

-- how many cells a frame has
abbrev pub cell_count : ℕ → Memory → ℕ
cell_count n m = length (cells_in (slice_get m.frames n))

-- what a cell of a frame holds, 0 where there is no such cell
abbrev pub cell_at : ℕ → ℕ → Memory → Value
cell_at n c m = or_zero (slice_get (cells_in (slice_get m.frames n)) c)

abbrev pub put_in : Option Frame → ℕ → ℕ → Value → Memory → Memory
put_in None n c x m = m
put_in (Some f) n c x m = record m { frames = slice_set m.frames n (record f { cells = slice_set f.cells c x }) }

-- the memory with a cell of a frame set, where there is such a cell
abbrev pub put_cell : ℕ → ℕ → Value → Memory → Memory
put_cell n c x m = put_in (slice_get m.frames n) n c x m

-- ---- births

abbrev pub taken_in : Option Frame → ℕ
taken_in None = 0
taken_in (Some f) = length f.taken

-- the next birth of a frame: the numbers count from 1
abbrev pub next_birth : ℕ → Memory → Birth
next_birth n m = record { node = m.node; frame = n; number = taken_in (slice_get m.frames n) + 1 }

abbrev pub took_in : Option Frame → ℕ → Memory → Memory
took_in None n m = m
took_in (Some f) n m = record m { frames = slice_set m.frames n (record f { taken = f.taken ++ 0 ∷ [] }) }

-- the frame has taken one number more
abbrev pub took_birth : ℕ → Memory → Memory
took_birth n m = took_in (slice_get m.frames n) n m
