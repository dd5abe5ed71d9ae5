-- Cells of frames as an execution unit reads and sets them.
use Rattle.std.specs.Prelude.{ℕ, suc, ◌==◌, ◌&&◌, Bool, true, false, List, [], ◌∷◌, map, Option, Some, None, ℤ}
use Rattle.ec_base.specs.declared.value.Block.{Block}
use Rattle.ec_base.specs.declared.value.Value.{Value}
use Rattle.ec_base.specs.declared.value.Value.TheVariants as v
use Rattle.ec_cells.specs.Accesses.{as_int}
use Rattle.ec_cells.specs.Frames.{cell_at, put_cell}
use Rattle.ec_eu.specs.State.{Exec, with_memory}

-- a value as a pointer: what is no pointer counts as NULL
abbrev pub as_pointer : Value → Option Block
as_pointer (v.Int n) = None
as_pointer v.Null = None
as_pointer (v.Ptr b) = Some b

-- what a cell of frame n holds, as a value, as a number and as a pointer
abbrev pub value_at : ℕ → ℕ → Exec → Value
value_at n c s = cell_at n c s.memory

abbrev pub int_at : ℕ → ℕ → Exec → ℤ
int_at n c s = as_int (value_at n c s)

abbrev pub pointer_at : ℕ → ℕ → Exec → Option Block
pointer_at n c s = as_pointer (value_at n c s)

-- what these cells of frame n hold
abbrev pub values_at : ℕ → List ℕ → Exec → List Value
values_at n cs s = map (λ c. value_at n c s) cs

abbrev pub ints_at : ℕ → List ℕ → Exec → List ℤ
ints_at n cs s = map (λ c. int_at n c s) cs

-- a cell of frame n is set, where there is such a cell
abbrev pub put : ℕ → ℕ → Value → Exec → Exec
put n c x s = with_memory (put_cell n c x s.memory) s

-- cells are set one after the other, as far as both lists go
abbrev pub put_all : ℕ → List ℕ → List Value → Exec → Exec
put_all n [] xs s = s
put_all n (c ∷ cs) [] s = s
put_all n (c ∷ cs) (x ∷ xs) s = put_all n cs xs (put n c x s)

-- the cells from this one on are set
abbrev pub put_from : ℕ → ℕ → List Value → Exec → Exec
put_from n c [] s = s
put_from n c (x ∷ xs) s = put_from n (suc c) xs (put n c x s)

-- one block, or both NULL
abbrev pub same_block : Option Block → Option Block → Bool
same_block None None = true
same_block (Some a) (Some b) = (a.node == b.node) && (a.number == b.number)
same_block None (Some b) = false
same_block (Some a) None = false
