-- The memory of a program shows its blocks: pointers are the paths of the blocks that they lead to.
use Rattle.std.specs.Prelude.{◌≡◌, ℕ, List, map, slice_get, Some}
use Rattle.ec_base.specs.declared.memory.MemCell.{MemCell}
use Rattle.ec_base.specs.declared.memory.Memory.{Memory}
use Rattle.ec_types.specs.Meaning.Values.{Path}
use Rattle.ec_meaning.specs.declared.value.Value.{Value}
use Rattle.ec_meaning.specs.declared.value.Block.{Block}
use Rattle.ec_meaning.specs.Means as means
use Rattle.ec_meaning.specs.Seen.{Untold, val, cells, store}

-- the blocks' numbers stand for their paths
abbrev pub Names : Untold → List Block → Type 0
Names u blocks = (k : ℕ) (b : Block) → slice_get blocks k ≡ Some b → u.paths k ≡ b.path

abbrev pub ShowsCell : List Block → Value → MemCell → Type 0
ShowsCell blocks v shown = (u : Untold) → Names u blocks → means.value shown ≡ val u v

abbrev pub ShowsCells : List Block → List Value → List MemCell → Type 0
ShowsCells blocks values shown = (u : Untold) → Names u blocks → map means.value shown ≡ map (val u) values

-- the cells of these blocks, among all
abbrev pub ShowsBlocks : List Block → List Block → List (List MemCell) → Type 0
ShowsBlocks all blocks shown = (u : Untold) → Names u all → map (map means.value) shown ≡ map (cells u) blocks

abbrev pub ShowsStore : List Block → Memory → Type 0
ShowsStore blocks m = (u : Untold) → Names u blocks → (p : Path) → means.store m p ≡ store u blocks p
