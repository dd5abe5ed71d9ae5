use Rattle.std.proofs.Common.{◌≡◌, length, map, take}
use Rattle.ec_meaning.specs.Means.{value}
use Rattle.ec_meaning.specs.Seen.{Untold, cells}
use Rattle.ec_meaning.specs.Shown.{Names}
use Rattle.ec_meaning.proofs.remembering.shown_blocks.Given as goal

abbrev pub invariant-loop-block : goal.invariant-loop-block
invariant-loop-block l =
    (length l.all.items ≡ l.block-index)
    × ((u : Untold) → Names u l.blocks → map (map value) l.all.items ≡ map (cells u) (take l.block-index l.blocks))
