use Rattle.std.proofs.Common.{take}
use Rattle.ec_meaning.specs.Shown.{ShowsCells}
use Rattle.ec_meaning.proofs.remembering.shown_cells.Given as goal

abbrev pub invariant-loop-value : goal.invariant-loop-value
invariant-loop-value l = ShowsCells l.blocks (take l.value-index l.values) l.shown
