use Rattle.std.proofs.Common.{◌≡◌, map, take}
use Rattle.ec_meaning.specs.Reached.{first_of}
use Rattle.ec_meaning.proofs.allocation.element.Given as goal

abbrev pub invariant-loop-pointer : goal.invariant-loop-pointer
invariant-loop-pointer l = l.cells.items ≡ map first_of (take l.pointer-index l.pointers)
