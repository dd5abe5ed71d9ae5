use Rattle.std.proofs.Common.{◌≡◌, drop}
use Rattle.std.specs.Option.{option_copied}
use Rattle.ec_edge.specs.MemoryShelf.{given}
use Rattle.ec_edge.specs.Shelf.{bytes_of}
use Rattle.ec_edge.proofs.Writes.{bytes_after}
use Rattle.ec_edge.proofs.memory_shelf.MemShelf.told.Given as goal

abbrev pub invariant-loop-write : goal.invariant-loop-write
invariant-loop-write l = bytes_after l.name (bytes_of (given l.name l.self.files)) l.self.written ≡ bytes_after l.name (option_copied l.found) (drop l.write-index l.self.written)
