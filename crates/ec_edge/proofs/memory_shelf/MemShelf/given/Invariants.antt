use Rattle.std.proofs.Common.{◌≡◌, drop}
use Rattle.ec_edge.specs.MemoryShelf.{given}
use Rattle.ec_edge.proofs.memory_shelf.MemShelf.given.Given as goal

abbrev pub invariant-loop-file : goal.invariant-loop-file
invariant-loop-file l = given l.name l.self.files ≡ given l.name (drop l.file-index l.self.files)
