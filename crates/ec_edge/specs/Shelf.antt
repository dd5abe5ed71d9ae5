-- A shelf as its clauses see it, and what its calls make of it.
use Rattle.std.specs.Prelude.{◌≡◌, ◌⊎◌, ℕ, ◌<◌, ◌≤◌, List, length, Option, Some, None}
use Rattle.ec_edge.specs.declared.ends.ReadEnd.{ReadEnd}
use Rattle.ec_edge.specs.declared.ends.ReadEnd.TheVariants.{Whole, TooLong}

-- what a shelf tells of a name: nothing, that there is no such file, or the bytes of the file
pub data Told : Type 0 where
  untold : Told
  missing : Told
  holds : List ℕ → Told

-- the bytes, where they are told
abbrev pub bytes_of : Told → Option (List ℕ)
bytes_of untold = None
bytes_of missing = None
bytes_of (holds bytes) = Some bytes

-- what a shelf tells of each name, and how many reads and writes failed
pub record SeenShelf : Type 0 where
  pub told : List ℕ → Told
  pub read_faults : ℕ
  pub write_faults : ℕ

-- no more than a read: what is told of each name stays, and no failed write is counted
pub record OnlyReads (old new : SeenShelf) : Type 0 where
  pub told : (name : List ℕ) → new.told name ≡ old.told name
  pub reads : old.read_faults ≤ new.read_faults
  pub writes : new.write_faults ≡ old.write_faults

-- no more than a write of this name: what is told of every other stays, and no failed read is counted
pub record OnlyWrites (name : List ℕ) (old new : SeenShelf) : Type 0 where
  pub told : (other : List ℕ) → (other ≡ name → ⊥) → new.told other ≡ old.told other
  pub reads : new.read_faults ≡ old.read_faults
  pub writes : old.write_faults ≤ new.write_faults

-- a read that ends well gives the whole file, or says that it has more than the most bytes; that of a missing file
-- doesn't end well
abbrev pub Gives : Told → ℕ → ReadEnd → Type 0
Gives untold most end = Unit {0}
Gives missing most end = ⊥
Gives (holds bytes) most (Whole text) = (text ≡ bytes) × (length bytes ≤ most)
Gives (holds bytes) most TooLong = most < length bytes

-- a write of these bytes that ends well is told, or nothing is where nothing was
abbrev pub Becomes : List ℕ → Told → Told → Type 0
Becomes bytes untold new = (new ≡ untold) ⊎ (new ≡ holds bytes)
Becomes bytes missing new = new ≡ holds bytes
Becomes bytes (holds before) new = new ≡ holds bytes

-- the same of a file by its name
abbrev pub IsMade : List ℕ → List ℕ → SeenShelf → SeenShelf → Type 0
IsMade name bytes old new = Becomes bytes (old.told name) (new.told name)
