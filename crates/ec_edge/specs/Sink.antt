-- A sink as its clauses see it, and what a put makes of it.
use Rattle.std.specs.Prelude.{◌≡◌, ℕ, ◌≤◌, List, length, take, Option}
use Rattle.std.specs.Io.KnownBytes.{Appends}
use Rattle.ec_edge.specs.Fault.{Rose}

-- what a sink tells was written, and how many puts failed
pub record SeenSink : Type 0 where
  pub written : Option (List ℕ)
  pub faults : ℕ

-- all these bytes were appended, and no fault was met
pub record Takes (bytes : List ℕ) (old new : SeenSink) : Type 0 where
  pub written : Appends old.written new.written bytes
  pub faults : new.faults ≡ old.faults

-- a first part of these bytes was appended
abbrev pub AppendsPart : Option (List ℕ) → Option (List ℕ) → List ℕ → Type 0
AppendsPart old new bytes = (k : ℕ) × (k ≤ length bytes) × Appends old new (take k bytes)

-- a fault was met and counted, and a first part of these bytes was appended
pub record Breaks (bytes : List ℕ) (old new : SeenSink) : Type 0 where
  pub written : AppendsPart old.written new.written bytes
  pub faults : Rose old.faults new.faults
