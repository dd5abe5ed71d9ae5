-- A sink in memory, and after how many bytes its calls fail.
use Rattle.std.specs.Prelude.{◌≡◌, ℕ, nat_eq, if◌then◌else◌, List, [], ◌∷◌, ◌++◌, take, Option, Some, None, Result, Ok, Err}
use Rattle.ec_base.specs.declared.fail.Fail.{Fail}
use Rattle.ec_base.specs.declared.fail.Fail.TheVariants.{Memory, Refused}
use Rattle.ec_edge.specs.declared.memory_sink.MemSink.{MemSink}
use Rattle.ec_edge.specs.Fault.{raised}
use Rattle.ec_edge.specs.Sink.{SeenSink}

abbrev pub seen_sink : MemSink → SeenSink
seen_sink s = record { written = Some s.bytes; faults = s.faults }

-- an empty sink that had no call yet: the listed calls will fail, each after so many bytes
abbrev pub IsNew : List (ℕ × ℕ) → MemSink → Type 0
IsNew fails s = (s.bytes ≡ []) × (s.fails ≡ fails) × (s.calls ≡ 0) × (s.faults ≡ 0)

-- after how many bytes the call with this number fails, if it is listed: the first of its number counts
abbrev pub fault_after : ℕ → List (ℕ × ℕ) → Option ℕ
fault_after call [] = None
fault_after call (fault ∷ faults) = if nat_eq fault.0 call then Some fault.1 else fault_after call faults

-- after how many bytes the next call fails, if it does
abbrev pub next_fault : MemSink → Option ℕ
next_fault s = fault_after (raised s.calls) s.fails

-- the next call is one more, and the same ones are listed
abbrev pub IsCounted : MemSink → MemSink → Type 0
IsCounted old new = (new.calls ≡ raised old.calls) × (new.fails ≡ old.fails)

-- a put appends all bytes, and where its call is listed the bytes up to its fault; where it wants memory the sink is as
-- before
abbrev pub PutsAs : {T R : Type 0} → MemSink → List ℕ → MemSink → Result T (Fail R) → Type 0
PutsAs old bytes new (Ok _) = (next_fault old ≡ None) × (new.bytes ≡ old.bytes ++ bytes)
PutsAs old bytes new (Err Memory) = new ≡ old
PutsAs old bytes new (Err (Refused _)) =
    (most : ℕ) × (next_fault old ≡ Some most) × (new.bytes ≡ old.bytes ++ take most bytes)
