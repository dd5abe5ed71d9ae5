-- What a count of faults says, and of which end of a call a fact is told.
use Rattle.std.specs.Prelude.{◌≡◌, ◌⊎◌, ℕ, ◌<◌, ◌^◌, ◌+◌, ◌-◌, min, Result, Ok, Err}
use Rattle.ec_base.specs.declared.fail.Fail.{Fail}
use Rattle.ec_base.specs.declared.fail.Fail.TheVariants.{Memory, Refused}

-- the count rose, or stands at its last value
abbrev pub Rose : ℕ → ℕ → Type 0
Rose old new = (old < new) ⊎ (new ≡ 2 ^ 64 - 1)

-- the count after one more, which stays at its last value
abbrev pub raised : ℕ → ℕ
raised n = min (n + 1) (2 ^ 64 - 1)

-- the fact holds where the call wants memory
abbrev pub OnMemory : {T R : Type 0} → Result T (Fail R) → Type 0 → Type 0
OnMemory (Ok _) P = Unit {0}
OnMemory (Err Memory) P = P
OnMemory (Err (Refused _)) P = Unit {0}

-- the call refuses
abbrev pub IsRefused : {T R : Type 0} → Result T (Fail R) → Type 0
IsRefused (Ok _) = ⊥
IsRefused (Err Memory) = ⊥
IsRefused (Err (Refused _)) = Unit {0}

-- the count rises by one at a refusal, and only there
abbrev pub RaisedAtFault : {T R : Type 0} → ℕ → ℕ → Result T (Fail R) → Type 0
RaisedAtFault old new (Ok _) = new ≡ old
RaisedAtFault old new (Err Memory) = new ≡ old
RaisedAtFault old new (Err (Refused _)) = new ≡ raised old
