-- A shelf in memory: the files that it was given, under what was written since.
use Rattle.std.specs.Prelude.{◌≡◌, ◌⊎◌, ℕ, Bool, true, false, nat_eq, if◌then◌else◌, List, [], ◌∷◌, Option, Some, None, Result, Ok, Err}
use Rattle.std.specs.List.{list_any}
use Rattle.std.specs.Str.{bytes_eq}
use Rattle.ec_base.specs.declared.fail.Fail.{Fail}
use Rattle.ec_base.specs.declared.fail.Fail.TheVariants.{Memory, Refused}
use Rattle.ec_edge.specs.declared.ends.ReadEnd.{ReadEnd}
use Rattle.ec_edge.specs.declared.memory_shelf.MemShelf.{MemShelf}
use Rattle.ec_edge.specs.declared.memory_shelf.Written.{Written}
use Rattle.ec_edge.specs.Fault.{raised}
use Rattle.ec_edge.specs.Shelf.{Gives, SeenShelf, Told, bytes_of, holds, missing, untold}

-- the first of the files with this name, if there is one
abbrev pub given : List ℕ → List (List ℕ × List ℕ) → Told
given name [] = missing
given name (file ∷ files) = if bytes_eq file.0 name then holds file.1 else given name files

-- what a write that ended well made of a file, or one that failed
abbrev pub made : Option (List ℕ) → Told
made (Some bytes) = holds bytes
made None = untold

-- what is told of a name after a write, which leaves every other name as it was
abbrev pub after_one : List ℕ → Told → Written → Told
after_one name before write = if bytes_eq write.name name then made write.bytes else before

-- what is told of a name after these writes, the oldest of which comes first
abbrev pub after : List ℕ → Told → List Written → Told
after name before [] = before
after name before (write ∷ writes) = after name (after_one name before write) writes

abbrev pub seen_shelf : MemShelf → SeenShelf
seen_shelf s = record {
  told = λ name. after name (given name s.files) s.written;
  read_faults = s.read_faults;
  write_faults = s.write_faults;
}

-- a shelf that was given these files, and had no call yet: those with these numbers will fail
pub record IsNew (files : List (List ℕ × List ℕ)) (listed : List ℕ) (s : MemShelf) : Type 0 where
  pub told : (name : List ℕ) → (seen_shelf s).told name ≡ given name files
  pub fails : s.fails ≡ listed
  pub calls : s.calls ≡ 0
  pub read_faults : s.read_faults ≡ 0
  pub write_faults : s.write_faults ≡ 0

-- whether the call with this number is listed
abbrev pub is_listed : ℕ → List ℕ → Bool
is_listed call calls = list_any (λ listed. nat_eq listed call) calls

-- whether the next call will fail
abbrev pub fails_next : MemShelf → Bool
fails_next s = is_listed (raised s.calls) s.fails

-- the next call is one more, and the same ones are listed
abbrev pub IsCounted : MemShelf → MemShelf → Type 0
IsCounted old new = (new.calls ≡ raised old.calls) × (new.fails ≡ old.fails)

-- a read fails where its call is listed or there are no bytes to give, and gives them elsewhere
abbrev pub ReadsAs : {R : Type 0} → Bool → Told → ℕ → Result ReadEnd (Fail R) → Type 0
ReadsAs listed told most (Ok end) =
    (listed ≡ false) × ((bytes : List ℕ) × (told ≡ holds bytes) × Gives (holds bytes) most end)
ReadsAs listed told most (Err Memory) = Unit {0}
ReadsAs listed told most (Err (Refused _)) = (listed ≡ true) ⊎ (bytes_of told ≡ None)

-- a write fails where its call is listed, and is told elsewhere
abbrev pub WritesAs : {T R : Type 0} → Bool → List ℕ → Told → Result T (Fail R) → Type 0
WritesAs listed bytes told (Ok _) = (listed ≡ false) × (told ≡ holds bytes)
WritesAs listed bytes told (Err Memory) = Unit {0}
WritesAs listed bytes told (Err (Refused _)) = (listed ≡ true) × (told ≡ untold)
