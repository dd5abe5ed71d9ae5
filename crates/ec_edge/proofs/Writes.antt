-- What a write makes of the files of a shelf in memory.
use Rattle.std.proofs.Common.{◌≡◌, ℕ, Bool, true, false, if◌then◌else◌, List, [], ◌∷◌, ◌++◌, Option, Some, None, ◌≤◌, length, drop, refl, ap, sym, ◌∙◌}
use Rattle.std.specs.Str.{bytes_eq}
use Rattle.std.proofs.lemmas.List.{drop_all}
use Rattle.std.proofs.lemmas.Slice.Eq.{bytes_eq-Decides}
use Rattle.ec_edge.specs.declared.memory_shelf.Written.{Written}
use Rattle.ec_edge.specs.Shelf.{Told, bytes_of}
use Rattle.ec_edge.specs.MemoryShelf.{after, after_one, made}

-- ---- what is told after a write

after-push : (name : List ℕ) (before : Told) (writes : List Written) (last : Written) → after name before (writes ++ last ∷ []) ≡ after_one name (after name before writes) last
after-push name before [] last = refl
after-push name before (write ∷ writes) last = after-push name (after_one name before write) writes last

differs_by : (b : Bool) → (b ≡ true → ⊥) → b ≡ false
differs_by true differs = absurd (differs refl)
differs_by false differs = refl

differ : (xs ys : List ℕ) → (xs ≡ ys → ⊥) → bytes_eq xs ys ≡ false
differ xs ys differs = differs_by (bytes_eq xs ys) (λ same. differs ((bytes_eq-Decides xs ys).0 same))

after-same : (name : List ℕ) (before : Told) (bytes : Option (List ℕ)) (writes : List Written) → after name before (writes ++ record { name = name; bytes = bytes } ∷ []) ≡ made bytes
after-same name before bytes writes =
    let same = (bytes_eq-Decides name name).1 refl in
    rw (after-push name before writes (record { name = name; bytes = bytes }), same)

after-other : (n name : List ℕ) (before : Told) (bytes : Option (List ℕ)) (writes : List Written) → (n ≡ name → ⊥) → after n before (writes ++ record { name = name; bytes = bytes } ∷ []) ≡ after n before writes
after-other n name before bytes writes other =
    let differs = differ name n (λ e. other (sym e)) in
    rw (after-push n before writes (record { name = name; bytes = bytes }), differs)

-- where the last write has a copy of the name
pub told_same : (name copied : List ℕ) (before : Told) (bytes : Option (List ℕ)) (old new : List Written) → copied ≡ name → new ≡ old ++ record { name = copied; bytes = bytes } ∷ [] → after name before new ≡ made bytes
told_same name copied before bytes old new copy pushed = rw (pushed, copy) (after-same name before bytes old)

pub told_other : (n name copied : List ℕ) (before : Told) (bytes : Option (List ℕ)) (old new : List Written) → copied ≡ name → new ≡ old ++ record { name = copied; bytes = bytes } ∷ [] → (n ≡ name → ⊥) → after n before new ≡ after n before old
told_other n name copied before bytes old new copy pushed other = rw (pushed, copy) (after-other n name before bytes old other)

-- ---- the bytes alone

-- the bytes that are told after these writes
abbrev pub bytes_after : List ℕ → Option (List ℕ) → List Written → Option (List ℕ)
bytes_after name before [] = before
bytes_after name before (write ∷ writes) = bytes_after name (if bytes_eq write.name name then write.bytes else before) writes

bytes_made : (bytes : Option (List ℕ)) → bytes_of (made bytes) ≡ bytes
bytes_made None = refl
bytes_made (Some bytes) = refl

bytes_of-if : (b : Bool) (before : Told) (bytes : Option (List ℕ)) → bytes_of (if b then made bytes else before) ≡ (if b then bytes else bytes_of before)
bytes_of-if true before bytes = bytes_made bytes
bytes_of-if false before bytes = refl

pub bytes_after_is : (name : List ℕ) (before : Told) (writes : List Written) → bytes_of (after name before writes) ≡ bytes_after name (bytes_of before) writes
bytes_after_is name before [] = refl
bytes_after_is name before (write ∷ writes) =
    bytes_after_is name (after_one name before write) writes ∙ ap (λ o. bytes_after name o writes) (bytes_of-if (bytes_eq write.name name) before write.bytes)

-- what the loop over the writes found
pub found : (name : List ℕ) (before : Told) (writes : List Written) (k : ℕ) (bytes : Option (List ℕ)) →
    bytes_after name (bytes_of before) writes ≡ bytes_after name bytes (drop k writes) → length writes ≤ k → bytes ≡ bytes_of (after name before writes)
found name before writes k bytes here all =
    let none : drop k writes ≡ [] = drop_all k writes all in
    let last : bytes_after name bytes (drop k writes) ≡ bytes = ap (bytes_after name bytes) none in
    sym (bytes_after_is name before writes ∙ here ∙ last)
