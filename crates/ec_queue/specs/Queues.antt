-- Queues as lists, the oldest item first, and rows of queues.
use Rattle.std.specs.Prelude.{◌≡◌, ℕ, Bool, true, false, List, [], ◌∷◌, ◌++◌, Option, Some, None, slice_get, slice_set}

-- the oldest item, and the rest
abbrev pub taken : {A : Type 0} → List A → Option (A × List A)
taken [] = None
taken (x ∷ xs) = Some (x, xs)

abbrev pub put_to : {A : Type 0} → Option (List A) → ℕ → A → List (List A) → List (List A)
put_to None at x qs = qs
put_to (Some q) at x qs = slice_set qs at (q ++ x ∷ [])

-- an item more in one queue, if there is that queue
abbrev pub put_at : {A : Type 0} → ℕ → A → List (List A) → List (List A)
put_at at x qs = put_to (slice_get qs at) at x qs

abbrev pub taken_of : {A : Type 0} → Option (List A) → ℕ → List (List A) → Option (A × List (List A))
taken_of None at qs = None
taken_of (Some []) at qs = None
taken_of (Some (x ∷ xs)) at qs = Some (x, slice_set qs at xs)

-- the oldest item of one queue, and all queues without it
abbrev pub taken_at : {A : Type 0} → ℕ → List (List A) → Option (A × List (List A))
taken_at at qs = taken_of (slice_get qs at) at qs

-- ---- whether there is something to take

abbrev pub has_some : {A : Type 0} → List A → Bool
has_some [] = false
has_some (x ∷ xs) = true

abbrev pub has_some_in : {A : Type 0} → Option (List A) → Bool
has_some_in None = false
has_some_in (Some q) = has_some q

-- ---- what may not be there

-- the oldest item was taken and the rest is left, or there was none and nothing changed
abbrev pub TookOldest : {A S : Type 0} → Option A → Option (A × S) → S → S → Type 0
TookOldest None told old new = (told ≡ None) × (new ≡ old)
TookOldest (Some first) told old new = told ≡ Some (first, new)

-- a step was there and was taken, or there was none and nothing changed
abbrev pub Took : {A : Type 0} → Bool → Option A → A → A → Type 0
Took true told old new = told ≡ Some new
Took false told old new = (told ≡ None) × (new ≡ old)
