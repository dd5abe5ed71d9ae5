-- Reads and writes of one item of a list.
use Rattle.std.proofs.Common.{◌≡◌, ℕ, List, get_or, ap, ◌∙◌, slice_set}
use Rattle.std.proofs.lemmas.List.{set-get_or, set_past}
use Rattle.std.proofs.lemmas.Option.{get_or_from_slice_get, slice_get_past, slice_get_read}

-- a write of what was read
pub set_read : {A : Type 0} (xs : List A) (i : ℕ) (x : A) → x ≡ get_or xs i x → slice_set xs i x ≡ xs
set_read xs i x h = ap (λ y. slice_set xs i y) h ∙ set-get_or xs i x

pub ruleset rows = (set_read, slice_get_past, slice_get_read)

pub ruleset writes = (set_read, slice_get_past, slice_get_read, set_past)
