-- A count that rose has also risen since an earlier count, and by a later one.
use Rattle.std.proofs.Common.{ℕ, ◌≤◌, inl, inr, arith}
use Rattle.ec_edge.specs.Fault.{Rose}

pub Rose-since : (earlier old new : ℕ) → earlier ≤ old → old ≤ new → Rose old new → Rose earlier new
Rose-since earlier old new before after (inl rose) = inl (omega arith)
Rose-since earlier old new before after (inr last) = inr last

pub Rose-by : (old new later : ℕ) → old ≤ new → new ≤ later → Rose old new → Rose old later
Rose-by old new later before after rose = grind arith
