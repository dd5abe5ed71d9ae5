use Rattle.std.proofs.Common.{◌≡◌, ℕ, ◌+◌, ◌-◌, drop, slice_get, Some}
use Rattle.ec_simple.specs.Statements.{index}
use Rattle.ec_simple.proofs.places.places_in.Given as goal

abbrev pub invariant-loop-i : goal.invariant-loop-i
invariant-loop-i l =
    (x n : ℕ) → slice_get l.table x ≡ Some n → n ≡ (l.end - l.i) + index (drop (l.end - l.i) l.own) x
