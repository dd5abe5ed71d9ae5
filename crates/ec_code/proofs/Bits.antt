-- The bits of a number, from one on.
use Rattle.std.proofs.Common.{◌≡◌, ◌<◌, ◌≤◌, ◌/◌, ◌^◌, ℕ, nat_lt, nat_le, nat_eq, inl, inr, arith}
use Rattle.std.proofs.Math.Pow.{pow_mono}
use Rattle.std.proofs.Math.Nat.{div-eq_of_lt}
use Rattle.std.proofs.lemmas.Nat.{le-div, pow_pos}
use Rattle.std.proofs.lemmas.Bool.Decides.{leb_tells, nat_tests}

-- a number of 64 bits has none from the 64th on
pub none_past : (n k : ℕ) → n < 2 ^ 64 → 64 ≤ k → nat_le 64 k ≡ nat_lt n (2 ^ k)
none_past n k below h = let e : 2 ^ 64 ≤ 2 ^ k = pow_mono h in grind (arith, nat_tests)

none_above : (n m : ℕ) → n < m → nat_eq (n / m) 0 ≡ nat_lt n m
none_above n m h = let e : n / m ≡ 0 = div-eq_of_lt h in grind (arith, nat_tests)

some_above : (n m : ℕ) → 0 < m → m ≤ n → nat_eq (n / m) 0 ≡ nat_lt n m
some_above n m h above = let e : 1 ≤ n / m = le-div 1 n m h (omega arith) in grind (arith, nat_tests)

pub none_from : (n k : ℕ) → nat_eq (n / 2 ^ k) 0 ≡ nat_lt n (2 ^ k)
none_from n k = elim (leb_tells (2 ^ k) n) [ inl w ↦ some_above n (2 ^ k) (pow_pos k) w.1 | inr w ↦ none_above n (2 ^ k) w.1 ]

pub ruleset bits = (none_past, none_from)
