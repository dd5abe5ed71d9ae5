-- A range of numbers, one number longer.
use Rattle.std.proofs.Common.{◌≡◌, ap, ℕ, zero, suc, ◌+◌, [], ◌∷◌, ◌++◌, arith}
use Rattle.std.specs.List.{range_with_len}

pub range_more : (a n : ℕ) → range_with_len a (n + 1) ≡ range_with_len a n ++ (a + n) ∷ []
range_more a zero = ap (λ x. x ∷ []) (omega arith)
range_more a (suc n) =
    let more : suc n + 1 ≡ suc (n + 1) = omega arith in
    let last : a + suc n ≡ (a + 1) + n = omega arith in
    rw (more, last) (ap (λ xs. a ∷ xs) (range_more (a + 1) n))
