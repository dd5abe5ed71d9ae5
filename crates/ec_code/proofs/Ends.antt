-- The last instruction of a fiber.
use Rattle.std.proofs.Common.{◌≡◌, ◌-◌, suc, List, [], ◌∷◌, length, slice_get, Some, arith}
use Rattle.ec_code.specs.declared.instr.Instr.{Instr}
use Rattle.ec_code.specs.Operands.{ends}
use Rattle.ec_code.specs.Valid.{ends_last}

pub ends_at_last : (xs : List Instr) (x : Instr) → Some x ≡ slice_get xs (length xs - 1) → ends_last xs ≡ ends x
ends_at_last [] x h = absurd (cc)
ends_at_last (y ∷ []) x h = cc
ends_at_last (y ∷ z ∷ rest) x h =
    let e : length (y ∷ z ∷ rest) - 1 ≡ suc (length (z ∷ rest) - 1) = omega arith in
    ends_at_last (z ∷ rest) x (rw e at h)
