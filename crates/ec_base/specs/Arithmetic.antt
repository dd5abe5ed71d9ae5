-- Operators on numbers of 64 bits.
use Rattle.std.specs.Prelude.{ℕ, ◌==◌, Bool, true, false, not, ◌&&◌, if◌then◌else◌, Option, Some, None, ℤ, pos, negsuc, int_lt, int_le, int_rem, unsigned_abs}
use Rattle.std.specs.Int.{w64, int_rem_euclid, int_wrapping_add, int_wrapping_sub, int_wrapping_mul, int_wrapping_div, int_wrapping_neg, int_bit_and, int_bit_or, int_bit_xor, int_bit_not, int_shl, int_shr}
use Rattle.ec_base.specs.declared.operator.BinOp.{BinOp}
use Rattle.ec_base.specs.declared.operator.BinOp.TheVariants.{Add, Sub, Mul, Div, Rem, And, Or, Xor, Shl, Shr, Eq, Ne, Lt, Le, Gt, Ge}
use Rattle.ec_base.specs.declared.operator.UnOp.{UnOp}
use Rattle.ec_base.specs.declared.operator.UnOp.TheVariants.{Neg, Inv, Not}

abbrev pub is_zero : ℤ → Bool
is_zero (pos n) = n == 0
is_zero (negsuc n) = false

abbrev pub same_number : ℤ → ℤ → Bool
same_number (pos m) (pos n) = m == n
same_number (negsuc m) (negsuc n) = m == n
same_number m n = false

-- 1 where it holds, and 0 where it doesn't
abbrev pub one_if : Bool → ℤ
one_if b = if b then pos 1 else pos 0

-- how far numbers are shifted by b: b modulo 64, and not negative
abbrev pub shift : ℤ → ℕ
shift b = unsigned_abs (int_rem_euclid b (pos 64))

abbrev pub unless_zero : ℤ → ℤ → Option ℤ
unless_zero b quotient = if is_zero b then None else Some quotient

-- what a binary operator gives, none where it divides by 0. `/` truncates toward zero, and `%` has the sign of a.
abbrev pub binary : BinOp → ℤ → ℤ → Option ℤ
binary Add a b = Some (int_wrapping_add w64 a b)
binary Sub a b = Some (int_wrapping_sub w64 a b)
binary Mul a b = Some (int_wrapping_mul w64 a b)
binary Div a b = unless_zero b (int_wrapping_div w64 a b)
binary Rem a b = unless_zero b (int_rem a b)
binary And a b = Some (int_bit_and w64 a b)
binary Or a b = Some (int_bit_or w64 a b)
binary Xor a b = Some (int_bit_xor w64 a b)
binary Shl a b = Some (int_shl w64 a (shift b))
binary Shr a b = Some (int_shr a (shift b))
binary Eq a b = Some (one_if (same_number a b))
binary Ne a b = Some (one_if (not (same_number a b)))
binary Lt a b = Some (one_if (int_lt a b))
binary Le a b = Some (one_if (int_le a b))
binary Gt a b = Some (one_if (int_lt b a))
binary Ge a b = Some (one_if (int_le b a))

abbrev pub unary : UnOp → ℤ → ℤ
unary Neg a = int_wrapping_neg w64 a
unary Inv a = int_bit_not w64 a
unary Not a = one_if (is_zero a)
