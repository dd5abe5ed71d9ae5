-- Values: numbers, NULL, and pointers to blocks, which are named by their birth paths.
use Rattle.std.specs.Prelude.{Bool, true, false, not, List, Option, Some, option_map, ℕ, ℤ, pos}
use Rattle.ec_base.specs.Arithmetic.{one_if, is_zero, same_number, unary, binary}
use Rattle.ec_base.specs.declared.operator.BinOp.{BinOp}
use Rattle.ec_base.specs.declared.operator.BinOp.TheVariants.{Eq, Ne}
use Rattle.ec_base.specs.declared.operator.UnOp.{UnOp}
use Rattle.ec_base.specs.declared.operator.UnOp.TheVariants.{Not}
use Rattle.ec_base.specs.Words.{same}

-- the births that lead from main's activation, whose path is empty, to an activation or block
abbrev pub Path : Type 0
Path = List ℕ

pub data Val : Type 0 where
  Num : ℤ → Val
  Null : Val
  To : Path → Val

abbrev pub zero_value : Val
zero_value = Num (pos 0)

abbrev pub number : Val → ℤ
number (Num n) = n
number Null = pos 0
number (To p) = pos 0

-- as a condition: a number that isn't 0, or a pointer that isn't NULL
abbrev pub holds : Val → Bool
holds (Num n) = not (is_zero n)
holds Null = false
holds (To p) = true

abbrev pub truth : Bool → Val
truth b = Num (one_if b)

abbrev pub same_value : Val → Val → Bool
same_value (Num a) (Num b) = same_number a b
same_value Null Null = true
same_value (To p) (To q) = same p q
same_value a b = false

abbrev pub unary_value : UnOp → Val → Val
unary_value Not v = truth (not (holds v))
unary_value op v = Num (unary op (number v))

-- none where it divides by 0
abbrev pub binary_value : BinOp → Val → Val → Option Val
binary_value Eq a b = Some (truth (same_value a b))
binary_value Ne a b = Some (truth (not (same_value a b)))
binary_value op a b = option_map Num (binary op (number a) (number b))
