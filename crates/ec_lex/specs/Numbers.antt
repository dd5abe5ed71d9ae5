-- Decimal numbers.
use Rattle.std.specs.Prelude.{ℕ, ◌^◌, Bool, ◌==◌, ◌||◌, ◌&&◌, if◌then◌else◌, nat_le, nat_lt, List, length, slice_index, Option, Some, None}
use Rattle.std.specs.Char.{is_ascii_digit}
use Rattle.std.specs.List.{list_all}
use Rattle.std.specs.Str.Parse.{digits_value}

-- digits alone, of which the first is 0 only where it is the only one
abbrev pub is_decimal : List ℕ → Bool
is_decimal ds = list_all is_ascii_digit ds && (nat_le 49 (slice_index ds 0) || length ds == 1)

-- the number that a decimal up to 2^63 - 1 writes
unfoldable pub number_value : List ℕ → Option ℕ
number_value ds = if is_decimal ds && nat_lt (digits_value 10 ds) (2 ^ 63) then Some (digits_value 10 ds) else None
