-- Which code is valid: every number names something that exists, and every limit is kept.
use Rattle.std.specs.Prelude.{ℕ, ◌==◌, ◌||◌, ◌&&◌, Bool, true, false, nat_lt, nat_le, List, [], ◌∷◌, length, Option, Some, None, slice_get}
use Rattle.std.specs.List.{list_all, list_any}
use Rattle.ec_base.specs.declared.limits.TheConstants.{MAX_CODE_NAME, MAX_SLOT_COUNT, MAX_STRING}
use Rattle.ec_base.specs.Format.{conversions}
use Rattle.ec_core.specs.declared.code.Instr.{Instr}
use Rattle.ec_core.specs.declared.code.Instr.TheVariants as i
use Rattle.ec_core.specs.declared.code.Fiber.{Fiber}
use Rattle.ec_core.specs.declared.code.Function.{Function}
use Rattle.ec_core.specs.declared.code.Code.{Code}
use Rattle.ec_core.specs.Fiber.{ends}

-- ---- instructions

abbrev pub within : ℕ → ℕ → ℕ → Bool
within low x high = nat_le low x && nat_le x high

abbrev pub sets_up : ℕ → Instr → Bool
sets_up slot (i.InitSync s count reset fiber) = s == slot
sets_up slot _ = false

-- some instruction of the function sets the slot up
abbrev pub is_set_up : Function → ℕ → Bool
is_set_up f slot = list_any (λ x. list_any (sets_up slot) x.instrs) f.fibers

abbrev pub asks_for : ℕ → Option ℕ → Bool
asks_for count None = false
asks_for count (Some n) = n == count

-- a string within its limit that asks for so many values
abbrev pub is_format : List ℕ → ℕ → Bool
is_format string count = nat_le (length string) MAX_STRING && asks_for count (conversions string)

abbrev pub is_cell : Function → ℕ → Bool
is_cell f c = nat_lt c f.cells

abbrev pub is_slot : Function → ℕ → Bool
is_slot f s = nat_lt s f.slots && is_set_up f s

abbrev pub valid_instr : Function → Instr → Bool
valid_instr f (i.Const d k) = is_cell f d
valid_instr f (i.Copy d a) = is_cell f d && is_cell f a
valid_instr f (i.Add d a b) = is_cell f d && is_cell f a && is_cell f b
valid_instr f (i.Sub d a b) = is_cell f d && is_cell f a && is_cell f b
valid_instr f (i.Mul d a b) = is_cell f d && is_cell f a && is_cell f b
valid_instr f (i.InitSync slot count reset fiber) =
    is_slot f slot && within 1 count MAX_SLOT_COUNT && within 1 reset MAX_SLOT_COUNT && nat_lt fiber (length f.fibers)
valid_instr f (i.PrintSync string cells slot) =
    is_format string (length cells) && list_all (is_cell f) cells && is_slot f slot
valid_instr f (i.EndFunction cells) = (length cells == f.results) && list_all (is_cell f) cells
valid_instr f i.EndFiber = true

-- ---- fibers and functions

abbrev pub ends_last : List Instr → Bool
ends_last [] = false
ends_last (x ∷ []) = ends x
ends_last (x ∷ y ∷ rest) = ends_last (y ∷ rest)

-- the last instruction ends the fiber
abbrev pub valid_fiber : Function → Fiber → Bool
valid_fiber f x = ends_last x.instrs && list_all (valid_instr f) x.instrs

-- a letter, a digit, `_` or `.`
abbrev pub is_name_byte : ℕ → Bool
is_name_byte c = within 97 c 122 || within 65 c 90 || within 48 c 57 || (c == 95) || (c == 46)

abbrev pub is_function_name : List ℕ → Bool
is_function_name name = within 1 (length name) MAX_CODE_NAME && list_all is_name_byte name

abbrev pub valid_function : Function → Bool
valid_function f =
    is_function_name f.name && nat_le f.params f.cells
    && nat_lt 0 (length f.fibers) && list_all (valid_fiber f) f.fibers

abbrev pub has_one_result : Option Function → Bool
has_one_result None = false
has_one_result (Some f) = f.results == 1

-- main is there and has one result, and each function is valid
abbrev pub valid : Code → Bool
valid code = has_one_result (slice_get code.functions code.main) && list_all valid_function code.functions
