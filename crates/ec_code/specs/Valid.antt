-- Which code is valid: every number names something that exists, and every limit is kept.
use Rattle.std.specs.Prelude.{ℕ, suc, ◌==◌, ◌||◌, ◌&&◌, ◌^◌, Bool, true, false, nat_lt, nat_le, List, [], ◌∷◌, length, Option, Some, None, slice_get}
use Rattle.std.specs.List.{list_all, list_any}
use Rattle.ec_base.specs.declared.limits.TheConstants.{MAX_ARRAY, MAX_CODE_NAME, MAX_SLOT_COUNT, MAX_STRING, MAX_STRUCT_CELLS}
use Rattle.ec_base.specs.Format.{conversions}
use Rattle.ec_code.specs.declared.call_place.CallPlace.{CallPlace}
use Rattle.ec_code.specs.declared.call_place.CallPlace.TheVariants as p
use Rattle.ec_code.specs.declared.code.Code.{Code}
use Rattle.ec_code.specs.declared.code.Fiber.{Fiber}
use Rattle.ec_code.specs.declared.code.Function.{Function}
use Rattle.ec_code.specs.declared.instr.Instr.{Instr}
use Rattle.ec_code.specs.declared.instr.Instr.TheVariants as i
use Rattle.ec_code.specs.Operands.{ends, fiber_named, jump_target, slot_named, slot_set_up}

-- what is there passes the test
abbrev pub passes : (ℕ → Bool) → Option ℕ → Bool
passes test None = true
passes test (Some k) = test k

abbrev pub within : ℕ → ℕ → ℕ → Bool
within low x high = nat_le low x && nat_le x high

-- ---- cells

abbrev pub is_cell : Function → ℕ → Bool
is_cell f c = nat_lt c f.cells

abbrev pub two_cells : Function → ℕ → ℕ → Bool
two_cells f a b = is_cell f a && is_cell f b

abbrev pub three_cells : Function → ℕ → ℕ → ℕ → Bool
three_cells f a b c = is_cell f a && two_cells f b c

abbrev pub four_cells : Function → ℕ → ℕ → ℕ → ℕ → Bool
four_cells f a b c d = two_cells f a b && two_cells f c d

abbrev pub place_has_cells : Function → CallPlace → Bool
place_has_cells f p.Here = true
place_has_cells f p.Home = true
place_has_cells f (p.Node a) = is_cell f a
place_has_cells f (p.Owner a) = is_cell f a

-- every cell that the instruction names is one of the function's
abbrev pub has_cells : Function → Instr → Bool
has_cells f (i.Const d k) = is_cell f d
has_cells f (i.Nil d) = is_cell f d
has_cells f (i.Copy d a) = two_cells f d a
has_cells f (i.Neg d a) = two_cells f d a
has_cells f (i.Inv d a) = two_cells f d a
has_cells f (i.Not d a) = two_cells f d a
has_cells f (i.Add d a b) = three_cells f d a b
has_cells f (i.Sub d a b) = three_cells f d a b
has_cells f (i.Mul d a b) = three_cells f d a b
has_cells f (i.And d a b) = three_cells f d a b
has_cells f (i.Or d a b) = three_cells f d a b
has_cells f (i.Xor d a b) = three_cells f d a b
has_cells f (i.Shl d a b) = three_cells f d a b
has_cells f (i.Shr d a b) = three_cells f d a b
has_cells f (i.Eq d a b) = three_cells f d a b
has_cells f (i.Ne d a b) = three_cells f d a b
has_cells f (i.Lt d a b) = three_cells f d a b
has_cells f (i.Le d a b) = three_cells f d a b
has_cells f (i.Gt d a b) = three_cells f d a b
has_cells f (i.Ge d a b) = three_cells f d a b
has_cells f (i.Div d a b at) = three_cells f d a b
has_cells f (i.Rem d a b at) = three_cells f d a b
has_cells f (i.Same d a b) = three_cells f d a b
has_cells f (i.IsNil d a) = two_cells f d a
has_cells f (i.Check a length at) = is_cell f a
has_cells f (i.Alloc d n size nils at) = two_cells f d n
has_cells f (i.Load d p x size off at) = four_cells f d p x off
has_cells f (i.Store p x size off a at) = four_cells f p x off a
has_cells f (i.Jump k) = true
has_cells f (i.JumpZ a k) = is_cell f a
has_cells f (i.InitSync s count reset fiber) = true
has_cells f (i.Sync s) = true
has_cells f (i.IncrSync s) = true
has_cells f (i.GetSync p x size off d s at) = four_cells f p x off d
has_cells f (i.DataSync a p x size off s at) = four_cells f a p x off
has_cells f (i.BlkmovSync p x q y size s at at_to) = four_cells f p x q y
has_cells f (i.AddSync a p s at) = two_cells f a p
has_cells f (i.PrintSync string cells s) = list_all (is_cell f) cells
has_cells f (i.Invoke g place results s args) =
    place_has_cells f place && list_all (is_cell f) results && list_all (is_cell f) args
has_cells f (i.Spawn fiber) = true
has_cells f (i.EndFunction cells) = list_all (is_cell f) cells
has_cells f i.EndFiber = true

-- ---- slots, fibers and jumps

abbrev pub is_number : ℕ → Option ℕ → Bool
is_number k None = false
is_number k (Some n) = n == k

-- some instruction of the function sets the slot up
abbrev pub is_set_up : Function → ℕ → Bool
is_set_up f s = list_any (λ fiber. list_any (λ x. is_number s (slot_set_up x)) fiber.instrs) f.fibers

-- one of the function's slots, and set up
abbrev pub is_slot : Function → ℕ → Bool
is_slot f s = nat_lt s f.slots && is_set_up f s

abbrev pub is_fiber : Function → ℕ → Bool
is_fiber f k = nat_lt k (length f.fibers)

-- behind the place of the jump, and in its fiber
abbrev pub is_ahead : ℕ → ℕ → ℕ → Bool
is_ahead place count k = nat_lt place k && nat_lt k count

-- ---- calls and results

abbrev pub suits : Option Function → ℕ → ℕ → Bool
suits None results args = false
suits (Some g) results args = (results == g.results) && (args == g.params)

-- a call has as many results and arguments as the function that it names, an end as many results as its own
abbrev pub has_results : List Function → Function → Instr → Bool
has_results functions f (i.Invoke g place results s args) = suits (slice_get functions g) (length results) (length args)
has_results functions f (i.EndFunction cells) = length cells == f.results
has_results functions f _ = true

-- ---- sizes

abbrev pub is_size : ℕ → Bool
is_size size = within 1 size MAX_STRUCT_CELLS

abbrev pub is_count : ℕ → Bool
is_count count = within 1 count MAX_SLOT_COUNT

-- a string within its limit that asks for so many values
abbrev pub is_format : List ℕ → ℕ → Bool
is_format string count = nat_le (length string) MAX_STRING && is_number count (conversions string)

-- counts, sizes, lengths and strings are within their limits
abbrev pub has_sizes : Instr → Bool
has_sizes (i.Check a length at) = within 1 length MAX_ARRAY
has_sizes (i.Alloc d n size nils at) = is_size size && nat_lt nils (2 ^ size)
has_sizes (i.Load d p x size off at) = is_size size
has_sizes (i.Store p x size off a at) = is_size size
has_sizes (i.InitSync s count reset fiber) = is_count count && is_count reset
has_sizes (i.GetSync p x size off d s at) = is_size size
has_sizes (i.DataSync a p x size off s at) = is_size size
has_sizes (i.BlkmovSync p x q y size s at at_to) = is_size size
has_sizes (i.PrintSync string cells s) = is_format string (length cells)
has_sizes _ = true

-- ---- instructions and fibers

-- an instruction of a function, which stands in a fiber of so many instructions at this place
abbrev pub valid_instr : List Function → Function → ℕ → ℕ → Instr → Bool
valid_instr functions f count place x =
    has_cells f x && has_sizes x && has_results functions f x
    && passes (is_slot f) (slot_named x) && passes (is_fiber f) (fiber_named x)
    && passes (is_ahead place count) (jump_target x)

-- the instructions from a place on
abbrev pub valid_from : List Function → Function → ℕ → ℕ → List Instr → Bool
valid_from functions f count place [] = true
valid_from functions f count place (x ∷ xs) =
    valid_instr functions f count place x && valid_from functions f count (suc place) xs

abbrev pub ends_last : List Instr → Bool
ends_last [] = false
ends_last (x ∷ []) = ends x
ends_last (x ∷ y ∷ rest) = ends_last (y ∷ rest)

-- the last instruction ends the fiber
abbrev pub valid_fiber : List Function → Function → Fiber → Bool
valid_fiber functions f x = ends_last x.instrs && valid_from functions f (length x.instrs) 0 x.instrs

-- ---- functions

-- a letter, a digit, `_` or `.`
abbrev pub is_name_byte : ℕ → Bool
is_name_byte c = within 97 c 122 || within 65 c 90 || within 48 c 57 || (c == 95) || (c == 46)

abbrev pub is_function_name : List ℕ → Bool
is_function_name name = within 1 (length name) MAX_CODE_NAME && list_all is_name_byte name

abbrev pub valid_function : List Function → Function → Bool
valid_function functions f =
    is_function_name f.name && nat_le f.params f.cells
    && nat_lt 0 (length f.fibers) && list_all (valid_fiber functions f) f.fibers

abbrev pub has_one_result : Option Function → Bool
has_one_result None = false
has_one_result (Some f) = f.results == 1

-- main is there and has one result, and each function is valid
abbrev pub valid : Code → Bool
valid code =
    has_one_result (slice_get code.functions code.main) && list_all (valid_function code.functions) code.functions
