-- What instructions name.
use Rattle.std.specs.Prelude.{ℕ, Bool, true, false, Option, Some, None}
use Rattle.ec_code.specs.declared.instr.Instr.{Instr}
use Rattle.ec_code.specs.declared.instr.Instr.TheVariants as i

-- the slot that an instruction names
abbrev pub slot_named : Instr → Option ℕ
slot_named (i.InitSync s count reset fiber) = Some s
slot_named (i.Sync s) = Some s
slot_named (i.IncrSync s) = Some s
slot_named (i.GetSync p x size off d s at) = Some s
slot_named (i.DataSync a p x size off s at) = Some s
slot_named (i.BlkmovSync p x q y size s at at_to) = Some s
slot_named (i.AddSync a p s at) = Some s
slot_named (i.PrintSync string cells s) = Some s
slot_named (i.Invoke f place results s args) = Some s
slot_named _ = None

-- the slot that an instruction sets up
abbrev pub slot_set_up : Instr → Option ℕ
slot_set_up (i.InitSync s count reset fiber) = Some s
slot_set_up _ = None

-- the fiber that an instruction names
abbrev pub fiber_named : Instr → Option ℕ
fiber_named (i.InitSync s count reset fiber) = Some fiber
fiber_named (i.Spawn fiber) = Some fiber
fiber_named _ = None

-- the instruction to which one may jump
abbrev pub jump_target : Instr → Option ℕ
jump_target (i.Jump k) = Some k
jump_target (i.JumpZ a k) = Some k
jump_target _ = None

-- whether an instruction ends its fiber
abbrev pub ends : Instr → Bool
ends (i.EndFunction cells) = true
ends i.EndFiber = true
ends _ = false
