use Rattle.std.proofs.Common.{◌≡◌, drop, length}
use Rattle.ec_code.specs.Valid.{valid_from}
use Rattle.ec_code.proofs.validity.fibers.valid_instrs.Given as goal

abbrev pub invariant-loop-place : goal.invariant-loop-place
invariant-loop-place l =
    valid_from l.functions l.f (length l.instrs) l.place (drop l.place l.instrs)
    ≡ valid_from l.fn.functions l.fn.f (length l.fn.instrs) 0 l.fn.instrs
