use Rattle.std.proofs.Common.{◌≡◌, ◌+◌, drop}
use Rattle.ec_slots.specs.Slots.{place_in}
use Rattle.ec_slots.proofs.row.Row.place.Given as goal

abbrev pub invariant-loop-i : goal.invariant-loop-i
invariant-loop-i l = place_in l.number l.fn.self ≡ l.i + place_in l.number (drop l.i l.fn.self)
