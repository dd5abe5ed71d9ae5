use Rattle.std.proofs.Common.{◌≡◌, ◌-◌, drop, length}
use Rattle.ec_eu.specs.Fibers.{does}
use Rattle.ec_eu.proofs.eu.Eu.does.Given as goal

abbrev pub invariant-loop-x : goal.invariant-loop-x
invariant-loop-x l = does l.n 0 0 l.instrs l.fn.self ≡ does l.n l.at l.at (drop l.at l.instrs) l.self

abbrev pub decreases-loop-x : goal.decreases-loop-x
decreases-loop-x l = length l.instrs - l.at
