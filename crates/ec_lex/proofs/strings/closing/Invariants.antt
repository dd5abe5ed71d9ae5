use Rattle.std.proofs.Common.{◌≡◌, ◌+◌, drop, false}
use Rattle.ec_lex.specs.Strings.{closing}
use Rattle.ec_lex.proofs.strings.closing.Given as goal

abbrev pub invariant-loop-at : goal.invariant-loop-at
invariant-loop-at l = closing l.escaped (l.at + 1) (drop l.at l.inside) ≡ closing false 1 l.inside
