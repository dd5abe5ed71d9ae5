use Rattle.std.proofs.Common.{◌≡◌, drop}
use Rattle.ec_lex.specs.Front.{comment_end}
use Rattle.ec_lex.proofs.front.comment_end.Given as goal

abbrev pub invariant-loop-at : goal.invariant-loop-at
invariant-loop-at l = comment_end l.at (drop l.at l.text) ≡ comment_end 2 (drop 2 l.text)
