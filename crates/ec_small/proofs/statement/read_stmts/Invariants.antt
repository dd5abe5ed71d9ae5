use Rattle.std.proofs.Common.{◌≡◌, ◌≤◌, ◌-◌, [], length, drop}
use Rattle.ec_small.specs.Grammar.{kinds}
use Rattle.ec_small.specs.Descent.{stmts, stmts_on}
use Rattle.ec_small.proofs.statement.read_stmts.Given as goal

abbrev pub invariant-loop-turn : goal.invariant-loop-turn
invariant-loop-turn l = record {
  within : l.next ≤ length l.tokens;
  goes_on : stmts l.fn.names [] (kinds (drop l.fn.at l.tokens)) ≡ stmts_on (l.most - l.turn) l.fn.names l.stmts (kinds (drop l.next l.tokens));
}
