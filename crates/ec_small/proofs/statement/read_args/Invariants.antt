use Rattle.std.proofs.Common.{◌≡◌, ◌≤◌, ◌-◌, [], length, drop}
use Rattle.ec_small.specs.Grammar.{kinds}
use Rattle.ec_small.specs.Descent.{args_on}
use Rattle.ec_small.proofs.statement.read_args.Given as goal

abbrev pub invariant-loop-turn : goal.invariant-loop-turn
invariant-loop-turn l = record {
  within : l.next ≤ length l.tokens;
  goes_on : args_on l.fn.count l.fn.names 254 [] (kinds (drop l.fn.at l.tokens)) ≡ args_on (l.count - l.turn) l.fn.names l.room l.args (kinds (drop l.next l.tokens));
}
