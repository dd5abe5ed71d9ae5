use Rattle.std.proofs.Common.{◌≡◌, ◌≤◌, ◌-◌, length, drop}
use Rattle.ec_small.specs.Grammar.{kinds}
use Rattle.ec_small.specs.Descent.{decls, decls_on}
use Rattle.ec_small.proofs.declaration.read_decls.Given as goal

abbrev pub invariant-loop-turn : goal.invariant-loop-turn
invariant-loop-turn l = record {
  within : l.next ≤ length l.tokens;
  turns : length l.declared.names ≡ l.turn;
  goes_on : decls (kinds (drop l.fn.at l.tokens)) ≡ decls_on (256 - l.turn) l.declared (kinds (drop l.next l.tokens));
}
