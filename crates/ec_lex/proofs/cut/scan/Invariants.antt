use Rattle.std.proofs.Common.{◌≡◌, ◌≤◌, ◌-◌, length, drop, map}
use Rattle.ec_base.specs.Lexical.{AllLexical}
use Rattle.ec_lex.specs.Scan.{scanned, scanned_from}
use Rattle.ec_lex.proofs.Cuts.Scanning.{joined}
use Rattle.ec_lex.proofs.cut.scan.Given as goal

abbrev pub invariant-loop-tokens : goal.invariant-loop-tokens
invariant-loop-tokens l = (scanned l.text ≡ joined l.tokens (scanned_from 0 l.at l.fresh (drop l.at l.text))) × (l.at ≤ length l.text) × AllLexical (map (λ x. x.kind) l.tokens)

abbrev pub decreases-loop-tokens : goal.decreases-loop-tokens
decreases-loop-tokens l = length l.text - l.at
