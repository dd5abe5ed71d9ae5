use Rattle.std.proofs.Common.{◌≡◌, ◌+◌, ◌≤◌, drop, false, true}
use Rattle.std.specs.List.{list_all}
use Rattle.ec_base.specs.Lexical.{is_string_byte}
use Rattle.ec_lex.specs.Strings.{decoded}
use Rattle.ec_lex.proofs.Inside.Decoding.{joined}
use Rattle.ec_lex.proofs.strings.decode.Given as goal

abbrev pub invariant-loop-before : goal.invariant-loop-before
invariant-loop-before l =
    (decoded false 1 l.inside ≡ joined l.bytes.items (decoded l.escaped (l.before + 1) (drop l.before l.inside)))
    × (l.escaped ≡ true → 1 ≤ l.before)
    × (list_all is_string_byte l.bytes.items ≡ true)
