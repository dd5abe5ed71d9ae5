use Rattle.std.proofs.Common.{◌≡◌, ◌+◌, drop}
use Rattle.std.specs.List.{prefix_len}
use Rattle.ec_lex.specs.Bytes.{is_line_blank}
use Rattle.ec_lex.proofs.bytes.past_line_blanks.Given as goal

abbrev pub invariant-loop-at : goal.invariant-loop-at
invariant-loop-at l = l.at + prefix_len is_line_blank (drop l.at l.text) ≡ prefix_len is_line_blank l.text
