use Rattle.std.proofs.Common.{◌≡◌, ◌+◌, drop}
use Rattle.std.specs.List.{prefix_len}
use Rattle.ec_lex.specs.Bytes.{is_word_byte}
use Rattle.ec_lex.proofs.bytes.run.Given as goal

abbrev pub invariant-loop-at : goal.invariant-loop-at
invariant-loop-at l = l.at + prefix_len is_word_byte (drop l.at l.text) ≡ prefix_len is_word_byte l.text
