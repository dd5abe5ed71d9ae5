use Rattle.std.proofs.Common.{◌≡◌, ◌≤◌, ◌++◌, drop, length}
use Rattle.ec_print.specs.Layout.{escaped}
use Rattle.ec_print.proofs.printer.append_string.Given as goal

-- what the bytes that are left add to the text is what is missing
abbrev pub invariant-loop-byte : goal.invariant-loop-byte
invariant-loop-byte l = record {
  rest : l.initial.text ++ escaped l.fn.bytes ≡ l.text ++ escaped (drop l.byte-index l.fn.bytes);
  longer : length l.fn.text ≤ length l.text;
}
