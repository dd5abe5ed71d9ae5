use Rattle.std.proofs.Common.{◌≡◌, ◌≤◌, ◌++◌, length, drop}
use Rattle.ec_base.specs.Format.{formatted, formatted_from}
use Rattle.ec_base.proofs.format.format_values.Given as goal

abbrev pub invariant-loop-byte : goal.invariant-loop-byte
invariant-loop-byte l = record {
  within : l.next ≤ length l.values;
  goes_on : formatted l.fn.string l.fn.values ≡ l.out ++ formatted_from l.at (drop l.byte-index l.string) (drop l.next l.values);
}
