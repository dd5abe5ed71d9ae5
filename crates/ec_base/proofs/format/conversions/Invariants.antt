use Rattle.std.proofs.Common.{◌≡◌, ◌≤◌, drop}
use Rattle.ec_base.specs.Format.{conversions, conversions_from}
use Rattle.ec_base.proofs.Counts.{more}
use Rattle.ec_base.proofs.format.conversions.Given as goal

abbrev pub invariant-loop-byte : goal.invariant-loop-byte
invariant-loop-byte l = record {
  within : l.count ≤ l.byte-index;
  goes_on : conversions l.fn.string ≡ more l.count (conversions_from l.at (drop l.byte-index l.string));
}
