use Rattle.std.proofs.Common.{rules}
use Rattle.ec_simple.proofs.puts.Numbering.{among}
use Rattle.ec_simple.proofs.places.Places.has.Goals as goal

pub returns : goal.returns
returns c = search (rules, among)
