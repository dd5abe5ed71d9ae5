use Rattle.ec_simple.proofs.formed.Counted.{counted_headers_count}
use Rattle.ec_simple.proofs.laws.counted_headers_count.Goals as goal

pub returns : goal.returns
returns c = counted_headers_count
