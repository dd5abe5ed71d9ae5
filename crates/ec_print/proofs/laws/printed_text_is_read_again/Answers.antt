use Rattle.ec_print.proofs.RoundTrip.{printed_is_read_again}
use Rattle.ec_print.proofs.laws.printed_text_is_read_again.Goals as goal

pub returns : goal.returns
returns c = printed_is_read_again
