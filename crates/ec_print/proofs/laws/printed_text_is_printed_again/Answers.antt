use Rattle.ec_print.proofs.RoundTrip.{printed_is_printed_again}
use Rattle.ec_print.proofs.laws.printed_text_is_printed_again.Goals as goal

pub returns : goal.returns
returns c = printed_is_printed_again c.texts_have_one_cut.ensures.one c.reading_decides.ensures.one
