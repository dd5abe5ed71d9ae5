use Rattle.ec_print.proofs.Relexed.Texts.{printed_is_cut}
use Rattle.ec_print.proofs.laws.printed_text_is_cut.Goals as goal

pub returns : goal.returns
returns c = printed_is_cut
