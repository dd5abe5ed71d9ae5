use Rattle.ec_print.proofs.Plain.Programs.{plain_is_sentence}
use Rattle.ec_print.proofs.laws.plain_tokens_are_the_sentence.Goals as goal

pub returns : goal.returns
returns c = plain_is_sentence
