use Rattle.ec_base.proofs.Writing.{strings_write, only_strings_write, strings_write_one_text}
use Rattle.ec_base.proofs.laws.strings_write.Goals as goal

pub returns : goal.returns
returns c = record { writes = strings_write; only = only_strings_write; exact = strings_write_one_text }
