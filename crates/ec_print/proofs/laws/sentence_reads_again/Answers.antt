use Rattle.ec_print.proofs.Again.Programs.{sentence_reads_again}
use Rattle.ec_print.proofs.laws.sentence_reads_again.Goals as goal

pub returns : goal.returns
returns c = record { same = sentence_reads_again }
