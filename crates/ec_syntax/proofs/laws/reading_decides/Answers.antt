use Rattle.ec_syntax.proofs.Verdicts.Reading.{one_tree, read_is_program, program_is_read, stopped_is_refused}
use Rattle.ec_syntax.proofs.Items.Programs.{program_decides}
use Rattle.ec_syntax.proofs.Verdicts.Refusals.{read_or_stopped}
use Rattle.ec_syntax.proofs.laws.reading_decides.Goals as goal

pub returns : goal.returns
returns c = record {
  one = one_tree program_decides;
  sound = read_is_program program_decides;
  complete = program_is_read program_decides;
  refused = stopped_is_refused program_decides;
  text = read_or_stopped program_decides;
}
