use Rattle.ec_syntax.proofs.Verdicts.Reading.{refused_is_no_program}
use Rattle.ec_syntax.proofs.Items.Programs.{program_decides}
use Rattle.ec_syntax.proofs.Verdicts.Refusals.{one_refusal, program_or_refused}
use Rattle.ec_syntax.proofs.laws.texts_are_decided.Goals as goal

pub returns : goal.returns
returns c = record {
  either = program_or_refused program_decides;
  excluded = refused_is_no_program;
  one = one_refusal;
}
