use Rattle.ec_reader.proofs.Refusals.Once.{one_refusal, refused_is_no_program}
use Rattle.ec_reader.proofs.laws.tokens_are_refused_once.Goals as goal

pub returns : goal.returns
returns c = record {
  one = one_refusal c.texts_are_decided.ensures.one;
  excluded = refused_is_no_program c.texts_are_decided.ensures.excluded;
}
