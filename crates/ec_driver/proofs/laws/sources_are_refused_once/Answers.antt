use Rattle.ec_driver.proofs.Once.{refused_once}
use Rattle.ec_driver.proofs.laws.sources_are_refused_once.Goals as goal

pub returns : goal.returns
returns c = refused_once record {
  one = c.texts_have_one_cut.ensures.one;
  tree = c.reading_decides.ensures.one;
  once = c.tokens_are_refused_once.ensures.one;
  excluded = c.tokens_are_refused_once.ensures.excluded;
  typed_once = c.programs_are_refused_once.ensures.one;
  typed = c.programs_are_refused_once.ensures.excluded;
}
