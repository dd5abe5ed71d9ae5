use Rattle.ec_simple.proofs.Same.{mean_the_same}
use Rattle.ec_simple.proofs.laws.simple_forms_mean_the_same.Goals as goal

pub returns : goal.returns
returns c = mean_the_same
