use Rattle.ec_calls.specs.Items.{functions}
use Rattle.ec_calls.proofs.Existence.{a_table}
use Rattle.ec_calls.proofs.laws.first_prints_exist.Goals as goal

pub returns : goal.returns
returns c = λ p. a_table (functions p)
