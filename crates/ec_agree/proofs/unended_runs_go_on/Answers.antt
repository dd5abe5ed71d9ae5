use Rattle.ec_agree.proofs.Laws.{unended_runs_go_on}
use Rattle.ec_agree.proofs.unended_runs_go_on.Goals as goal

pub returns : goal.returns
returns c = unended_runs_go_on
