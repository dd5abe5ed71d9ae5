use Rattle.ec_agree.proofs.Laws.{ended_runs_agree}
use Rattle.ec_agree.proofs.ended_runs_agree.Goals as goal

pub returns : goal.returns
returns c = ended_runs_agree
