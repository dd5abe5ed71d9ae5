use Rattle.ec_meaning.proofs.Enters.{branches, enters}
use Rattle.ec_meaning.proofs.Opens.{opens}
use Rattle.ec_meaning.proofs.Starts.{starts}
use Rattle.ec_meaning.proofs.Steps.{answers, completes}
use Rattle.ec_meaning.proofs.laws.steps_keep_meanings.Goals as goal

pub returns-clause-opening : goal.returns-clause-opening
returns-clause-opening c = opens

pub returns-clause-calling : goal.returns-clause-calling
returns-clause-calling c = enters

pub returns-clause-branching : goal.returns-clause-branching
returns-clause-branching c = branches

pub returns-clause-completing : goal.returns-clause-completing
returns-clause-completing c = λ p pointer h u us d. completes p pointer h d u us

pub returns-clause-returning : goal.returns-clause-returning
returns-clause-returning c = λ p pointer h ws u us d. answers p pointer h d ws u us

pub returns-clause-start : goal.returns-clause-start
returns-clause-start c = starts
