use Rattle.ec_types.proofs.Once.{one_refusal, typed_is_not_refused}
use Rattle.ec_types.proofs.laws.programs_are_refused_once.Goals as goal

pub returns-clause-one : goal.returns-clause-one
returns-clause-one c = one_refusal

pub returns-clause-excluded : goal.returns-clause-excluded
returns-clause-excluded c = typed_is_not_refused
