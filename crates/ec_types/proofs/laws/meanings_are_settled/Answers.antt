use Rattle.ec_types.proofs.meaning.Settled.{ends_stay, one_end, output_grows, most_grows, within_ticks, goes_on_without_ticks}
use Rattle.ec_types.proofs.laws.meanings_are_settled.Goals as goal

pub returns-clause-stay : goal.returns-clause-stay
returns-clause-stay c = ends_stay

pub returns-clause-one : goal.returns-clause-one
returns-clause-one c = one_end

pub returns-clause-output : goal.returns-clause-output
returns-clause-output c = output_grows

pub returns-clause-most : goal.returns-clause-most
returns-clause-most c = most_grows

pub returns-clause-within : goal.returns-clause-within
returns-clause-within c = within_ticks

pub returns-clause-going : goal.returns-clause-going
returns-clause-going c = goes_on_without_ticks
