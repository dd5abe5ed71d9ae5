use Rattle.ec_lex.proofs.Cuts.OneCut.{some_cut, one_cut}
use Rattle.ec_lex.proofs.laws.texts_have_one_cut.Goals as goal

pub returns : goal.returns
returns c = record { some = some_cut; one = one_cut }
