use Rattle.ec_small.specs.Grammar.{kinds}
use Rattle.ec_small.proofs.Reading.{reads}
use Rattle.ec_small.proofs.Sound.{sound}
use Rattle.ec_small.proofs.program.read.Goals as goal

pub returns-clause-sound : goal.returns-clause-sound
returns-clause-sound c =
    let told = c.in_ok-program.ensures in
    sound (kinds c.args.tokens.now) _ (reads (kinds c.args.tokens.now) _ _ told.1)
