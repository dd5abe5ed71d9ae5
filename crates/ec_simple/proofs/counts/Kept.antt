-- The simple form of each typed program that a text has keeps the counts.
use Rattle.ec_simple.specs.Counts.{CountsAreKept}
use Rattle.ec_simple.proofs.counts.Forms.{form_keeps}
use Rattle.ec_simple.proofs.counts.Programs.{program_keeps}

pub counts_are_kept : CountsAreKept
counts_are_kept tokens p a r t = form_keeps p t (program_keeps tokens p a r)
