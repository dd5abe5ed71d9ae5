use Rattle.std.proofs.Common.{◌+◌, ◌-◌}
use Rattle.ec_driver.specs.Drive.{IsProgress}
use Rattle.ec_driver.proofs.drive.drive.Given as goal

abbrev pub invariant-steps : goal.invariant-steps
invariant-steps l = IsProgress l.code l.progress

abbrev pub decreases-steps : goal.decreases-steps
decreases-steps l = 2097152 - (l.progress.eu + l.progress.su)
