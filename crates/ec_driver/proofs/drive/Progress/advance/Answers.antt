use Rattle.std.proofs.Common.{ap}
use Rattle.ec_driver.proofs.Driving.{advanced, kept_progress, goes_on}
use Rattle.ec_driver.proofs.drive.Progress.advance.Goals as goal

pub unreachable-requires : goal.unreachable-requires
unreachable-requires c = goes_on c.args.code.now c.args.self.now c.unended_runs_go_on.ensures c.requires.made c.requires.progress c.requires.going c.in_default.ensures

pub returns-in-Ok-clause-progress : goal.returns-in-Ok-clause-progress
returns-in-Ok-clause-progress c =
    let s = c.in-Ok.ensures.step in
    kept_progress _ _ _ _ c.keep.result (advanced _ _ c.args.self.now c.step.new.self (ap (λ z. z.node) c.own-choice.ensures) c.requires.progress c.requires.going s.2 s.1) c.keep.ensures
