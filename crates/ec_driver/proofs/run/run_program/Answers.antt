use Rattle.std.proofs.Common.{inr, refl}
use Rattle.ec_driver.proofs.Keeping.{runs_to}
use Rattle.ec_driver.proofs.run.run_program.Goals as goal

pub returns-in-Ok-drive : goal.returns-in-Ok-drive
returns-in-Ok-drive g c text accepts =
    let s = c.in-Ok.ensures in
    let d = c.in-Ok-drive.ensures in
    let to = runs_to c.args.program.now c.in-Ok.code c.in-Ok-drive.progress c.args.words.now c.requires.words (record {
      sound = c.requires.sound;
      owes = s.owes;
      valid = s.valid;
      cut = s.cut;
      progress = d.progress;
      stopped = d.stopped;
    }) text c.ended_runs_agree.ensures c.unended_runs_go_on.ensures accepts in
    (_, inr (_, _, _, to, refl), c.finish.ensures)
