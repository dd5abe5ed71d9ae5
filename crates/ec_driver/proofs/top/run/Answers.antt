use Rattle.ec_driver.specs.Source.{IsSmall, Rejects}
use Rattle.ec_driver.specs.Kept.{Runs}
use Rattle.ec_driver.proofs.Endings.{ends_by, reads_shown, run_reads, unread_ends}
use Rattle.ec_driver.proofs.top.run.Goals as goal

-- ---- the file was read

pub returns-in-Ok-clause-end : goal.returns-in-Ok-clause-end
returns-in-Ok-clause-end g c =
    let told = (g.S.Shelf.has c.args.shelf.now).told in
    let loaded = c.in-Ok.ensures.ok.0 in
    let ran = c.run_program.ensures loaded.0 loaded.2 in
    (ran.0, ends_by c.args.words.now.file Rejects IsSmall (Runs c.args.words.now) told loaded.0 ran.0 loaded.1 ran.1, ran.2)

pub returns-in-Ok-clause-reads : goal.returns-in-Ok-clause-reads
returns-in-Ok-clause-reads g c =
    let loaded = c.in-Ok.ensures.ok.0 in
    let ran = c.run_program.ensures loaded.0 loaded.2 in
    reads_shown ran.0 c.run_program.result _ _ _ ran.2 (run_reads c.args.words.now loaded.0 ran.0 _ _ ran.1 c.in-Ok.ensures.quiet)

-- ---- the file wasn't read

pub returns-in-Err-clause-end : goal.returns-in-Err-clause-end
returns-in-Err-clause-end g c =
    (_, unread_ends c.args.words.now.file Rejects IsSmall (Runs c.args.words.now) (g.S.Shelf.has c.args.shelf.now).told c.in-Err.status c.in-Err.ensures.err, c.stop.ensures)
