use Rattle.ec_base.specs.declared.limits.TheConstants.{MAX_TICKS}
use Rattle.ec_types.specs.Meaning.Programs.{mean}
use Rattle.ec_driver.specs.Meant.{MeansSo}
use Rattle.ec_driver.specs.Source.{IsTypedText, Untyped}
use Rattle.ec_driver.proofs.Endings.{ends_by, means_reads, meant_so, reads_shown, unread_ends}
use Rattle.ec_driver.proofs.top.means.Goals as goal

-- ---- the file was read

pub returns-in-Ok-clause-end : goal.returns-in-Ok-clause-end
returns-in-Ok-clause-end g c =
    let told = (g.S.Shelf.has c.args.shelf.now).told in
    let loaded = c.in-Ok.ensures.ok in
    let said = c.say_meaning.ensures in
    let args = c.args.args.now in
    let so = meant_so args c.as_slice.result.now loaded.0 c.in-Ok.program said.0 c.as_slice.ensures loaded.2 said.1 in
    (said.0, ends_by c.args.file.now Untyped IsTypedText (MeansSo args) told loaded.0 said.0 loaded.1 so, said.2)

pub returns-in-Ok-clause-reads : goal.returns-in-Ok-clause-reads
returns-in-Ok-clause-reads g c =
    let said = c.say_meaning.ensures in
    let meaning = mean c.in-Ok.program c.as_slice.result.now MAX_TICKS in
    reads_shown said.0 c.say_meaning.result _ _ _ said.2 (means_reads meaning said.0 _ _ said.1 c.in-Ok.ensures.quiet)

-- ---- the file wasn't read

pub returns-in-Err-clause-end : goal.returns-in-Err-clause-end
returns-in-Err-clause-end g c =
    (_, unread_ends c.args.file.now Untyped IsTypedText (MeansSo c.args.args.now) (g.S.Shelf.has c.args.shelf.now).told c.in-Err.status c.in-Err.ensures.err, c.stop.ensures)
