use Rattle.std.proofs.Common.{subst, sym}
use Rattle.ec_driver.specs.Load.{Unread}
use Rattle.ec_driver.specs.Source.{Rejects}
use Rattle.ec_driver.proofs.LongTexts.{unread_by}
use Rattle.ec_driver.proofs.source.load.Goals as goal

pub returns-clause-err : goal.returns-clause-err
returns-clause-err g c =
    let told = (g.S.Shelf.has c.args.shelf.now).told c.args.file.now in
    subst (Unread Rejects told) (sym c.status_of.ensures)
    (unread_by Rejects told c.in_ok-text.text c.in-Err.fail c.in_ok-text.ensures.ok c.in-Err.ensures)
