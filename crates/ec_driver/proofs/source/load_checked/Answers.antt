use Rattle.std.proofs.Common.{subst, sym}
use Rattle.ec_driver.specs.Load.{Unread}
use Rattle.ec_driver.specs.Source.{Unchecked}
use Rattle.ec_driver.proofs.LongTexts.{unread_by}
use Rattle.ec_driver.proofs.source.load_checked.Goals as goal

pub returns-clause-err : goal.returns-clause-err
returns-clause-err g c =
    let told = (g.S.Shelf.has c.args.shelf.now).told c.args.file.now in
    subst (Unread Unchecked told) (sym c.status_of.ensures)
    (unread_by Unchecked told c.in_ok-text.text c.in-Err.fail c.in_ok-text.ensures.ok c.in-Err.ensures)
