use Rattle.std.proofs.Common.{refl, subst, [], codes}
use Rattle.ec_driver.specs.Ending.{IsShown, ending}
use Rattle.ec_driver.specs.Source.{IsChecked, Unchecked}
use Rattle.ec_driver.specs.Task.{Checks}
use Rattle.ec_driver.proofs.Endings.{source_ends, unread_ends}
use Rattle.ec_driver.proofs.top.check.Goals as goal

pub returns-in-Ok-clause-end : goal.returns-in-Ok-clause-end
returns-in-Ok-clause-end g c =
    let told = (g.S.Shelf.has c.args.shelf.now).told in
    let loaded = c.in-Ok.ensures.ok in (
      _,
      source_ends c.args.file.now Unchecked IsChecked Checks told loaded.0 _ loaded.1 (loaded.2, refl),
      subst (λ r. IsShown (ending r (codes "accepted\n") []) c.deliver.result (g.O.Sink.has c.args.out.now) (g.O.Sink.has c.deliver.new.out) (g.E.Sink.has c.args.err.now) (g.E.Sink.has c.deliver.new.err)) c.bare.ensures c.deliver.ensures,
    )

pub returns-in-Err-clause-end : goal.returns-in-Err-clause-end
returns-in-Err-clause-end g c =
    (_, unread_ends c.args.file.now Unchecked IsChecked Checks (g.S.Shelf.has c.args.shelf.now).told c.in-Err.status c.in-Err.ensures.err, c.stop.ensures)
