use Rattle.std.proofs.Common.{refl, subst, []}
use Rattle.ec_driver.specs.Ending.{IsShown, ending}
use Rattle.ec_driver.specs.Source.{IsProgram, Misfits}
use Rattle.ec_driver.specs.Task.{Shows}
use Rattle.ec_driver.proofs.Endings.{source_ends, unread_ends}
use Rattle.ec_driver.proofs.top.print.Goals as goal

pub returns-in-Ok-clause-end : goal.returns-in-Ok-clause-end
returns-in-Ok-clause-end g c =
    let told = (g.S.Shelf.has c.args.shelf.now).told in
    let loaded = c.in-Ok.ensures.ok in
    let out = g.O.Sink.has c.args.out.now in
    let out_after = g.O.Sink.has c.deliver.new.out in
    let err = g.E.Sink.has c.args.err.now in
    let err_after = g.E.Sink.has c.deliver.new.err in
    let canon = c.in-Ok.text in
    let delivered = subst (λ r. IsShown (ending r c.as_slice.result.now []) c.deliver.result out out_after err err_after) c.bare.ensures c.deliver.ensures in (
      _,
      source_ends c.args.file.now Misfits IsProgram Shows told loaded.0 _ loaded.1 (canon, loaded.2, refl),
      subst (λ b. IsShown (ending _ b []) c.deliver.result out out_after err err_after) c.as_slice.ensures delivered,
    )

pub returns-in-Err-clause-end : goal.returns-in-Err-clause-end
returns-in-Err-clause-end g c =
    (_, unread_ends c.args.file.now Misfits IsProgram Shows (g.S.Shelf.has c.args.shelf.now).told c.in-Err.status c.in-Err.ensures.err, c.stop.ensures)
