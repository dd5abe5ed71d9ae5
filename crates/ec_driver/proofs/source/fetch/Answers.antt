use Rattle.std.proofs.Common.{sym, subst}
use Rattle.ec_base.specs.declared.limits.TheConstants.{MAX_SOURCE}
use Rattle.ec_driver.specs.Load.{OfText}
use Rattle.ec_driver.specs.Source.{Misfits}
use Rattle.ec_driver.proofs.LongTexts.{is_text, too_long_refused}
use Rattle.ec_driver.proofs.source.fetch.Goals as goal

pub returns-in-Ok-Whole-clause-ok : goal.returns-in-Ok-Whole-clause-ok
returns-in-Ok-Whole-clause-ok g c =
    is_text ((g.S.Shelf.has c.args.shelf.now).told c.args.file.now) MAX_SOURCE c.in-Ok-Whole.text (rw c.in-Ok-Whole.field-0-is at c.in-Ok-Whole.ensures.ok)

pub returns-in-Ok-TooLong-clause-err : goal.returns-in-Ok-TooLong-clause-err
returns-in-Ok-TooLong-clause-err g c =
    let told = (g.S.Shelf.has c.args.shelf.now).told c.args.file.now in
    subst (λ r. OfText told (λ text. Misfits text r)) (sym c.too_long.ensures)
    (too_long_refused told (rw c.in-Ok-TooLong.field-0-is at c.in-Ok-TooLong.ensures.ok))
