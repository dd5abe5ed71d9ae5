use Rattle.ec_meaning.proofs.Handled.{kept_same}
use Rattle.ec_meaning.proofs.performing.perform.Goals as goal

pub returns-in-Combine : goal.returns-in-Combine
returns-in-Combine c =
    rw c.in-Combine.is (record { does = c.combine.ensures c.args.core.now; kept = kept_same c.combine.result c.args.core.now })

pub returns-in-LoadFrom : goal.returns-in-LoadFrom
returns-in-LoadFrom c =
    rw c.in-LoadFrom.is (record { does = c.load_from.ensures; kept = kept_same c.load_from.result c.args.core.now })

pub returns-in-LoadShared : goal.returns-in-LoadShared
returns-in-LoadShared c =
    rw c.in-LoadShared.is (record { does = c.load_shared.ensures; kept = kept_same c.load_shared.result c.args.core.now })

pub returns-in-Allocate : goal.returns-in-Allocate
returns-in-Allocate c = rw c.in-Allocate.is (record { does = c.allocate.ensures.does; kept = c.allocate.ensures.kept })

pub returns-in-Share : goal.returns-in-Share
returns-in-Share c = rw c.in-Share.is (record { does = c.share.ensures.does; kept = c.share.ensures.kept })

pub returns-in-SaveTo : goal.returns-in-SaveTo
returns-in-SaveTo c = rw c.in-SaveTo.is (record { does = c.save_to.ensures.does; kept = c.save_to.ensures.kept })

pub returns-in-CopyTo : goal.returns-in-CopyTo
returns-in-CopyTo c = rw c.in-CopyTo.is (record { does = c.copy_to.ensures.does; kept = c.copy_to.ensures.kept })

pub returns-in-SendTo : goal.returns-in-SendTo
returns-in-SendTo c = rw c.in-SendTo.is (record { does = c.send_to.ensures.does; kept = c.send_to.ensures.kept })

pub returns-in-AddUp : goal.returns-in-AddUp
returns-in-AddUp c = rw c.in-AddUp.is (record { does = c.add_up.ensures.does; kept = c.add_up.ensures.kept })

pub returns-in-PrintOut : goal.returns-in-PrintOut
returns-in-PrintOut c = rw c.in-PrintOut.is (record { does = c.print_out.ensures.does; kept = c.print_out.ensures.kept })
