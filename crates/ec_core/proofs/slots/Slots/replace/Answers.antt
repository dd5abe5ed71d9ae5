use Rattle.std.proofs.Common.{◌≡◌, get_or}
use Rattle.ec_core.proofs.KnownSlots.{with_known_slot}
use Rattle.ec_core.proofs.slots.Slots.replace.Goals as goal

pub returns : goal.returns
returns c =
    let view = c.self.view_is in
    let row = c.index_mut-row.result.now in
    let value = c.index_mut-row.ensures.value in
    let read : row ≡ get_or c.args.self.now c.args.frame row = cc in
    let set = c.set.ensures in
    let is = with_known_slot c.args.frame c.args.slot c.args.x c.args.self.now row c.requires read in
    cc
