use Rattle.ec_meaning.proofs.MachineSteps.{performs_on, traps_on}
use Rattle.ec_meaning.proofs.machine.Machine.perform_here.Goals as goal

pub returns-in-Some-Ok : goal.returns-in-Some-Ok
returns-in-Some-Ok c pointer =
    let carried = rw c.in-Some-Ok.field-0-is at c.in-Some-Ok.ensures in
    performs_on pointer c.args.self.now c.args.work c.perform.new.hand c.perform.new.core carried.kept carried.does

pub returns-in-Some-Err-Refused : goal.returns-in-Some-Err-Refused
returns-in-Some-Err-Refused c pointer =
    let answered = rw c.in-Some-Err-Refused.field-0-is at c.in-Some-Err-Refused.ensures in
    let carried = rw c.in-Some-Err-Refused.field-0-0-is at answered in
    traps_on pointer c.args.self.now c.args.work c.perform.new.hand c.perform.new.core carried.kept _ carried.does
