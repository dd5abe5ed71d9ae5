use Rattle.std.proofs.Common.{arith, rules}
use Rattle.ec_syntax.specs.Descent.Statements.{begins_for, for_head}
use Rattle.ec_reader.proofs.Parts.Rooms.{inside_some}
use Rattle.ec_reader.proofs.cursor.Cursor.for_header.Goals as goal

pub returns-in_err-header-clause-answer : goal.returns-in_err-header-clause-answer
returns-in_err-header-clause-answer c =
    let e = inside_some c.args.room begins_for (for_head c.args.room) c.mark.new.self (omega arith) in
    search (rules, e)

pub returns-in_err-mark-2-clause-answer : goal.returns-in_err-mark-2-clause-answer
returns-in_err-mark-2-clause-answer c =
    let e = inside_some c.args.room begins_for (for_head c.args.room) c.mark.new.self (omega arith) in
    search (rules, e)
