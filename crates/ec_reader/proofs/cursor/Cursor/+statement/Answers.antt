use Rattle.std.proofs.Common.{sym, ◌∙◌, ◌-◌, [], arith, rules}
use Rattle.std.proofs.lemmas.Result.{err_from_is_err_and}
use Rattle.ec_syntax.specs.Descent.Tokens.{begins_stmt}
use Rattle.ec_syntax.specs.Descent.Statements.{begins_parallel, branch, stmt}
use Rattle.ec_reader.specs.Sentences.{another_statement}
use Rattle.ec_syntax.specs.Descent.Reader.{turns}
use Rattle.ec_reader.proofs.Parts.Rooms.{inside_some}
use Rattle.ec_reader.proofs.Loops.Turns.{going_over}
use Rattle.ec_reader.proofs.Loops.Stopping.{told_stops}
use Rattle.ec_reader.proofs.Parts.Statements.{told_block, told_bare}
use Rattle.ec_reader.proofs.cursor.Cursor.+statement.Goals as goal

pub sequence-returns-in_err-all-clause-answer : goal.sequence-returns-in_err-all-clause-answer
sequence-returns-in_err-all-clause-answer t c =
    let p = err_from_is_err_and c.from_residual.result c.from_residual.ensures.1 in
    rw (p.1, p.2) (told_stops begins_stmt (another_statement c.args.room) c.in_err-all.field-0.0 c.another_statement.new.self c.loop-alloc.invariant.goes (sym c.begins_stmt.ensures ∙ c.loop-alloc-test.true) c.in_err-all.ensures.answer)

pub sequence-returns-clause-answer : goal.sequence-returns-clause-answer
sequence-returns-clause-answer t c = going_over begins_stmt (another_statement c.args.room) c.loop-alloc.invariant.goes (sym c.begins_stmt.ensures ∙ c.loop-alloc-test.false)

pub branches-returns-in_err-all-clause-answer : goal.branches-returns-in_err-all-clause-answer
branches-returns-in_err-all-clause-answer t c =
    let p = err_from_is_err_and c.from_residual.result c.from_residual.ensures.1 in
    rw (p.1, p.2) (told_stops begins_stmt (branch c.args.room (stmt c.args.room)) c.in_err-all.field-0.0 c.another_branch.new.self c.loop-alloc.invariant.goes (sym c.begins_stmt.ensures ∙ c.loop-alloc-test.true) c.in_err-all.ensures.answer)

pub branches-returns-clause-answer : goal.branches-returns-clause-answer
branches-returns-clause-answer t c = going_over begins_stmt (branch c.args.room (stmt c.args.room)) c.loop-alloc.invariant.goes (sym c.begins_stmt.ensures ∙ c.loop-alloc-test.false)

pub statement-returns-then-is_mark-clause-answer : goal.statement-returns-then-is_mark-clause-answer
statement-returns-then-is_mark-clause-answer t c =
    let some = c.if-room-eq0.false in
    told_block c.args.self.now c.block.new.self c.args.room (c.args.room - 1) c.block.result (omega arith) (sym c.is_mark.ensures ∙ c.if-is_mark.true) c.block.ensures.answer

pub statement-returns-else-is_mark-clause-answer : goal.statement-returns-else-is_mark-clause-answer
statement-returns-else-is_mark-clause-answer t c =
    let some = c.if-room-eq0.false in
    told_bare c.args.self.now c.bare_statement.new.self c.args.room (c.args.room - 1) c.bare_statement.result (omega arith) (sym c.is_mark.ensures ∙ c.if-is_mark.false) c.bare_statement.ensures.answer

pub parallel_statement-returns-in_err-branches-clause-answer : goal.parallel_statement-returns-in_err-branches-clause-answer
parallel_statement-returns-in_err-branches-clause-answer t c =
    let e = inside_some c.args.room begins_parallel (turns begins_stmt (branch c.args.room (stmt c.args.room)) []) c.mark.new.self (omega arith) in
    search (rules, e)

pub parallel_statement-returns-in_err-mark-2-clause-answer : goal.parallel_statement-returns-in_err-mark-2-clause-answer
parallel_statement-returns-in_err-mark-2-clause-answer t c =
    let e = inside_some c.args.room begins_parallel (turns begins_stmt (branch c.args.room (stmt c.args.room)) []) c.mark.new.self (omega arith) in
    search (rules, e)
