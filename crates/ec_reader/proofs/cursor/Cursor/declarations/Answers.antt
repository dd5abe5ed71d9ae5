use Rattle.std.proofs.Common.{sym, ◌∙◌}
use Rattle.std.proofs.lemmas.Result.{err_from_is_err_and}
use Rattle.ec_syntax.specs.Descent.Tokens.{begins_declaration}
use Rattle.ec_syntax.specs.Descent.Expressions.{expr}
use Rattle.ec_syntax.specs.Descent.Statements.{declaration}
use Rattle.ec_reader.proofs.Loops.Turns.{going_over}
use Rattle.ec_reader.proofs.Loops.Stopping.{told_stops}
use Rattle.ec_reader.proofs.cursor.Cursor.declarations.Goals as goal

pub returns-in_err-all-clause-answer : goal.returns-in_err-all-clause-answer
returns-in_err-all-clause-answer c =
    let p = err_from_is_err_and c.from_residual.result c.from_residual.ensures.1 in
    rw (p.1, p.2) (told_stops begins_declaration (declaration (expr c.args.room)) c.in_err-all.field-0.0 c.declaration.new.self c.loop-alloc.invariant.goes (sym c.begins_declaration.ensures ∙ c.loop-alloc-test.true) c.in_err-all.ensures.answer)

pub returns-clause-answer : goal.returns-clause-answer
returns-clause-answer c = going_over begins_declaration (declaration (expr c.args.room)) c.loop-alloc.invariant.goes (sym c.begins_declaration.ensures ∙ c.loop-alloc-test.false)
