use Rattle.std.proofs.lemmas.Result.{err_from_is_err_and}
use Rattle.ec_syntax.specs.Descent.Expressions.{expr}
use Rattle.ec_reader.proofs.Parts.Declarations.{variables_stop, mark_stops, declared}
use Rattle.ec_reader.proofs.cursor.Cursor.declaration_behind_base.Goals as goal

pub returns-in_err-all-clause-answer : goal.returns-in_err-all-clause-answer
returns-in_err-all-clause-answer c =
    let p = err_from_is_err_and c.from_residual-in_err-all.result c.from_residual-in_err-all.ensures.1 in
    rw (p.1, p.2) (variables_stop (expr c.args.room) c.args.mode c.args.base c.args.before c.args.self.now c.declarator.new.self c.in_ok-first.first c.in_ok-first.ensures.answer
    c.push.new.self c.in_ok-push.ensures.ok c.in_err-all.field-0.0 c.further_variables.new.self c.in_err-all.ensures.answer)

pub returns-in_err-mark-clause-answer : goal.returns-in_err-mark-clause-answer
returns-in_err-mark-clause-answer c =
    let p = err_from_is_err_and c.from_residual-in_err-mark.result c.from_residual-in_err-mark.ensures.1 in
    rw (p.1, p.2) (mark_stops (expr c.args.room) c.args.mode c.args.base c.args.before c.args.self.now c.declarator.new.self c.in_ok-first.first c.in_ok-first.ensures.answer
    c.push.new.self c.in_ok-push.ensures.ok c.in_ok-all.all c.further_variables.new.self c.in_ok-all.ensures.answer c.in_err-mark.field-0.0 c.mark.new.self c.in_err-mark.ensures.answer)

pub returns-clause-answer : goal.returns-clause-answer
returns-clause-answer c =
    declared (expr c.args.room) c.args.mode c.args.base c.args.before c.args.self.now c.declarator.new.self c.in_ok-first.first c.in_ok-first.ensures.answer
    c.push.new.self c.in_ok-push.ensures.ok c.in_ok-all.all c.further_variables.new.self c.in_ok-all.ensures.answer c.in_ok-mark.field-0 c.mark.new.self c.in_ok-mark.ensures.answer
