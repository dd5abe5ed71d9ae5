use Rattle.std.proofs.Common.{sym, ◌∙◌, arith}
use Rattle.std.proofs.lemmas.Result.{err_from_is_err_and}
use Rattle.ec_base.specs.declared.token.Mark.TheVariants as m
use Rattle.ec_syntax.specs.Grammar.Tokens.{is_mark}
use Rattle.ec_syntax.specs.Descent.Expressions.{expr}
use Rattle.ec_reader.specs.Another.{another_declarator}
use Rattle.ec_reader.proofs.Loops.Turns.{going_over, going_more}
use Rattle.ec_reader.proofs.Loops.Stopping.{told_stops}
use Rattle.ec_reader.proofs.cursor.Cursor.further_variables.Goals as goal

pub returns-in_err-all-clause-answer : goal.returns-in_err-all-clause-answer
returns-in_err-all-clause-answer c =
    let p = err_from_is_err_and c.from_residual.result c.from_residual.ensures.1 in
    rw (p.1, p.2) (told_stops (is_mark m.Comma) (another_declarator (expr c.args.room) c.args.mode c.args.base.now) c.in_err-all.field-0.0 c.another_declarator.new.self c.loop-alloc.invariant.goes (sym c.is_mark.ensures ∙ c.loop-alloc-test.true) c.in_err-all.ensures.answer)

pub returns-clause-answer : goal.returns-clause-answer
returns-clause-answer c = going_over (is_mark m.Comma) (another_declarator (expr c.args.room) c.args.mode c.args.base.now) c.loop-alloc.invariant.goes (sym c.is_mark.ensures ∙ c.loop-alloc-test.false)

pub loop-alloc-preserved : goal.loop-alloc-preserved
loop-alloc-preserved c = record {
  stays = omega (arith, c.in_ok-all.ensures.stays, c.loop-alloc.invariant.stays);
  goes =
      going_more (is_mark m.Comma) (another_declarator (expr c.args.room) c.args.mode c.args.base.now) c.in_ok-all.all c.another_declarator.new.self
      c.loop-alloc.invariant.goes (sym c.is_mark.ensures ∙ c.loop-alloc-test.true) c.in_ok-all.ensures.answer c.in_ok-all.ensures.takes;
}
