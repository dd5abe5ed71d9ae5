use Rattle.std.proofs.Common.{sym, ◌∙◌, ◌-◌, arith}
use Rattle.std.proofs.lemmas.Result.{err_from_is_err_and}
use Rattle.ec_base.specs.declared.token.Mark.TheVariants as m
use Rattle.ec_syntax.specs.Grammar.Tokens.{is_mark}
use Rattle.ec_syntax.specs.Descent.Expressions.{unary, expr_of, levels, operation, is_at_level, is_selector, selected}
use Rattle.ec_reader.specs.Inside.{another_argument}
use Rattle.ec_reader.proofs.Loops.Turns.{going_over, going_more}
use Rattle.ec_reader.proofs.Loops.Stopping.{told_stops}
use Rattle.ec_reader.proofs.Parts.Rooms.{unary_prefixed, unary_address, unary_postfix, levels_first, told_as}
use Rattle.ec_reader.proofs.Loops.Factors.{told_factor, told_size, told_operand}
use Rattle.ec_reader.proofs.cursor.Cursor.+expression.Goals as goal

pub unary-returns-then-is_prefix-clause-answer : goal.unary-returns-then-is_prefix-clause-answer
unary-returns-then-is_prefix-clause-answer t c =
    told_as c.prefixed.result c.prefixed.new.self
    (unary_prefixed c.args.self.now c.args.room (c.args.room - 1) (omega arith) (sym c.is_prefix.ensures ∙ c.if-is_prefix.true)) c.prefixed.ensures.answer

pub unary-returns-then-is_mark-clause-answer : goal.unary-returns-then-is_mark-clause-answer
unary-returns-then-is_mark-clause-answer t c =
    told_as c.address.result c.address.new.self
    (unary_address c.args.self.now c.args.room (c.args.room - 1) (omega arith) (sym c.is_prefix.ensures ∙ c.if-is_prefix.false) (sym c.is_mark.ensures ∙ c.if-is_mark.true))
    c.address.ensures.answer

pub unary-returns-else-is_mark-clause-answer : goal.unary-returns-else-is_mark-clause-answer
unary-returns-else-is_mark-clause-answer t c =
    told_as c.postfix.result c.postfix.new.self
    (unary_postfix c.args.self.now c.args.room (c.args.room - 1) (omega arith) (sym c.is_prefix.ensures ∙ c.if-is_prefix.false) (sym c.is_mark.ensures ∙ c.if-is_mark.false))
    c.postfix.ensures.answer

pub postfix-returns-in_err-operand-2-clause-answer : goal.postfix-returns-in_err-operand-2-clause-answer
postfix-returns-in_err-operand-2-clause-answer t c =
    let p = err_from_is_err_and c.from_residual-in_err-operand-2.result c.from_residual-in_err-operand-2.ensures.1 in
    rw (p.1, p.2) (told_stops is_selector (selected c.args.room (unary c.args.room)) c.in_err-operand-2.field-0.0 c.selected.new.self c.loop-alloc.invariant.goes (sym c.is_selector.ensures ∙ c.loop-alloc-test.true) c.in_err-operand-2.ensures.answer)

pub level-loop-alloc-init : goal.level-loop-alloc-init
level-loop-alloc-init t c = record {
  stays = c.in_ok-left.ensures.takes;
  goes = levels_first (unary c.args.room) c.args.self.now c.args.level (c.args.level - 1) c.in_ok-left.left c.level.new.self (omega arith) c.in_ok-left.ensures.answer;
}

pub level-returns-in_err-left-2-clause-answer : goal.level-returns-in_err-left-2-clause-answer
level-returns-in_err-left-2-clause-answer t c =
    let p = err_from_is_err_and c.from_residual-in_err-left-2.result c.from_residual-in_err-left-2.ensures.1 in
    rw (p.1, p.2) (told_stops (is_at_level (c.args.level - 1)) (operation (c.args.level - 1) (levels (c.args.level - 1) (unary c.args.room))) c.in_err-left-2.field-0.0 c.operation.new.self c.loop-alloc.invariant.goes (sym c.is_at_level.ensures ∙ c.loop-alloc-test.true) c.in_err-left-2.ensures.answer)

pub arguments-returns-in_err-args-clause-answer : goal.arguments-returns-in_err-args-clause-answer
arguments-returns-in_err-args-clause-answer t c =
    let p = err_from_is_err_and c.from_residual-in_err-args.result c.from_residual-in_err-args.ensures.1 in
    rw (p.1, p.2) (told_stops (is_mark m.Comma) (another_argument (expr_of (unary c.args.room))) c.in_err-args.field-0.0 c.another_argument.new.self c.loop-alloc.invariant.goes (sym c.is_mark.ensures ∙ c.loop-alloc-test.true) c.in_err-args.ensures.answer)

pub arguments-loop-alloc-preserved : goal.arguments-loop-alloc-preserved
arguments-loop-alloc-preserved t c = record {
  stays = omega (arith, c.in_ok-args.ensures.stays, c.loop-alloc.invariant.stays);
  goes =
      going_more (is_mark m.Comma) (another_argument (expr_of (unary c.args.room))) c.in_ok-args.args c.another_argument.new.self
      c.loop-alloc.invariant.goes (sym c.is_mark.ensures ∙ c.loop-alloc-test.true) c.in_ok-args.ensures.answer c.in_ok-args.ensures.takes;
}

pub arguments-returns-clause-answer : goal.arguments-returns-clause-answer
arguments-returns-clause-answer t c = going_over (is_mark m.Comma) (another_argument (expr_of (unary c.args.room))) c.loop-alloc.invariant.goes (sym c.is_mark.ensures ∙ c.loop-alloc-test.false)

pub count-returns-in_err-star-clause-answer : goal.count-returns-in_err-star-clause-answer
count-returns-in_err-star-clause-answer t c =
    let p = err_from_is_err_and c.from_residual-in_err-star.result c.from_residual-in_err-star.ensures.1 in
    rw (p.1, p.2) (told_factor (unary c.args.room) c.in_err-star.field-0.0 c.factor.new.self c.factors.invariant.goes c.in_err-star.ensures.answer)

pub count-returns-then-is_size-clause-answer : goal.count-returns-then-is_size-clause-answer
count-returns-then-is_size-clause-answer t c =
    told_size (unary c.args.room) c.in_ok-star.star c.in_ok-star.operator c.factor.new.self _ c.word.new.self c.factors.invariant.goes c.in_ok-star.ensures.answer
    (sym c.is_size.ensures ∙ c.if-is_size.true) c.in_ok-word.ensures.answer

pub count-returns-in_err-right-clause-answer : goal.count-returns-in_err-right-clause-answer
count-returns-in_err-right-clause-answer t c =
    let p = err_from_is_err_and c.from_residual-in_err-right.result c.from_residual-in_err-right.ensures.1 in
    rw (p.1, p.2) (told_operand (unary c.args.room) c.in_ok-star.star c.in_ok-star.operator c.factor.new.self c.in_err-right.field-0.0 c.unary-in-factors.new.self c.factors.invariant.goes c.in_ok-star.ensures.answer
    (sym c.is_size.ensures ∙ c.if-is_size.false) c.in_err-right.ensures.answer)
