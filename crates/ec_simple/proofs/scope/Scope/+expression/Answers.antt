use Rattle.std.proofs.Common.{◌∙◌, sym, ap, map}
use Rattle.ec_resolve.specs.Erased.{expression, invocation, place, optional, first_value}
use Rattle.ec_simple.specs.Expressions.{gives_of}
use Rattle.ec_simple.specs.Seen.{scope}
use Rattle.ec_simple.proofs.puts.Nodes.{operator_puts, and_puts, or_puts, load_puts, called_puts, new_puts, value_of_puts}
use Rattle.ec_simple.proofs.puts.Terms.{is_Binary, is_And, is_Or, is_Load, is_Call, is_invocation, is_New, is_ValueOf}
use Rattle.ec_simple.proofs.scope.Scope.+expression.Goals as goal

pub expression-returns-in_ok-y-in-Binary : goal.expression-returns-in_ok-y-in-Binary
expression-returns-in_ok-y-in-Binary t c =
    let it = c.in-Binary in
    let a = c.get-a-in-Binary.result.now in
    let b = c.get-b.result.now in
    let first = c.expression-in-Binary.new in
    let second = c.expression-in-Binary-2.new in
    operator_puts c.combined.result (scope c.args.self.now) (expression c.args.e.now) c.args.code.now first.code second.code
    c.combined.new.code c.args.vars.now first.vars second.vars c.combined.new.vars it.at it.op (expression a) (expression b)
    c.in_ok-x-in-Binary.x c.in_ok-y-in-Binary.y c.any_points.result
    (is_Binary c.args.e.now it.at it.op it.a it.b a b it.is c.get-a-in-Binary.ensures c.get-b.ensures)
    c.in_ok-x-in-Binary.ensures c.in_ok-y-in-Binary.ensures c.any_points.ensures c.combined.ensures

pub expression-returns-in_ok-push-in-And : goal.expression-returns-in_ok-push-in-And
expression-returns-in_ok-push-in-And t c =
    let it = c.in-And in
    let a = c.get.result.now in
    let b = c.get-in-And.result.now in
    let apart = c.in_ok-decided-in-And in
    and_puts (scope c.args.self.now) (expression c.args.e.now) (expression a) (expression b) it.at c.args.code.now
    c.expression-in-And.new.code c.push.new.self c.args.vars.now c.expression-in-And.new.vars c.decided.new.vars
    c.in_ok-test-in-And.test apart.x apart.decided c.in_ok-truth-in-And.field-0 c.in_ok-test-in-And.ensures apart.ensures
    (is_And c.args.e.now it.at it.a it.b a b it.is c.get.ensures c.get-in-And.ensures)
    c.in_ok-truth-in-And.ensures c.in_ok-push-in-And.ensures.ok

pub expression-returns-in_ok-push-in-Or : goal.expression-returns-in_ok-push-in-Or
expression-returns-in_ok-push-in-Or t c =
    let it = c.in-Or in
    let a = c.get-in-Or.result.now in
    let b = c.get-in-Or-2.result.now in
    let apart = c.in_ok-decided-in-Or in
    or_puts (scope c.args.self.now) (expression c.args.e.now) (expression a) (expression b) it.at c.args.code.now
    c.expression-in-Or.new.code c.push-in-Or.new.self c.args.vars.now c.expression-in-Or.new.vars c.decided-in-Or.new.vars
    c.in_ok-test-in-Or.test apart.x apart.decided c.in_ok-truth-in-Or.field-0 c.in_ok-test-in-Or.ensures apart.ensures
    (is_Or c.args.e.now it.at it.a it.b a b it.is c.get-in-Or.ensures c.get-in-Or-2.ensures)
    c.in_ok-truth-in-Or.ensures c.in_ok-push-in-Or.ensures.ok

pub expression-returns-in_ok-from-in-Load : goal.expression-returns-in_ok-from-in-Load
expression-returns-in_ok-from-in-Load t c =
    let it = c.in-Load in
    load_puts c.load.result (scope c.args.self.now) (expression c.args.e.now) c.args.code.now c.access.new.code c.load.new.code
    c.args.vars.now c.access.new.vars c.load.new.vars it.pointer (place it.p) c.in_ok-from-in-Load.from
    (is_Load c.args.e.now it.pointer it.p it.is) c.in_ok-from-in-Load.ensures c.load.ensures

pub expression-returns-in_ok-callee-in-Call : goal.expression-returns-in_ok-callee-in-Call
expression-returns-in_ok-callee-in-Call t c =
    let i = c.in-Call.i in
    called_puts c.called.result (scope c.args.self.now) (expression c.args.e.now) c.args.code.now c.call.new.code
    c.called.new.code c.args.vars.now c.call.new.vars c.called.new.vars (invocation i) c.gives.result
    c.in_ok-callee-in-Call.callee (is_Call c.args.e.now i c.in-Call.is) c.in_ok-callee-in-Call.ensures
    (c.gives.ensures ∙ sym (ap (gives_of (scope c.args.self.now)) (is_invocation i))) c.called.ensures

pub expression-returns-in_ok-count-in-New : goal.expression-returns-in_ok-count-in-New
expression-returns-in_ok-count-in-New t c =
    let a = c.in-New.a in
    new_puts c.created.result (scope c.args.self.now) (expression c.args.e.now) c.args.code.now c.part.new.code
    c.created.new.code c.args.vars.now c.part.new.vars c.created.new.vars a.at a.shape (map first_value a.pointers)
    (optional a.count) c.in_ok-count-in-New.count (is_New c.args.e.now a c.in-New.is) c.in_ok-count-in-New.ensures
    c.created.ensures

pub expression-returns-in_ok-x-in-ValueOf : goal.expression-returns-in_ok-x-in-ValueOf
expression-returns-in_ok-x-in-ValueOf t c =
    let it = c.in-ValueOf in
    let a = c.get-in-ValueOf.result.now in
    value_of_puts c.read.result (scope c.args.self.now) (expression c.args.e.now) c.args.code.now
    c.expression-in-ValueOf.new.code c.read.new.code c.args.vars.now c.expression-in-ValueOf.new.vars c.read.new.vars it.at
    (expression a) c.in_ok-x-in-ValueOf.x (is_ValueOf c.args.e.now it.at it.a a it.is c.get-in-ValueOf.ensures)
    c.in_ok-x-in-ValueOf.ensures c.read.ensures
