use Rattle.std.proofs.Common.{refl, arith, ◌∙◌, sym, append_assoc}
use Rattle.ec_calls.specs.Effects.{effects, statement_doing, doing}
use Rattle.ec_calls.proofs.Callees.{all_declared, all_done, for_effects, forall_effects, if_any, is_If, is_While, is_For, is_Forall, is_body, of_two, of_three, one_more}
use Rattle.ec_syntax.specs.declared.statement.Body.{out-Body}
use Rattle.ec_calls.proofs.called.Called.+statements.Goals as goal

pub statements-loop-s-preserved : goal.statements-loop-s-preserved
statements-loop-s-preserved t c =
    one_more (λ s. (statement_doing s).effects) all_done (λ x xs. refl) c.args.statements.now c.loop-s.s-index _
    c.s-item.result c.loop-s.self _ _
    (omega arith) c.loop-s-test.true c.s-item.is c.in_ok-statement.ensures c.loop-s.invariant

pub body-returns : goal.body-returns
body-returns t c =
    of_two all_declared all_done c.statements.result (doing c.args.body.now).effects
    (out-Body c.args.body.now).decls c.as_slice.result.now
    (out-Body c.args.body.now).stmts c.as_slice-2.result.now _ _ _ (is_body c.args.body.now) c.as_slice.ensures
    c.as_slice-2.ensures
    c.in_ok-declarations.ensures c.statements.ensures

pub statement-returns-in_ok-statement-in-If : goal.statement-returns-in_ok-statement-in-If
statement-returns-in_ok-statement-in-If t c =
    let it = c.in-If in
    of_three effects (λ a. (statement_doing a).effects) if_any c.otherwise.result (statement_doing c.args.s.now).effects
    it.e c.get.result.now it.a c.get-in-If.result.now it.b it.b _ _ _ _
    (is_If c.args.s.now it.e it.a it.b it.is
    ∙ sym (append_assoc (effects it.e) (statement_doing it.a).effects (if_any it.b)))
    c.get.ensures c.get-in-If.ensures refl c.in_ok-expression-in-If.ensures c.in_ok-statement-in-If.ensures
    c.otherwise.ensures

pub statement-returns-in_ok-expression-in-While : goal.statement-returns-in_ok-expression-in-While
statement-returns-in_ok-expression-in-While t c =
    of_two effects (λ a. (statement_doing a).effects) c.statement-in-While.result (statement_doing c.args.s.now).effects
    c.in-While.e c.get-in-While.result.now c.in-While.a c.get-in-While-2.result.now _ _ _
    (is_While c.args.s.now c.in-While.e c.in-While.a c.in-While.is) c.get-in-While.ensures c.get-in-While-2.ensures
    c.in_ok-expression-in-While.ensures c.statement-in-While.ensures

pub statement-returns-in_ok-for_header-in-For : goal.statement-returns-in_ok-for_header-in-For
statement-returns-in_ok-for_header-in-For t c =
    let it = c.in-For in
    of_two for_effects (λ a. (statement_doing a).effects) c.statement-in-For.result
    (statement_doing c.args.s.now).effects
    (it.first, it.test, it.next) (it.first, it.test, it.next) it.a c.get-in-For.result.now _ _ _
    (is_For c.args.s.now it.first it.test it.next it.a it.is) refl c.get-in-For.ensures
    c.in_ok-for_header-in-For.ensures c.statement-in-For.ensures

pub statement-returns-in_ok-forall_header-in-Forall : goal.statement-returns-in_ok-forall_header-in-Forall
statement-returns-in_ok-forall_header-in-Forall t c =
    let it = c.in-Forall in
    of_two forall_effects (λ a. (statement_doing a).effects) c.statement-in-Forall.result
    (statement_doing c.args.s.now).effects
    (it.first, it.test, it.next) (c.get-in-Forall.result.now, c.get-in-Forall-2.result.now, c.get-in-Forall-3.result.now)
    it.a c.get-in-Forall-4.result.now _ _ _
    (is_Forall c.args.s.now it.first it.test it.next it.a it.is)
    (λ j. (c.get-in-Forall.ensures j, c.get-in-Forall-2.ensures j, c.get-in-Forall-3.ensures j))
    c.get-in-Forall-4.ensures
    c.in_ok-forall_header-in-Forall.ensures c.statement-in-Forall.ensures
