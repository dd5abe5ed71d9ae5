use Rattle.std.proofs.Common.{sym, subst, ◌+◌, map, take, option_map, arith}
use Rattle.ec_types.specs.Assignments.{assigned, condition}
use Rattle.ec_types.specs.Context.{inside_of}
use Rattle.ec_types.specs.Judged.{Gives, ◌also◌, every}
use Rattle.ec_types.specs.Seen.{context}
use Rattle.ec_types.specs.Statements.{statement, each_in, otherwise, forall_header, sends}
use Rattle.ec_types.proofs.Bodies.Lists.{goes_on_with}
use Rattle.ec_types.proofs.Bodies.Statements.{of_If, of_Forall, of_Set, of_WriteTo, of_AddTo, statements_go, of_header}
use Rattle.ec_types.proofs.KindByKind.{of_two}
use Rattle.ec_types.proofs.judge.Judge.+statement.Goals as goal

pub statement-returns-in-If : goal.statement-returns-in-If
statement-returns-in-If t c =
    let k = context c.args.self.now in
    let at = c.args.s.now.at in
    let second = otherwise (option_map statement c.in-If.second) k in
    subst (Gives c.also.result) (sym (of_If k c.args.s.now c.in-If.test c.in-If.first c.in-If.second c.in-If.is))
    (c.also.ensures (condition k at c.in-If.test) (statement c.in-If.first k also second)
    (subst (λ e. Gives c.condition.result (condition k at e)) c.get-in-If.ensures c.condition.ensures)
    (c.also-branches.ensures (statement c.in-If.first k) second
    (subst (λ s. Gives c.statement.result (statement s k)) c.get.ensures c.statement.ensures) c.otherwise.ensures))

pub statement-returns-in-Forall : goal.statement-returns-in-Forall
statement-returns-in-Forall t c =
    let k = context c.args.self.now in
    let at = c.args.s.now.at in
    let all = c.in-Forall in
    subst (Gives c.also-in-Forall.result) (sym (of_Forall k c.args.s.now all.first all.test all.last all.s all.is))
    (c.also-in-Forall.ensures (forall_header k at all.first all.test all.last) (statement all.s (inside_of k))
    (of_header c.forall_header.result (forall_header k at) c.get-in-Forall-2.result.now all.first c.get-in-Forall-4.result.now all.last c.get-in-Forall-3.result.now all.test
    c.get-in-Forall-2.ensures c.get-in-Forall-3.ensures c.get-in-Forall-4.ensures c.forall_header.ensures)
    (subst (λ s. Gives c.iteration-inner.result (statement s (inside_of k))) c.get-in-Forall.ensures c.iteration-inner.ensures))

pub statement-returns-in-Set : goal.statement-returns-in-Set
statement-returns-in-Set t c =
    let k = context c.args.self.now in
    subst (Gives c.assigned.result) (sym (of_Set k c.args.s.now c.in-Set.a c.in-Set.is))
    (subst (λ a. Gives c.assigned.result (assigned k c.args.s.now.at a)) c.get-in-Set.ensures c.assigned.ensures)

pub statement-returns-in-WriteTo : goal.statement-returns-in-WriteTo
statement-returns-in-WriteTo t c =
    let k = context c.args.self.now in
    subst (Gives c.sends.result) (sym (of_WriteTo k c.args.s.now c.in-WriteTo.to c.in-WriteTo.e c.in-WriteTo.is))
    (of_two c.sends.result (sends k c.args.s.now.at) c.get-in-WriteTo.result.now c.in-WriteTo.to c.get-in-WriteTo-2.result.now c.in-WriteTo.e
    c.get-in-WriteTo.ensures c.get-in-WriteTo-2.ensures c.sends.ensures)

pub statement-returns-in-AddTo : goal.statement-returns-in-AddTo
statement-returns-in-AddTo t c =
    let k = context c.args.self.now in
    subst (Gives c.sends-in-AddTo.result) (sym (of_AddTo k c.args.s.now c.in-AddTo.to c.in-AddTo.e c.in-AddTo.is))
    (of_two c.sends-in-AddTo.result (sends k c.args.s.now.at) c.get-in-AddTo.result.now c.in-AddTo.to c.get-in-AddTo-2.result.now c.in-AddTo.e
    c.get-in-AddTo.ensures c.get-in-AddTo-2.ensures c.sends-in-AddTo.ensures)

pub statements-loop-s-preserved : goal.statements-loop-s-preserved
statements-loop-s-preserved t c =
    let k = context c.args.self.now in
    goes_on_with (statements_go k) c.args.all.now c.loop-s.s-index (c.loop-s.s-index + 1) c.s-item.result c.also-so_far.result
    (omega arith) c.loop-s-test.true (sym c.s-item.is)
    (c.also-so_far.ensures (every (each_in k (map statement (take c.loop-s.s-index c.args.all.now)))) (statement c.s-item.result k) c.loop-s.invariant c.statement.ensures)
