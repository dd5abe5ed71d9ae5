use Rattle.std.proofs.Common.{arith, ◌-◌, subst, sym, Some, None, Bool, if◌then◌else◌}
use Rattle.ec_syntax.specs.declared.expression.ExprKind.TheFolds.{the_lemmas as folds}
use Rattle.ec_syntax.specs.declared.expression.Expr.{Expr}
use Rattle.ec_types.specs.Arguments as parameters
use Rattle.ec_types.specs.Expressions as expressions
use Rattle.ec_types.specs.Expressions.{judged}
use Rattle.ec_types.specs.Operators.{binary_type, logic_type, element_type}
use Rattle.ec_types.specs.Judged.{Judged, Gives, ◌and_then◌}
use Rattle.ec_types.specs.Parts.{by_two, shared, tested, typed}
use Rattle.ec_types.specs.Types.{is_shared, is_number, number}
use Rattle.ec_types.specs.Seen.{context}
use Rattle.ec_types.proofs.KindByKind.{is_ValueOf, is_Binary, is_And, is_Or, is_Index, is_New, of_one, of_two}
use Rattle.ec_types.proofs.ArgumentLists.{starts, goes_back, found}
use Rattle.ec_types.proofs.judge.Judge.+expression.Goals as goal

pub arguments-loop-at-init : goal.arguments-loop-at-init
arguments-loop-at-init t c = record {
  within = omega arith;
  so_far = starts (expressions.placed (context c.args.self.now) c.args.place.now).lets (expressions.judged (context c.args.self.now)) c.args.params.now c.args.all.now;
}

pub placement-returns-in-OwnerOf : goal.placement-returns-in-OwnerOf
placement-returns-in-OwnerOf t c =
    let h = c.points.ensures c.expression.ensures in
    rw c.in-OwnerOf.is (simp folds (simp folds at (rw c.get-a.ensures at h)))

pub placement-returns-in-Node : goal.placement-returns-in-Node
placement-returns-in-Node t c =
    let h = c.counts.ensures c.expression-in-Node.ensures in
    rw c.in-Node.is (simp folds (simp folds at (rw c.get-a-in-Node.ensures at h)))

pub expression-returns-in-ValueOf : goal.expression-returns-in-ValueOf
expression-returns-in-ValueOf t c =
    let h = c.read.ensures c.expression-in-ValueOf.ensures in
    subst (λ v. Gives c.read.result v.is) (sym (is_ValueOf (context c.args.self.now) c.args.e.now c.in-ValueOf.a c.in-ValueOf.is))
    (subst (λ a. Gives c.read.result (shared (judged (context c.args.self.now) a) and_then (λ t. typed c.args.e.now.at (if is_shared t then Some number else None)))) c.get-a-in-ValueOf.ensures h)

pub expression-returns-in-Binary : goal.expression-returns-in-Binary
expression-returns-in-Binary t c =
    subst (λ v. Gives c.binary.result v.is) (sym (is_Binary (context c.args.self.now) c.args.e.now c.in-Binary.operator c.in-Binary.a c.in-Binary.b c.in-Binary.is))
    (of_two c.binary.result (λ a b. by_two c.args.e.now.at (binary_type c.in-Binary.operator) (judged (context c.args.self.now) a) (judged (context c.args.self.now) b)) c.get-a-in-Binary.result.now c.in-Binary.a c.get-b.result.now c.in-Binary.b
    c.get-a-in-Binary.ensures c.get-b.ensures (c.binary.ensures c.expression-left.ensures c.expression-right.ensures))

pub expression-returns-in-And : goal.expression-returns-in-And
expression-returns-in-And t c =
    subst (λ v. Gives c.logic.result v.is) (sym (is_And (context c.args.self.now) c.args.e.now c.in-And.a c.in-And.b c.in-And.is))
    (of_two c.logic.result (λ a b. by_two c.args.e.now.at logic_type (judged (context c.args.self.now) a) (judged (context c.args.self.now) b)) c.get-a-in-And.result.now c.in-And.a c.get-b-in-And.result.now c.in-And.b
    c.get-a-in-And.ensures c.get-b-in-And.ensures (c.logic.ensures c.expression-left-in-And.ensures c.expression-right-in-And.ensures))

pub expression-returns-in-Or : goal.expression-returns-in-Or
expression-returns-in-Or t c =
    subst (λ v. Gives c.logic-in-Or.result v.is) (sym (is_Or (context c.args.self.now) c.args.e.now c.in-Or.a c.in-Or.b c.in-Or.is))
    (of_two c.logic-in-Or.result (λ a b. by_two c.args.e.now.at logic_type (judged (context c.args.self.now) a) (judged (context c.args.self.now) b)) c.get-a-in-Or.result.now c.in-Or.a c.get-b-in-Or.result.now c.in-Or.b
    c.get-a-in-Or.ensures c.get-b-in-Or.ensures (c.logic-in-Or.ensures c.expression-left-in-Or.ensures c.expression-right-in-Or.ensures))

pub expression-returns-in-Index : goal.expression-returns-in-Index
expression-returns-in-Index t c =
    subst (λ v. Gives c.indexed.result v.is) (sym (is_Index (context c.args.self.now) c.args.e.now c.in-Index.a c.in-Index.i c.in-Index.is))
    (of_two c.indexed.result (λ a b. by_two c.args.e.now.at element_type (judged (context c.args.self.now) a) (judged (context c.args.self.now) b)) c.get-a-in-Index.result.now c.in-Index.a c.get-i.result.now c.in-Index.i
    c.get-a-in-Index.ensures c.get-i.ensures (c.indexed.ensures c.expression-pointer.ensures c.expression-index.ensures))

pub expression-returns-in-Some : goal.expression-returns-in-Some
expression-returns-in-Some t c =
    let counts : Expr → Judged Bool = λ a. tested is_number (Some (judged (context c.args.self.now) a)) in
    subst (λ v. Gives c.new-in-Some.result v.is) (sym (is_New (context c.args.self.now) c.args.e.now c.in-New.to c.in-New.count c.in-Some.count c.in-New.element c.in-New.is c.in-Some.is))
    (c.new-in-Some.ensures (counts c.in-Some.count)
    (of_one c.counts-counts.result counts c.get-count.result.now c.in-Some.count c.get-count.ensures (c.counts-counts.ensures c.expression-in-Some.ensures)))

pub arguments-loop-at-preserved : goal.arguments-loop-at-preserved
arguments-loop-at-preserved t c = record {
  within = omega arith;
  so_far =
      goes_back (expressions.placed (context c.args.self.now) c.args.place.now).lets (judged (context c.args.self.now)) c.args.params.now c.args.all.now
      (c.loop-at.at - 1) c.loop-at.at c.index-all-at.result c.and-so_far.result (omega arith) (omega arith) (sym c.index-all-at.is)
      (c.and-so_far.ensures _ _
      (subst
      (λ d. Gives c.fits-fit.result (parameters.fits (expressions.placed (context c.args.self.now) c.args.place.now).lets d (judged (context c.args.self.now) c.index-all-at.result)))
      (found c.args.params.now (c.loop-at.at - 1) c.get.result (c.get.ensures.lookup).3)
      (c.fits-fit.ensures (expressions.placed (context c.args.self.now) c.args.place.now).lets c.lets.ensures c.expression.ensures))
      c.loop-at.invariant.so_far);
}
