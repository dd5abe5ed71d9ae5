use Rattle.std.proofs.Common.{refl}
use Rattle.ec_meaning.proofs.Taken.{taken_by, always, kept, opens}
use Rattle.ec_meaning.specs.declared.work.Work.TheVariants.{Drop}
use Rattle.ec_meaning.proofs.hand.Frame.take.Goals as goal

-- ---- works are put in the place of a work

pub returns-in-Value : goal.returns-in-Value
returns-in-Value c =
    taken_by c.args.births c.args.self.now c.value.new.self c.args.w _ c.value.result c.opened.result c.in-Value.is c.opened.ensures
    (λ u. tt) c.value.ensures.works (kept _ _ c.value.result c.value.ensures.hand)

pub returns-in-Reach : goal.returns-in-Reach
returns-in-Reach c =
    taken_by c.args.births c.args.self.now c.reach.new.self c.args.w _ c.reach.result c.opened-in-Reach.result c.in-Reach.is c.opened-in-Reach.ensures
    (λ u. tt) c.reach.ensures.works (kept _ _ c.reach.result c.reach.ensures.hand)

pub returns-in-Arguments : goal.returns-in-Arguments
returns-in-Arguments c =
    taken_by c.args.births c.args.self.now c.arguments.new.self c.args.w _ c.arguments.result c.opened-in-Arguments.result c.in-Arguments.is c.opened-in-Arguments.ensures
    (λ u. tt) c.arguments.ensures.works (kept _ _ c.arguments.result c.arguments.ensures.hand)

pub returns-in-Call : goal.returns-in-Call
returns-in-Call c =
    taken_by c.args.births c.args.self.now c.call.new.self c.args.w _ c.call.result c.opened-in-Call.result c.in-Call.is c.opened-in-Call.ensures
    (λ u. tt) c.call.ensures.works (kept _ _ c.call.result c.call.ensures.hand)

pub returns-in-Assign : goal.returns-in-Assign
returns-in-Assign c =
    taken_by c.args.births c.args.self.now c.assign.new.self c.args.w _ c.assign.result c.opened-in-Assign.result c.in-Assign.is c.opened-in-Assign.ensures
    (λ u. tt) c.assign.ensures.works (kept _ _ c.assign.result c.assign.ensures.hand)

pub returns-in-Declare : goal.returns-in-Declare
returns-in-Declare c =
    taken_by c.args.births c.args.self.now c.declare.new.self c.args.w _ c.declare.result c.opened-in-Declare.result c.in-Declare.is c.opened-in-Declare.ensures
    (λ u. tt) c.declare.ensures.works (kept _ _ c.declare.result c.declare.ensures.hand)

pub returns-in-Statement : goal.returns-in-Statement
returns-in-Statement c =
    taken_by c.args.births c.args.self.now c.statement.new.self c.args.w _ c.statement.result c.opened-in-Statement.result c.in-Statement.is c.opened-in-Statement.ensures
    (λ u. tt) c.statement.ensures.works (kept _ _ c.statement.result c.statement.ensures.hand)

pub returns-in-Statements : goal.returns-in-Statements
returns-in-Statements c =
    taken_by c.args.births c.args.self.now c.statements.new.self c.args.w _ c.statements.result c.opened-in-Statements.result c.in-Statements.is c.opened-in-Statements.ensures
    (λ u. tt) c.statements.ensures.works (kept _ _ c.statements.result c.statements.ensures.hand)

pub returns-in-Branches : goal.returns-in-Branches
returns-in-Branches c =
    taken_by c.args.births c.args.self.now c.branches.new.self c.args.w _ c.branches.result c.opened-in-Branches.result c.in-Branches.is c.opened-in-Branches.ensures
    (λ u. tt) c.branches.ensures.works (kept _ _ c.branches.result c.branches.ensures.hand)

pub returns-in-Turn : goal.returns-in-Turn
returns-in-Turn c =
    taken_by c.args.births c.args.self.now c.turn.new.self c.args.w _ c.turn.result c.opened-in-Turn.result c.in-Turn.is c.opened-in-Turn.ensures
    (λ u. tt) c.turn.ensures.works (kept _ _ c.turn.result c.turn.ensures.hand)

-- ---- works by the value at hand

pub returns-in-AndThen : goal.returns-in-AndThen
returns-in-AndThen c =
    taken_by c.args.births c.args.self.now c.and_then.new.self c.args.w _ c.and_then.result c.opened-in-AndThen.result c.in-AndThen.is c.opened-in-AndThen.ensures
    (λ u. tt) c.and_then.ensures.works c.and_then.ensures.hand

pub returns-in-OrElse : goal.returns-in-OrElse
returns-in-OrElse c =
    taken_by c.args.births c.args.self.now c.or_else.new.self c.args.w _ c.or_else.result c.opened-in-OrElse.result c.in-OrElse.is c.opened-in-OrElse.ensures
    (λ u. tt) c.or_else.ensures.works c.or_else.ensures.hand

pub returns-in-Decide : goal.returns-in-Decide
returns-in-Decide c =
    taken_by c.args.births c.args.self.now c.decide.new.self c.args.w _ c.decide.result c.opened-in-Decide.result c.in-Decide.is c.opened-in-Decide.ensures
    (λ u. tt) c.decide.ensures.works c.decide.ensures.hand

pub returns-in-Again : goal.returns-in-Again
returns-in-Again c =
    taken_by c.args.births c.args.self.now c.again.new.self c.args.w _ c.again.result c.opened-in-Again.result c.in-Again.is c.opened-in-Again.ensures
    (λ u. tt) c.again.ensures.works c.again.ensures.hand

-- ---- the hand alone

pub returns-in-Constant : goal.returns-in-Constant
returns-in-Constant c =
    taken_by c.args.births c.args.self.now (record c.args.self.now { hand = c.push.new.self }) c.args.w _ c.push.result c.opened-in-Constant.result
    c.in-Constant.is c.opened-in-Constant.ensures (λ u. tt) (always c.push.result (λ u. refl)) c.push.ensures

pub returns-in-Operate : goal.returns-in-Operate
returns-in-Operate c =
    taken_by c.args.births c.args.self.now (record c.args.self.now { hand = c.operate.new.self }) c.args.w _ c.operate.result c.opened-in-Operate.result
    c.in-Operate.is c.opened-in-Operate.ensures (λ u. tt) (always c.operate.result (λ u. refl)) c.operate.ensures

pub returns-in-AsTruth : goal.returns-in-AsTruth
returns-in-AsTruth c =
    taken_by c.args.births c.args.self.now (record c.args.self.now { hand = c.as_truth.new.self }) c.args.w _ c.as_truth.result c.opened-in-AsTruth.result
    c.in-AsTruth.is c.opened-in-AsTruth.ensures (λ u. tt) (always c.as_truth.result (λ u. refl)) c.as_truth.ensures

pub returns-in-ToElement : goal.returns-in-ToElement
returns-in-ToElement c =
    taken_by c.args.births c.args.self.now (record c.args.self.now { hand = c.to_element.new.self }) c.args.w _ c.to_element.result c.opened-in-ToElement.result
    c.in-ToElement.is c.opened-in-ToElement.ensures (λ u. tt) (always c.to_element.result (λ u. refl)) c.to_element.ensures

pub returns-in-ToBehind : goal.returns-in-ToBehind
returns-in-ToBehind c =
    taken_by c.args.births c.args.self.now (record c.args.self.now { hand = c.to_behind.new.self }) c.args.w _ c.to_behind.result c.opened-in-ToBehind.result
    c.in-ToBehind.is c.opened-in-ToBehind.ensures (λ u. tt) (always c.to_behind.result (λ u. refl)) c.to_behind.ensures

pub returns-in-ToField : goal.returns-in-ToField
returns-in-ToField c =
    taken_by c.args.births c.args.self.now (record c.args.self.now { hand = c.to_field.new.self }) c.args.w _ c.to_field.result c.opened-in-ToField.result
    c.in-ToField.is c.opened-in-ToField.ensures (λ u. tt) (always c.to_field.result (λ u. refl)) c.to_field.ensures

pub returns-in-ToItem : goal.returns-in-ToItem
returns-in-ToItem c =
    taken_by c.args.births c.args.self.now (record c.args.self.now { hand = c.to_item.new.self }) c.args.w _ c.to_item.result c.opened-in-ToItem.result
    c.in-ToItem.is c.opened-in-ToItem.ensures (λ u. tt) (always c.to_item.result (λ u. refl)) c.to_item.ensures

pub returns-in-SetTo : goal.returns-in-SetTo
returns-in-SetTo c =
    taken_by c.args.births c.args.self.now (record c.args.self.now { hand = c.set_to.new.self }) c.args.w _ c.set_to.result c.opened-in-SetTo.result
    c.in-SetTo.is c.opened-in-SetTo.ensures (λ u. tt) (always c.set_to.result (λ u. refl)) c.set_to.ensures

pub returns-in-Drop : goal.returns-in-Drop
returns-in-Drop c =
    λ u. rw c.in-Drop.is
    (opens c.args.births c.args.self.now (record c.args.self.now { hand = c.pop.new.self }) Drop
    (λ u. tt) (λ u. refl) c.pop.ensures.rest u)
