use Rattle.ec_types.specs.Meaning.State.{With}
use Rattle.std.proofs.Common.{◌≡◌, subst, Err}
use Rattle.std.proofs.lemmas.Result.{err_from_is_err_and}
use Rattle.ec_types.specs.Meaning.Memory as memory
use Rattle.ec_meaning.specs.Seen.{Performs, val, access, core}
use Rattle.ec_meaning.proofs.Answered.{refused_then, then_performs}
use Rattle.ec_meaning.proofs.shared_state.Core.add.Goals as goal

pub returns-in_err-before-clause-does : goal.returns-in_err-before-clause-does
returns-in_err-before-clause-does c = λ u r t.
    let p = err_from_is_err_and c.from_residual.result c.from_residual.ensures.1 in
    let to = memory.shared c.args.at (val u c.args.to) in
    rw (p.1, p.2)
    (refused_then (val u) (λ done. done) (λ w. memory.save to (memory.sum w (val u c.args.value)))
    (memory.load to (core u c.args.self.now) r) (core u c.args.self.now) r c.in_err-before.field-0.0
    (subst (λ a. Performs (val u) (Err c.in_err-before.field-0.0)
    (memory.load (access u a) (core u c.args.self.now) r) (core u c.args.self.now) r)
    c.shared-access.ensures (c.in_err-before.ensures u r t)))

pub returns-clause-does : goal.returns-clause-does
returns-clause-does c = λ u r t.
    let to = memory.shared c.args.at (val u c.args.to) in
    then_performs u (λ done. done) (λ w. memory.save to (memory.sum w (val u c.args.value)))
    (memory.load to (core u c.args.self.now) r) (val u c.in_ok-before.before) c.args.self.now c.save.new.self r c.save.result
    (λ before. subst (λ a. memory.load (access u a) (core u c.args.self.now) r ≡ (With (val u c.in_ok-before.before), core u c.args.self.now, r))
    c.shared-access.ensures (c.in_ok-before.ensures u r before))
    c.save.ensures.kept t
    (subst (λ v. Performs (λ done. done) c.save.result (memory.save to v (core u c.args.self.now) r) (core u c.save.new.self) r)
    (c.sum.ensures u)
    (subst (λ a. Performs (λ done. done) c.save.result
    (memory.save (access u a) (val u c.sum.result) (core u c.args.self.now) r) (core u c.save.new.self) r)
    c.shared-access.ensures (c.save.ensures.does u r t)))
