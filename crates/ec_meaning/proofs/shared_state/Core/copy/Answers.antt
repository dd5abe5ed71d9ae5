use Rattle.std.proofs.Common.{rules, arith, sym, ◌∙◌}
use Rattle.std.proofs.lemmas.Grind.{common_steps}
use Rattle.std.proofs.lemmas.Result.{err_from_is_err_and}
use Rattle.ec_meaning.specs.Reached.{spliced}
use Rattle.ec_meaning.proofs.Reaching.{changed_kept}
use Rattle.ec_meaning.proofs.Copies.{copy_refused, copy_done}
use Rattle.ec_meaning.proofs.shared_state.Core.copy.Goals as goal

pub returns-in_err-way-clause-does : goal.returns-in_err-way-clause-does
returns-in_err-way-clause-does c = λ u r t.
    let p = err_from_is_err_and c.from_residual.result c.from_residual.ensures.1 in
    rw (p.1, p.2)
    (copy_refused u c.args.self.now t c.args.target.now c.args.source.now r c.in_err-way.field-0.0
    (sym c.way.ensures.value ∙ c.in_err-way.was))

pub returns-clause-kept : goal.returns-clause-kept
returns-clause-kept c =
    changed_kept c.in_ok-way.way.to (spliced c.in_ok-way.way.start c.args.target.now.size c.as_slice.result.now)
    c.args.self.now c.splice_in.new.self c.splice_in.result c.splice_in.ensures

pub returns-clause-does : goal.returns-clause-does
returns-clause-does c = λ u r t.
    copy_done u c.args.self.now c.splice_in.new.self c.args.target.now c.args.source.now r c.in_ok-way.way
    (sym c.way.ensures.value ∙ c.in_ok-way.was) c.in_ok-way.ensures.first c.in_ok-way.ensures.start
    c.as_slice.result.now (first_of (search rules, grind (arith, common_steps))) c.splice_in.result c.splice_in.ensures t
