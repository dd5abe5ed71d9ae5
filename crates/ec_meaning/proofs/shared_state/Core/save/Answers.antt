use Rattle.std.proofs.Common.{sym, ◌∙◌}
use Rattle.std.specs.Prelude.{List, slice_set}
use Rattle.ec_meaning.specs.declared.value.Value.{Value}
use Rattle.std.proofs.lemmas.Result.{err_from_is_err_and}
use Rattle.ec_types.specs.Meaning.Memory.{cell, put}
use Rattle.ec_meaning.specs.Seen.{val, access}
use Rattle.ec_meaning.proofs.Reaching.{reach_refused, save_done, changed_kept}
use Rattle.ec_meaning.proofs.shared_state.Core.save.Goals as goal

pub returns-in_err-spot-clause-does : goal.returns-in_err-spot-clause-does
returns-in_err-spot-clause-does c = λ u r t.
    let p = err_from_is_err_and c.from_residual.result c.from_residual.ensures.1 in
    rw (p.1, p.2)
    (reach_refused u c.args.self.now t c.args.a.now
    (λ p cells. put p (slice_set cells (cell (access u c.args.a.now)) (val u c.args.value))) r (λ done. done)
    c.in_err-spot.field-0.0 (sym c.spot.ensures.value ∙ c.in_err-spot.was))

pub returns-clause-does : goal.returns-clause-does
returns-clause-does c = λ u r t.
    save_done u c.args.self.now c.put.new.self c.args.a.now r c.in_ok-spot.spot (sym c.spot.ensures.value ∙ c.in_ok-spot.was)
    c.in_ok-spot.ensures.room c.args.value c.put.result c.put.ensures t

pub returns-clause-kept : goal.returns-clause-kept
returns-clause-kept c =
    changed_kept c.in_ok-spot.spot.block (λ (cells : List Value). slice_set cells c.in_ok-spot.spot.cell c.args.value)
    c.args.self.now c.put.new.self c.put.result c.put.ensures
