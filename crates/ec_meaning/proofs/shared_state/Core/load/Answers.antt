use Rattle.std.proofs.lemmas.Result.{err_from_is_err_and}
use Rattle.ec_types.specs.Meaning.Values.{zero_value}
use Rattle.ec_types.specs.Meaning.State.{pure}
use Rattle.ec_types.specs.Meaning.Memory.{cell}
use Rattle.ec_meaning.specs.Seen.{val, access}
use Rattle.std.proofs.Common.{get_or, sym, ◌∙◌}
use Rattle.ec_meaning.proofs.Reaching.{reach_refused, load_done}
use Rattle.ec_meaning.proofs.shared_state.Core.load.Goals as goal

pub returns-in_err-spot : goal.returns-in_err-spot
returns-in_err-spot c = λ u r t.
    let p = err_from_is_err_and c.from_residual.result c.from_residual.ensures.1 in
    rw (p.1, p.2)
    (reach_refused u c.args.self.now t c.args.a.now
    (λ p cells. pure (get_or cells (cell (access u c.args.a.now)) zero_value)) r (val u) c.in_err-spot.field-0.0
    (sym c.spot.ensures.value ∙ c.in_err-spot.was))

pub returns : goal.returns
returns c = λ u r t.
    load_done u c.args.self.now t c.args.a.now r c.in_ok-spot.spot (sym c.spot.ensures.value ∙ c.in_ok-spot.was)
    (c.in_ok-spot.ensures.room) c.value_at.result c.value_at.ensures
