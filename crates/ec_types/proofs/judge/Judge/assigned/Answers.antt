use Rattle.std.proofs.Common.{subst}
use Rattle.ec_types.specs.Assignments.{set_place, fits_into}
use Rattle.ec_types.specs.Context.{is_local_variable}
use Rattle.ec_types.specs.Expressions.{judged, value}
use Rattle.ec_types.specs.Judged.{Gives, both}
use Rattle.ec_types.specs.Seen.{context}
use Rattle.ec_types.proofs.Judgements.{goes_on}
use Rattle.ec_types.proofs.judge.Judge.assigned.Goals as goal

pub returns-in-Ok : goal.returns-in-Ok
returns-in-Ok c =
    let k = context c.args.self.now in
    let left = judged k c.args.a.now.left in
    let right = judged k c.args.a.now.right in
    goes_on (c.in-Ok.target, c.in-Ok.t) (both (set_place left) (value k c.args.a.now.right))
    (λ p. fits_into k c.args.at p.0 (is_local_variable k left.form) right p.1)
    c.fits_into.result c.in-Ok.ensures
    (subst (λ v. Gives c.fits_into.result (fits_into k c.args.at c.in-Ok.target v right c.in-Ok.t)) c.is_local_variable-asks.ensures c.fits_into.ensures)
