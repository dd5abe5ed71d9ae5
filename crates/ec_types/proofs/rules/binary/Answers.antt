use Rattle.std.proofs.Common.{subst}
use Rattle.ec_types.specs.Expressions.{judged}
use Rattle.ec_types.specs.Judged.{Gives, both}
use Rattle.ec_types.specs.Operators.{binary_type}
use Rattle.ec_types.specs.Parts.{typed, valued}
use Rattle.ec_types.specs.Seen.{context}
use Rattle.ec_types.proofs.Judgements.{goes_on}
use Rattle.ec_types.proofs.rules.binary.Goals as goal

pub returns-in-Ok : goal.returns-in-Ok
returns-in-Ok c = λ p q.
    goes_on (c.in-Ok.t, c.in-Ok.u)
    (both (valued (judged (context c.args.judge.now) c.args.a.now)) (valued (judged (context c.args.judge.now) c.args.b.now)))
    (λ v. typed c.args.at (binary_type c.args.operator v.0 v.1))
    c.typed.result (c.in-Ok.ensures p q)
    (subst (λ v. Gives c.typed.result (typed c.args.at v)) c.binary_type.ensures c.typed.ensures)
