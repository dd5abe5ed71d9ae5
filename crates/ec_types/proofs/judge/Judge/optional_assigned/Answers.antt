use Rattle.std.proofs.Common.{subst}
use Rattle.ec_types.specs.Assignments.{assigned}
use Rattle.ec_types.specs.Judged.{Gives}
use Rattle.ec_types.specs.Seen.{context}
use Rattle.ec_types.proofs.judge.Judge.optional_assigned.Goals as goal

pub returns-in-Some : goal.returns-in-Some
returns-in-Some c =
    rw c.in-Some.is
    (subst (λ a. Gives c.assigned.result (assigned (context c.args.self.now) c.args.at a)) c.get.ensures c.assigned.ensures)
