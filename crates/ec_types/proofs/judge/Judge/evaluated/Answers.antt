use Rattle.std.proofs.Common.{refl}
use Rattle.ec_types.specs.Expressions.{judged_call}
use Rattle.ec_types.specs.Judged.{fine}
use Rattle.ec_types.specs.Seen.{context}
use Rattle.ec_types.proofs.judge.Judge.evaluated.Goals as goal

pub returns : goal.returns
returns c = c.also.ensures fine (judged_call (context c.args.self.now) c.args.call.now) refl c.call.ensures
