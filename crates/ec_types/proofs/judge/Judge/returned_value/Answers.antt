use Rattle.std.proofs.Common.{sym, ◌∙◌}
use Rattle.ec_base.specs.declared.reason.Reason.TheVariants.{Mismatch}
use Rattle.ec_types.specs.Expressions.{value}
use Rattle.ec_types.specs.Judged.{refused}
use Rattle.ec_types.specs.Seen.{context}
use Rattle.ec_types.proofs.judge.Judge.returned_value.Goals as goal

pub returns-then-is_void : goal.returns-then-is_void
returns-then-is_void c =
    rw (sym c.is_void.ensures ∙ c.if-is_void.true)
    (c.also.ensures (refused Mismatch c.args.at) (value (context c.args.self.now) c.args.e.now) c.refused.ensures c.value.ensures)
