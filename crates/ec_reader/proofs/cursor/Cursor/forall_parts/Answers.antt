use Rattle.std.proofs.Common.{refl}
use Rattle.ec_reader.proofs.cursor.Cursor.forall_parts.Goals as goal

pub returns-clause-answer : goal.returns-clause-answer
returns-clause-answer c =
    rw (
      ← c.begin_part.ensures,
      c.in_ok-first.ensures.answer,
      c.in_ok-mark.ensures.answer,
      ← c.begin_part-2.ensures,
      c.in_ok-test.ensures.answer,
      c.in_ok-mark-2.ensures.answer,
      ← c.begin_part-3.ensures,
      c.in_ok-step.ensures.answer,
    ) refl
