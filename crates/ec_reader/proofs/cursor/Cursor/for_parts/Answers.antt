use Rattle.std.proofs.Common.{refl}
use Rattle.ec_reader.proofs.cursor.Cursor.for_parts.Goals as goal

pub returns-clause-answer : goal.returns-clause-answer
returns-clause-answer c =
    rw (c.in_ok-first.ensures.answer, c.in_ok-mark.ensures.answer, c.in_ok-test.ensures.answer, c.in_ok-mark-2.ensures.answer, c.in_ok-step.ensures.answer) refl
