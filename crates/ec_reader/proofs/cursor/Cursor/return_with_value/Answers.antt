use Rattle.std.proofs.Common.{sym, ◌∙◌, ap, subst, codes}
use Rattle.ec_syntax.specs.Descent.Reader.{and_then, ◌>>◌}
use Rattle.ec_syntax.specs.Descent.Tokens.{word}
use Rattle.ec_syntax.specs.Descent.Expressions.{expr}
use Rattle.ec_syntax.specs.Descent.Statements.{returned}
use Rattle.ec_reader.specs.Answers.{Told}
use Rattle.ec_reader.proofs.cursor.Cursor.return_with_value.Goals as goal

pub returns-clause-answer : goal.returns-clause-answer
returns-clause-answer c =
    subst (λ o. Told o c.returned_value.result c.returned_value.new.self)
    (sym (ap (λ s. (word (codes "return") >> returned (expr c.args.room)) s) (sym c.begin_part.ensures)
    ∙ ap (λ o. and_then o (λ _. returned (expr c.args.room))) c.in_ok-word.ensures.answer))
    c.returned_value.ensures.answer
