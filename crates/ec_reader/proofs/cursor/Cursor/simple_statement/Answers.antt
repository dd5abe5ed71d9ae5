use Rattle.std.proofs.Common.{sym, ◌∙◌, subst}
use Rattle.ec_reader.specs.Answers.{Told}
use Rattle.ec_reader.proofs.Parts.Statements.{simple_longer}
use Rattle.ec_reader.proofs.cursor.Cursor.simple_statement.Goals as goal

pub returns-else-is_word-3-clause-answer : goal.returns-else-is_word-3-clause-answer
returns-else-is_word-3-clause-answer c =
    subst (λ o. Told o c.return_or_action.result c.return_or_action.new.self)
    (simple_longer c.args.self.now c.args.room c.requires (sym c.is_mark.ensures ∙ c.if-is_mark.false) (sym c.is_word.ensures ∙ c.if-is_word.false)
    (sym c.is_word-else-is_word.ensures ∙ c.if-is_word-2.false) (sym c.is_word-else-is_word-2.ensures ∙ c.if-is_word-3.false))
    c.return_or_action.ensures.answer
