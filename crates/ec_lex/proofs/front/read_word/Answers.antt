use Rattle.std.proofs.Common.{◌∙◌}
use Rattle.ec_lex.proofs.AtFront.Lexicals.{word_lexical}
use Rattle.ec_lex.proofs.front.read_word.Goals as goal

pub returns-clause-lexical : goal.returns-clause-lexical
returns-clause-lexical c = rw (c.in_ok-from_slice.ensures ∙ c.run-word.ensures) (word_lexical c.args.text.now c.requires)
