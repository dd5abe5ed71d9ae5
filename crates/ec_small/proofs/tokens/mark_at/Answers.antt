use Rattle.std.proofs.Common.{rules, arith}
use Rattle.ec_small.proofs.Marks.{mark_there}
use Rattle.ec_small.proofs.tokens.mark_at.Goals as goal

pub returns-in-Mark-clause-is : goal.returns-in-Mark-clause-is
returns-in-Mark-clause-is c =
    mark_there c.args.mark c.in-Mark.found c.args.tokens.now c.args.at c.index-tokens-at.result c.eq.result (omega arith) c.in-Mark.is
    c.requires.readable (search rules)
