use Rattle.std.proofs.Common.{rules}
use Rattle.ec_variants.proofs.judge.see_printed.Goals as goal

pub returns-in-Ok : goal.returns-in-Ok
returns-in-Ok c = record {
  program = record { tokens = c.in-Ok.again.tokens; tree = c.in-Ok.again.tree; parses = search rules };
  same = search rules;
}
