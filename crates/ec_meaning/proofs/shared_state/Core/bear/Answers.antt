use Rattle.std.proofs.Common.{rules, refl}
use Rattle.ec_meaning.proofs.shared_state.Core.bear.Goals as goal

pub returns : goal.returns
returns c = record {
  block = record { path = c.in_ok-path.path; cells = c.args.cells };
  born = record {
    blocks = search rules;
    path = search rules;
    births = search rules;
    most = search rules;
    output = search rules;
  };
  holds = refl;
  pointer = search rules;
}
