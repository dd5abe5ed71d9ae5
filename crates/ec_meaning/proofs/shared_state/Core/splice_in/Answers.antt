use Rattle.std.proofs.Common.{rules, refl, arith}
use Rattle.std.proofs.lemmas.Option.{slice_get_read}
use Rattle.ec_meaning.proofs.shared_state.Core.splice_in.Goals as goal

pub returns : goal.returns
returns c = record {
  before = c.index_mut.result.now;
  after = _;
  puts = record {
    held =
        slice_get_read c.args.self.now.blocks.items c.len.result c.args.block c.index_mut.result.now
        (search rules) (omega arith) c.index_mut.ensures.value;
    blocks = refl;
    path = refl;
    births = refl;
    most = refl;
    output = refl;
  };
  cells = search rules;
}
