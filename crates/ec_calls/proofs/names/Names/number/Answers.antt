use Rattle.ec_calls.proofs.Numbering.{placed_at}
use Rattle.ec_calls.proofs.names.Names.number.Goals as goal

pub returns : goal.returns
returns c =
    placed_at c.self.inside.set.keys c.args.self.now c.as_slice.result.now c.args.name.now c.get_index_of.result
    c.self.view_is c.as_slice.ensures
    c.get_index_of.ensures.index
