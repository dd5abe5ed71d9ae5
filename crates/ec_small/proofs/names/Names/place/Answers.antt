use Rattle.std.proofs.Common.{sym, ◌∙◌}
use Rattle.ec_small.proofs.Places.{placed_at}
use Rattle.ec_small.proofs.names.Names.place.Goals as goal

pub returns-in_err-index : goal.returns-in_err-index
returns-in_err-index c =
    c.from_residual.ensures ∙ sym c.in_err-index.was
    ∙ placed_at c.self.inside.set.keys c.args.self.now c.as_slice.result.now c.args.word.now c.get_index_of.result c.self.view_is c.as_slice.ensures c.get_index_of.ensures.index

pub returns : goal.returns
returns c =
    sym c.in_ok-index.was
    ∙ placed_at c.self.inside.set.keys c.args.self.now c.as_slice.result.now c.args.word.now c.get_index_of.result c.self.view_is c.as_slice.ensures c.get_index_of.ensures.index
