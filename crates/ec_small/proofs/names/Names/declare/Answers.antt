use Rattle.ec_small.proofs.Places.{declared}
use Rattle.std.proofs.Common.{◌∙◌}
use Rattle.ec_small.proofs.names.Names.declare.Goals as goal

pub returns-clause-ok : goal.returns-clause-ok
returns-clause-ok c =
    declared c.self.inside.set.keys c.insert.new.self.keys c.into_vec-bytes.result c.args.self.now c.args.word.now c.self.view_is
    (c.into_vec-bytes.ensures ∙ c.in_ok-copy.ensures) c.requires.fresh c.in_ok-insert.ensures.keys
