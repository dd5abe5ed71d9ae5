use Rattle.std.proofs.Common.{◌∙◌}
use Rattle.ec_calls.proofs.Numbering.{declared}
use Rattle.ec_calls.proofs.names.Names.add.Goals as goal

pub returns : goal.returns
returns c =
    declared c.self.inside.set.keys c.insert.new.self.keys c.into_vec-bytes.result c.args.self.now c.args.name.now
    c.self.view_is
    (c.into_vec-bytes.ensures ∙ c.in_ok-copy.ensures) c.requires c.in_ok-insert.ensures.keys
