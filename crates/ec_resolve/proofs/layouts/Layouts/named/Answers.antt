use Rattle.ec_resolve.proofs.Named.{named_small}
use Rattle.ec_resolve.proofs.layouts.Layouts.named.Goals as goal

pub returns-clause-small : goal.returns-clause-small
returns-clause-small c =
    named_small c.self.inside.structs c.args.name.now c.named.result c.self.invariant.1.0 c.named.ensures
