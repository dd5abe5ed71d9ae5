use Rattle.std.proofs.Common.{◌∙◌, ap}
use Rattle.ec_meaning.specs.Seen as seen
use Rattle.ec_meaning.proofs.Tables.{table_padded}
use Rattle.ec_meaning.proofs.holding.reach_to.Goals as goal

pub loop-vars-preserved : goal.loop-vars-preserved
loop-vars-preserved c =
    λ u. ap (seen.table u) c.in_ok-push.ensures.items ∙ table_padded u c.loop-vars.vars.items ∙ c.loop-vars.invariant u
