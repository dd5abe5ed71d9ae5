use Rattle.std.proofs.Common.{map}
use Rattle.ec_types.specs.Meaning.Resolution as resolution
use Rattle.ec_resolve.specs.Erased.{variable}
use Rattle.ec_resolve.specs.Seen.{scope}
use Rattle.ec_resolve.proofs.Lists.{goes_on}
use Rattle.ec_resolve.proofs.scope.Scope.declared.Goals as goal

pub loop-d-preserved : goal.loop-d-preserved
loop-d-preserved c =
    let items = c.all-d-items.result.now in
    let resolved = resolution.variable (scope c.args.self.now).structs in
    goes_on variable resolved (λ d. d.now) (map resolved (map (λ d. d.now) items)) c.loop-d.declared c.push.new.self items
    c.loop-d.d-index c.in_ok-variable.field-0 c.d-item.result c.loop-d-test.true c.d-item.is
    c.in_ok-variable.ensures c.in_ok-push.ensures.ok c.loop-d.invariant
