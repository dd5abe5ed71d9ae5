use Rattle.std.proofs.Common.{map}
use Rattle.ec_types.specs.Meaning.Resolution as resolution
use Rattle.ec_resolve.specs.Erased.{function}
use Rattle.ec_resolve.proofs.Lists.{goes_on}
use Rattle.ec_resolve.proofs.resolving.all_functions.Goals as goal

pub loop-f-preserved : goal.loop-f-preserved
loop-f-preserved c =
    let items = c.all-f-items.result.now in
    let resolved = resolution.function c.args.structs.now c.args.functions.now in
    goes_on function resolved (λ f. f.now) (map resolved (map (λ f. f.now) items)) c.loop-f.all c.push.new.self items
    c.loop-f.f-index c.in_ok-function.field-0 c.f-item.result c.loop-f-test.true c.f-item.is
    c.in_ok-function.ensures c.in_ok-push.ensures.ok c.loop-f.invariant
