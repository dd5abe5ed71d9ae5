use Rattle.std.proofs.Common.{refl, ◌+◌, map, sym, arith}
use Rattle.ec_types.specs.Judged.{every}
use Rattle.ec_types.specs.Seen.{function_by}
use Rattle.ec_types.proofs.Bodies.Lists.{goes_on_with}
use Rattle.ec_types.proofs.function.all_functions.Goals as goal

pub loop-f-preserved : goal.loop-f-preserved
loop-f-preserved c =
    goes_on_with {one = λ f. function_by c.args.tables.now f.now} {all = λ fs. every (map (function_by c.args.tables.now) (map (λ f. f.now) fs))}
    (record { none = refl; more = λ x xs. refl }) c.all-f-items.result.now c.loop-f.f-index (c.loop-f.f-index + 1) c.f-item.result
    c.also-so_far.result (omega arith) c.loop-f-test.true (sym c.f-item.is) (c.also-so_far.ensures _ _ c.loop-f.invariant c.function.ensures)
