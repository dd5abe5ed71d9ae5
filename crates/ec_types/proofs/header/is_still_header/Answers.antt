use Rattle.std.proofs.Common.{sym, subst}
use Rattle.ec_calls.specs.Effects.{effects}
use Rattle.ec_types.specs.Headers.{no_effects}
use Rattle.ec_types.specs.Judged.{Gives, ◌also◌}
use Rattle.ec_types.proofs.Bodies.Headers.{still_sides, of_header}
use Rattle.ec_types.proofs.header.is_still_header.Goals as goal

pub returns : goal.returns
returns c =
    let first = c.args.first.now in
    let test = no_effects (effects c.args.test.now) in
    let last = c.args.last.now in
    subst (Gives c.also-2.result) (sym (of_header first c.args.test.now last))
    (c.also-2.ensures (still_sides first) (test also still_sides last)
    (c.also-first.ensures (no_effects (effects first.left)) (no_effects (effects first.right)) c.is_still.ensures c.is_still-2.ensures)
    (c.also.ensures test (still_sides last) c.is_still-5.ensures
    (c.also-last.ensures (no_effects (effects last.left)) (no_effects (effects last.right)) c.is_still-3.ensures c.is_still-4.ensures)))
