use Rattle.std.proofs.Common.{◌∙◌, ◌∷◌, [], sym}
use Rattle.ec_calls.proofs.Lowering.{taken, taken_falls, untouched}
use Rattle.ec_calls.proofs.reach.relax.Goals as goal

pub returns-then-is_sooner-clause-lowers : goal.returns-then-is_sooner-clause-lowers
returns-then-is_sooner-clause-lowers c =
    taken c.args.places.now c.args.call c.requires (sym c.is_sooner.ensures.sooner ∙ c.if-is_sooner.true)

pub returns-then-is_sooner-clause-falls : goal.returns-then-is_sooner-clause-falls
returns-then-is_sooner-clause-falls c =
    taken_falls c.args.places.now c.args.call c.requires (sym c.is_sooner.ensures.sooner ∙ c.if-is_sooner.true)
    (c.is_sooner.ensures.starts c.if-is_sooner.true)

pub returns-clause-lowers : goal.returns-clause-lowers
returns-clause-lowers c = untouched (c.args.call ∷ []) c.args.places.now
