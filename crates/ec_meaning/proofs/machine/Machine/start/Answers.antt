use Rattle.std.proofs.Common.{refl, ◌∙◌}
use Rattle.ec_meaning.proofs.Finale.{starts_there}
use Rattle.ec_meaning.proofs.machine.Machine.start.Goals as goal

pub returns : goal.returns
returns c =
    starts_there c.args.functions.now c.args.main.now c.args.args.now c.args.ticks _ _ refl
    c.in_ok-of_function.ensures.works c.in_ok-of_function.ensures.hand (c.as_slice.ensures.value ∙ c.in_ok-values.ensures) c.new.ensures c.in_ok-of_main.ensures refl
