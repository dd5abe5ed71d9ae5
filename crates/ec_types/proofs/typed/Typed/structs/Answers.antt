use Rattle.std.proofs.Common.{◌≡◌, true, subst}
use Rattle.std.specs.List.{list_all}
use Rattle.ec_calls.specs.Items as declared
use Rattle.ec_types.specs.Sizes as sizes
use Rattle.ec_types.proofs.Verdicts.{all_small}
use Rattle.ec_types.proofs.typed.Typed.structs.Goals as goal

pub returns-clause-small : goal.returns-clause-small
returns-clause-small c =
    subst (λ p. list_all sizes.is_small (declared.structs p) ≡ true) c.self.view_is (all_small c.self.inside.program c.self.invariant.0)
